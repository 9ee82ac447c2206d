-- THE WORDS THAT ARE FOUND are those of the first codeword of least cost.
-- Assumes nothing.
use Rattle.basics.proofs.Kit.{◌≡◌, sym, ap, ap₂, ◌∙◌, true, List, ℕ, ◌+◌, ◌-◌, ◌*◌, ◌^◌, ◌≤◌, ◌<◌, arith, length, get_or, ℤ}
use native.Mathlib.Nat.{pow-le-pow_right, zero-lt-suc}
use Rattle.order.specs.Order.{not_after}
use Rattle.order.specs.Number.{number}
use Rattle.code.specs.declared.shape.Shape.{Shape}
use Rattle.code.specs.Code.{is_codeword}
use Rattle.code.proofs.Words.{Below}
use Rattle.tails.specs.Tails.{visited}
use Rattle.metric.specs.Cost.{cost, Least}
use Rattle.trellis.specs.Trellis.{final, first_word}
use Rattle.trellis.specs.Trellis as TR'
use Rattle.trellis.specs.Rows as M
use Rattle.trellis.specs.Rows.{layer, weave, first_words, weighed}
use Rattle.trellis.proofs.Firsts.{firsts}
use Rattle.trellis.proofs.Trellis as TT
use Rattle.trellis.proofs.Least.{least_le}
use Rattle.lanes.specs.Lanes.{entry, lane, lanes}
use Rattle.lanes.proofs.Rows.{lanes_at}
use Rattle.coset.specs.Coset.{none, first}
use Rattle.gather.specs.Gather.{key_cost}
use Rattle.walk.specs.Walk.{sum4, spot, least_total}
use Rattle.ties.specs.Ties.{spaced, number_of, word_at}
use Rattle.bridge.proofs.Engine.{over}
use Rattle.bridge.proofs.Bridge.{free_two}
use Rattle.bridge.proofs.Traced as TR
use Rattle.bridge.proofs.Foremost as O
use Rattle.search.specs.Within.{cap, bound, Input, Tabled, Costing, Laid, FirstWords, slots_of, steps_of, turns_of, words_of, leading}
use Rattle.search.proofs.Laying.{number_same}
use Rattle.search.proofs.Searching as A
use Rattle.search.proofs.Wording.{leading_number, spaced_number}
use Rattle.coset.proofs.Search as C

-- a word that comes first among the codewords of least cost
pub record Best (m r : ℕ) (row : List ℤ) (word : List ℕ) (x : ℕ) : Type 0 where
  pub codeword : is_codeword m r word ≡ true
  pub costs : cost m row word ≡ x
  pub is_least : Least m (is_codeword m r) row x
  pub first : (vs : List ℕ) → is_codeword m r vs ≡ true → cost m row vs ≡ x → not_after word vs ≡ true

module _ {s : Shape} {row : List ℤ} {hs zs os t : List ℕ} {kept : List ℤ} (z : Input s row) (b : Tabled s row hs zs os t kept) {places f : List ℕ} (l : Laid s (key_cost t) places f) where
  costing : Costing s hs zs os (key_cost t)
  costing = A.key_costing z b.layered b.keys

  abbrev coset : ℕ → ℕ → ℕ
  coset = visited s.m s.r

  abbrev tuples : ℕ
  tuples = turns_of s * 16

  abbrev F : ℕ → ℕ → ℕ
  F = A.F z b.layered

  -- the first bits of layer j in a coset
  abbrev bits : (j x : ℕ) → List ℕ
  bits j x = first_word (layer hs zs os j) none (length hs) x

  minus : (i : ℕ) → i - 0 ≡ i
  minus i = omega arith

  same : (j x : ℕ) → first hs zs os 0 j x ≡ bits j x
  same j x = ap (λ (i : ℕ). TR'.trace (layer hs zs os j) (final none) 0 i x) (minus (length hs))

  bits_long : (j x : ℕ) → length (bits j x) ≡ length hs
  bits_long j x = (TT.traced (layer hs zs os j) (final none) 0 (length hs) x).count

  bits_two : (j x : ℕ) → Below 2 (bits j x)
  bits_two j x = free_two 0 (bits j x) (TT.traced (layer hs zs os j) (final none) 0 (length hs) x).held

  -- the word at a place of a tuple
  word_is : (i j : ℕ) → i < tuples → j < 4 → word_at t places (spot (slots_of s) (steps_of s) i j) ≡ number 2 (bits j (coset i j))
  word_is i j li lj =
      let x : ℕ = coset i j in
      let lx : x < s.size = A.coset_in z b.layered i j lj in
      let h : 2 ^ length hs ≤ 2 ^ 15 = pow-le-pow_right (zero-lt-suc 1) (A.few z b.layered) in
      let e : get_or t (get_or places (spot (slots_of s) (steps_of s) i j) 0) 0 ≡ entry t x j = ap (λ (n : ℕ). get_or t n 0) (A.stands z b.layered costing l i j li lj) in
      omega (arith, e, b.keys.keys x j lx lj, C.number_whole b.layered.layers lj x lx, ap (number 2) (same j x))

  words_lane : (i j : ℕ) → i < tuples → j < 4 → lane (words_of s t places i) j ≡ number 2 (bits j (coset i j))
  words_lane i j li lj = lanes_at (λ j. word_at t places (spot (slots_of s) (steps_of s) i j)) j lj ∙ word_is i j li lj

  -- its weight in the number of the word
  spaced_is : (i j : ℕ) → i < tuples → j < 4 → spaced 16 (lane (words_of s t places i) j) ≡ number 16 (bits j (coset i j))
  spaced_is i j li lj = ap (spaced 16) (words_lane i j li lj) ∙ spaced_number 16 (bits j (coset i j)) (omega (arith, bits_long j (coset i j), A.few z b.layered)) (bits_two j (coset i j))

  numbers : (i : ℕ) → i < tuples → number_of (words_of s t places i) ≡ sum4 (λ j. weighed j (bits j (coset i j)))
  unfolding number_of weighed
  numbers i li =
      ap₂ (λ (a c : ℕ). a + c)
      (ap₂ (λ (a c : ℕ). a + c)
      (ap₂ (λ (a c : ℕ). a + c) (ap (λ (a : ℕ). 2 ^ 0 * a) (spaced_is i 0 li (omega arith))) (ap (λ (a : ℕ). 2 ^ 1 * a) (spaced_is i 1 li (omega arith))))
      (ap (λ (a : ℕ). 2 ^ 2 * a) (spaced_is i 2 li (omega arith))))
      (ap (λ (a : ℕ). 2 ^ 3 * a) (spaced_is i 3 li (omega arith)))

  module _ {x : ℕ} {best word : List ℕ} (e : x ≡ least_total cap f (slots_of s) (steps_of s) (turns_of s)) (w : FirstWords s t places f x best)
      (ew : word ≡ weave (λ j. leading s.n (lane best j))) where
    abbrev i : ℕ
    i = w.found.0

    abbrev li : i < tuples
    li = w.found.1.0

    abbrev at : List ℕ
    at = lanes (coset i)

    small : x < bound
    small = rw e (A.least_small z b.layered costing l)

    over_is : over F (coset i) ≡ x
    over_is = sym (A.total_is z b.layered costing l i li) ∙ w.found.1.1

    spelt : (j : ℕ) → j < 4 → leading s.n (lane best j) ≡ bits j (lane at j)
    spelt j lj =
        ap₂ leading (s.numbers.n_is ∙ sym (A.n_is z b.layered) ∙ sym (bits_long j (coset i j))) (w.found.2 j lj ∙ word_is i j li lj)
        ∙ leading_number (bits j (coset i j)) (bits_two j (coset i j))
        ∙ ap (bits j) (sym (lanes_at (coset i) j lj))

    word_spelt : word ≡ first_words none hs zs os at
    unfolding weave
    word_spelt = ew ∙ woven (spelt 0 (omega arith)) (spelt 1 (omega arith)) (spelt 2 (omega arith)) (spelt 3 (omega arith))
      where
        woven : {a0 a1 a2 a3 b0 b1 b2 b3 : List ℕ} → a0 ≡ b0 → a1 ≡ b1 → a2 ≡ b2 → a3 ≡ b3 → M.merge a0 (M.merge a1 (M.merge a2 a3)) ≡ M.merge b0 (M.merge b1 (M.merge b2 b3))
        woven p q r s = cc

    pub best_ok : Best s.m s.r row word x
    best_ok =
        let p = TR.word (A.y z b.layered) none i li (omega (arith, over_is, small)) at (lanes_at (coset i)) in
        let g = O.first_best (A.y z b.layered) none (firsts none hs zs os) at x p.0 (omega (arith, small)) (λ k lk. omega (arith, e, A.totals_are z b.layered costing l, least_le (λ k. over F (coset k)) cap tuples k lk)) lowest in
        record {
          codeword = ap (is_codeword s.m s.r) word_spelt ∙ p.0;
          costs = ap (cost s.m row) word_spelt ∙ p.1 ∙ over_is;
          is_least = rw e (A.least_is z b.layered costing l);
          first = λ vs cv h. ap (λ (u : List ℕ). not_after u vs) word_spelt ∙ g vs cv h;
        }
      where
        lowest : (k : ℕ) → k < tuples → over F (coset k) ≡ x → sum4 (λ j. weighed j (bits j (lane at j))) ≤ sum4 (λ j. weighed j (bits j (coset k j)))
        lowest k lk h =
            rw (lanes_at (coset i) 0 (omega arith), lanes_at (coset i) 1 (omega arith), lanes_at (coset i) 2 (omega arith), lanes_at (coset i) 3 (omega arith))
            (omega (arith, w.first k (lk, A.total_is z b.layered costing l k lk ∙ h), number_same best (words_of s t places i) (λ j lj. w.found.2 j lj ∙ sym (lanes_at (λ j. word_at t places (spot (slots_of s) (steps_of s) i j)) j lj)), numbers i li, numbers k lk))
