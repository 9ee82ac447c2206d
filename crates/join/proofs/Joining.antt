-- A word whose layers are BCH words with the leaders of a configuration added has that configuration; so it is a codeword exactly when that is valid.
-- Assumes nothing.
use Rattle.basics.proofs.Kit.{◌≡◌, sym, ap, ap₂, ◌∙◌, true, List, [], ◌∷◌, ℕ, zero, suc, ◌^◌, ◌≤◌, ◌<◌, arith, length, get_or, take}
use native.Mathlib.Nat.{not-suc-le-zero, le_of_suc-le-suc, eq-or-lt_of_le}
use mathlib.Core.Logic.{◌⊎◌, inl, inr}
use lib.Seq.{ext_get_or, get_or-take, length-take-le}
use Rattle.field.specs.Field.{width_good, xor}
use Rattle.field.proofs.Tests.{and_l, to_T}
use Rattle.field.proofs.Xor as X
use Rattle.code.specs.Code.{long, symbols_good, is_codeword, accepted}
use Rattle.code.specs.Bits.{bits_of, row_long}
use Rattle.code.proofs.Accepted.{accepted_parts, width_small}
use Rattle.code.proofs.Words.{Below, below, good, widen}
use Rattle.split.specs.Split.{layer, syndrome, syndromes, cosets, valid, all_below, Binary, Leader, sum}
use Rattle.split.specs.Promise.{GluedRight, OneLeader}
use Rattle.split.proofs.Layers as L
use Rattle.split.proofs.Glue.{glued_right}
use Rattle.split.proofs.Columns.{syndrome_sum}
use Rattle.split.proofs.Syndromes.{size_small, place_at, places}
use Rattle.split.proofs.Leaders.{the_leader, the_leader_leads, one_leader}
use Rattle.join.specs.Calls.{part, all_bch, in_range}
use Rattle.join.specs.Within.{with_layer, Joined}
use Rattle.join.proofs.Raising.{raised_length, raised_below, raised_here, raised_others}
use Rattle.join.proofs.Bch.{Bch, word_of}

-- a number of a list below a bound
pub place_below : (n : ℕ) (xs : List ℕ) (i : ℕ) → Below n xs → i < length xs → get_or xs i 0 < n
place_below n [] i p h = absurd (not-suc-le-zero h)
place_below n (x ∷ xs) zero p h = p.0
place_below n (x ∷ xs) (suc i) p h = place_below n xs i p.1 (le_of_suc-le-suc h)

-- the first m places of a configuration in range are syndromes
pub coset_of : (m r : ℕ) (ss : List ℕ) → width_good m ≡ true → length ss ≡ 4 → in_range m r ss ≡ true → (j : ℕ) → j < m → get_or ss j 0 < cosets m r
unfolding in_range
coset_of m r ss w l e j h =
    let n : length (take m ss) ≡ m = length-take-le m ss (omega (arith, width_small m w)) in
    let b : Below (cosets m r) (take m ss) = L.below (cosets m r) (take m ss) (and_l (all_below (cosets m r) (take m ss)) _ (to_T e)) in
    rw (get_or-take m ss j 0 h) at (place_below (cosets m r) (take m ss) j b (omega (arith, n)))

-- THE SYNDROMES of a word whose layers are BCH words with leaders added
module _ (m r : ℕ) (ss bs ws : List ℕ) (leads : ℕ → List ℕ) (w : width_good m ≡ true) (n : length ws ≡ long m) (l : m ≤ length ss)
    (each : (j : ℕ) → j < m → Bch m r (part m j bs)) (lead : (j : ℕ) → j < m → Leader m r (get_or ss j 0) (leads j))
    (layers : (j : ℕ) → j < m → layer j ws ≡ sum (part m j bs) (leads j)) where
  pub syndrome_is : (j : ℕ) → j < m → syndrome m r (layer j ws) ≡ get_or ss j 0
  syndrome_is j h =
      ap (syndrome m r) (layers j h) ∙ syndrome_sum m r (part m j bs) (leads j) w (each j h).binary (lead j h).binary
      ∙ ap₂ xor (each j h).none (lead j h).of_coset ∙ X.zero_l (get_or ss j 0)

  pub syndromes_are : syndromes m r ws ≡ take m ss
  syndromes_are =
      ext_get_or 0 (syndromes m r ws) (take m ss) (places m r ws ∙ sym (length-take-le m ss l))
      (λ i h. let k : i < m = omega (arith, places m r ws) in place_at m r i ws k ∙ syndrome_is i k ∙ sym (get_or-take m ss i 0 k))

  pub valid_is : r ≤ 6 → symbols_good m ws ≡ true → is_codeword m r ws ≡ valid m r (take m ss)
  unfolding GluedRight
  valid_is six g = glued_right m r ws w six n g ∙ ap (valid m r) syndromes_are

-- SO MANY LAYERS are written: those that are, and nothing above them
pub record Written (m r : ℕ) (ss bs ws : List ℕ) (k : ℕ) : Type 0 where
  pub count : length ws ≡ long m
  pub small : Below (2 ^ k) ws
  pub layers : (j : ℕ) → j < k → layer j ws ≡ sum (part m j bs) (the_leader m r (get_or ss j 0))

module _ (m r : ℕ) (ss bs : List ℕ) (a : accepted m r ≡ true) (l : length ss ≡ 4) (inside : in_range m r ss ≡ true)
    (n : length bs ≡ row_long m) (all : all_bch m 0 m r bs ≡ true) where
  w : width_good m ≡ true
  w = (accepted_parts m r a).wide

  each : (j : ℕ) → j < m → Bch m r (part m j bs)
  each = word_of m r bs n all

  lead : (j : ℕ) → j < m → Leader m r (get_or ss j 0) (the_leader m r (get_or ss j 0))
  lead j h = the_leader_leads m r (get_or ss j 0) a (coset_of m r ss w l inside j h)

  pub next_layer : (ws : List ℕ) (k x : ℕ) → k < m → Written m r ss bs ws k → Leader m r (get_or ss k 0) (bits_of (long m) x) →
      Written m r ss bs (with_layer k ws (sum (part m k bs) (bits_of (length (part m k bs)) x))) (suc k)
  unfolding OneLeader
  next_layer ws k x h v g =
      let p : List ℕ = part m k bs in
      let e : bits_of (length p) x ≡ the_leader m r (get_or ss k 0) = ap (λ (i : ℕ). bits_of i x) (each k h).binary.count ∙ one_leader m r (get_or ss k 0) _ _ g (lead k h) in
      let to : List ℕ = sum p (the_leader m r (get_or ss k 0)) in
      let b : Binary m to = L.sum_binary m p (the_leader m r (get_or ss k 0)) (each k h).binary (lead k h).binary in
      let s : length ws ≡ length to = v.count ∙ sym b.count in
      let four : k < 4 = omega (arith, width_small m w) in
      rw e (record {
        count = raised_length k ws to s ∙ v.count;
        small = raised_below k four ws to v.small (L.bits m to b);
        layers = λ j i. pick (with_layer k ws to) j (eq-or-lt_of_le (le_of_suc-le-suc i)) (raised_here k four ws to s v.small (L.bits m to b))
            (λ o. raised_others k four j o ws to s v.small (L.bits m to b) ∙ v.layers j o);
      })
    where
      pick : (x : List ℕ) (j : ℕ) → (j ≡ k) ⊎ (j < k) → layer k x ≡ sum (part m k bs) (the_leader m r (get_or ss k 0)) →
          (j < k → layer j x ≡ sum (part m j bs) (the_leader m r (get_or ss j 0))) → layer j x ≡ sum (part m j bs) (the_leader m r (get_or ss j 0))
      pick x j (inl e) f g = rw e f
      pick x j (inr o) f g = g o

  pub all_written : (ws : List ℕ) → Written m r ss bs ws m → Joined m r ss bs ws
  all_written ws v =
      let g : symbols_good m ws ≡ true = good m ws v.small in
      record {
        count = v.count;
        symbols = g;
        codeword_is = valid_is m r ss bs ws (λ j. the_leader m r (get_or ss j 0)) w v.count (omega (arith, width_small m w)) each lead v.layers (accepted_parts m r a).six g;
        right = λ c. record { codeword = c; leaders = λ j. the_leader m r (get_or ss j 0); lead = lead; layers = v.layers };
      }

-- symbols fit four bits
pub symbols_small : (m : ℕ) (ws : List ℕ) → width_good m ≡ true → symbols_good m ws ≡ true → all_below 16 ws ≡ true
symbols_small m ws w g = L.all_of 16 ws (widen (size_small m w) ws (below m ws (to_T g)))

pub none_written : (m r : ℕ) (ss bs ws : List ℕ) → length ws ≡ long m → all_below 1 ws ≡ true → Written m r ss bs ws 0
none_written m r ss bs ws n z = record { count = n; small = L.below 1 ws (to_T z); layers = λ j h. absurd (not-suc-le-zero h) }
