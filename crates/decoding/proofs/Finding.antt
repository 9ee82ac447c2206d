-- From the walk to the first best word and to the soft outputs.
-- Assumes nothing.
use Rattle.basics.proofs.Kit.{◌≡◌, refl, sym, ap, ◌∙◌, Bool, true, false, cond, List, ℕ, ◌+◌, ◌-◌, ◌*◌, ◌≤◌, ◌<◌, arith, length, get_or, take, eqb, ℤ}
use borrow.Author.Tests.{eqb-true}
use native.Mathlib.Nat.{mul-le-mul_right}
use Rattle.code.specs.declared.shape.Shape.{Shape}
use Rattle.lanes.specs.Lanes.{entry, lane}
use Rattle.trellis.specs.Rows.{weave}
use Rattle.gather.specs.Gather.{key_cost, Scattered}
use Rattle.walk.specs.Walk.{sum4, spot, total, least_at, Marginals}
use Rattle.trellis.proofs.Least.{le_least, least_cap}
use Rattle.lanes.proofs.Rows.{four}
use Rattle.coset.specs.Coset.{none}
use Rattle.pass.specs.Pass.{Pass, Passed}
use Rattle.bridge.specs.Bridge.{Setting}
use Rattle.bridge.proofs.Found as S
use Rattle.tails.specs.Tails.{visited}
use Rattle.code.specs.Code.{long}
use Rattle.code.proofs.Accepted.{width_small}
use Rattle.search.proofs.Heads as H
use Rattle.search.specs.Within.{cap, bound, Input, Tabled, Costing, Cheap, Laid, Walked, leading, slots_of, steps_of, turns_of}
use Rattle.search.proofs.Searching as A
use Rattle.search.proofs.Foremost as O
use Rattle.decoding.specs.Within.{Found, Softs, SoftenRoom}

module _ {s : Shape} {row : List ℤ} {hs zs os t : List ℕ} {kept : List ℤ} (z : Input s row) (b : Tabled s row hs zs os t kept) where
  costing : Costing s hs zs os (key_cost t)
  costing = A.key_costing z b.layered b.keys

  pub cheap_ok : Cheap (key_cost t) (length t)
  cheap_ok = A.cheap z b.layered costing b.keys.long

  pub found : {places f g word words : List ℕ} {x : ℕ} → Walked s t places (take (length places) f) (take (length places) g) x words → word ≡ weave (λ j. leading s.n (lane words j)) →
      Found s row hs zs os t places f g kept word x
  found w e =
      let o = O.best_ok z b w.laid w.least w.words e in
      record {
        tabled = b;
        laid = w.laid;
        best = record { codeword = o.codeword; costs = o.costs; is_least = o.is_least; first = o.first };
        marginals = w.marginals;
      }

  -- THE SOFT OUTPUTS
  module _ {places f : List ℕ} (l : Laid s (key_cost t) places f) (g : List ℕ) (mg : Marginals (turns_of s) cap f (slots_of s) (steps_of s) g) (lg : length g ≡ length places) where
    cost_le : (p : ℕ) → p < length places → get_or f p 0 ≤ 1905
    cost_le p h = omega (arith, l.gathered.costs p h, cheap_ok (get_or places p 0) (omega (arith, l.placed.inside p h, b.keys.long)))

    -- no place costs more than the least total with it
    pub own_le : (p : ℕ) → p < length places → get_or f p 0 ≤ get_or g p 0
    own_le p h =
        let o = A.in_slot z b.layered costing l p h in
        let m : get_or g p 0 ≡ least_at cap f (slots_of s) (steps_of s) (turns_of s) o.0 p = mg o.0 p o.1 o.2 o.3 in
        omega (
          arith,
          le_least (λ i. cond (eqb (spot (slots_of s) (steps_of s) i o.0) p) (total f (slots_of s) (steps_of s) i) cap) cap (turns_of s * 16) (get_or f p 0) (omega (arith, cost_le p h)) (λ i li. held o.0 o.1 i (eqb (spot (slots_of s) (steps_of s) i o.0) p) refl),
        )
      where
        part : (f : ℕ → ℕ) (j : ℕ) → j < 4 → f j ≤ sum4 f
        part f = four (λ j. f j ≤ sum4 f) (omega arith) (omega arith) (omega arith) (omega arith)

        held : (j : ℕ) → j < 4 → (i : ℕ) → (y : Bool) → eqb (spot (slots_of s) (steps_of s) i j) p ≡ y → get_or f p 0 ≤ cond y (total f (slots_of s) (steps_of s) i) cap
        held j lj i true y =
            let q : spot (slots_of s) (steps_of s) i j ≡ p = eqb-true (spot (slots_of s) (steps_of s) i j) p y in
            let u : get_or f (spot (slots_of s) (steps_of s) i j) 0 ≤ total f (slots_of s) (steps_of s) i = unfold total in part (λ j. get_or f (spot (slots_of s) (steps_of s) i j) 0) j lj in
            omega (arith, ap (λ (x : ℕ). get_or f x 0) q)
        held j lj i false y = omega (arith, cost_le p h)

    module _ {a : List ℕ} (sc : Scattered cap f g places a) (long_a : length a ≡ s.size * 4) where
      abbrev y : Setting s.m s.r hs (turns_of s * 16) (visited s.m s.r) row zs os
      y = A.y z b.layered

      pub pass_ok : {f₀ g₀ g' zero one : List ℕ} {soft : List ℤ} → SoftenRoom s places f₀ g₀ kept zero one soft → length g' ≡ s.size * 4 →
          Pass s.q s.size cap a g' hs zs os kept zero one
      pass_ok r e = record {
        top = b.layered.layers.top;
        cost_zs = b.layered.layers.cost_zs;
        cost_os = b.layered.layers.cost_os;
        tables = b.tables;
        head = omega (arith, A.n_is z b.layered, s.numbers.q_is, H.head_there s.m s.r s.numbers.accepted_is);
        length_a = long_a;
        length_g = e;
        length_kept = rw (A.n_is z b.layered, s.numbers.size_is, s.numbers.q_is, r.length_scratch) (H.kept_in s.m s.r s.numbers.accepted_is);
        start = λ x j lx lj. omega (arith, sc.others (x * 4 + j) (omega (arith, long_a)), least_cap (λ p. cond (eqb (get_or places p 0) (x * 4 + j)) (get_or g p 0 - get_or f p 0) cap) cap (length places));
        cap_small = rw b.layered.top_is (omega (arith, mul-le-mul_right 127 (A.few z b.layered)));
        length_zero = r.length_zero ∙ ap (λ (n : ℕ). n * 4) (s.numbers.n_is ∙ sym (A.n_is z b.layered));
        length_one = r.length_one ∙ ap (λ (n : ℕ). n * 4) (s.numbers.n_is ∙ sym (A.n_is z b.layered));
      }

      pub softs_ok : (za oa : List ℕ) → Passed s.size cap a hs zs os 0 (length hs) za → Passed s.size cap a hs zs os 1 (length hs) oa → Softs s row za oa
      softs_ok za oa p0 p1 i j li lj =
          let l4 : j < 4 = omega (arith, width_small s.m s.numbers.width_is) in
          let hi : i < long s.m = omega (arith, s.numbers.n_is) in
          let hn : i < length hs = omega (arith, A.n_is z b.layered, s.numbers.n_is) in
          let o = A.others_ok z b.layered costing l mg lg sc long_a j l4 in
          let e0 = p0 i j hn l4 in
          let e1 = p1 i j hn l4 in
          rw (e0, e1) (
            S.least_with y none cap bound (A.light z b.layered) (omega arith) (omega arith) i j 0 hi lj (omega arith) s.size (λ x. entry a x j) o (λ k lk. A.coset_in z b.layered k j l4),
            S.least_with y none cap bound (A.light z b.layered) (omega arith) (omega arith) i j 1 hi lj (omega arith) s.size (λ x. entry a x j) o (λ k lk. A.coset_in z b.layered k j l4),
            S.soft_small y none cap bound (A.light z b.layered) (omega arith) (omega arith) i j 0 hi lj (omega arith) s.size (λ x. entry a x j) o (λ k lk. A.coset_in z b.layered k j l4),
            S.soft_small y none cap bound (A.light z b.layered) (omega arith) (omega arith) i j 1 hi lj (omega arith) s.size (λ x. entry a x j) o (λ k lk. A.coset_in z b.layered k j l4),
          )
