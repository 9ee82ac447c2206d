-- THE SEARCH AT AN ACCEPTED ROW: that the least total is the least cost of a codeword, that the words it names are those of the first
-- such codeword, and that what it leaves for each coset is what the other layers cost.
-- Assumes nothing.
use Rattle.basics.proofs.Kit.{◌≡◌, refl, sym, ap, ◌∙◌, Bool, true, false, cond, List, ℕ, suc, ◌+◌, ◌-◌, ◌*◌, ◌/◌, ◌%◌, ◌^◌, ◌≤◌, ◌<◌, arith, length, get_or, eqb, ℤ}
use native.Mathlib.Nat.{mul_comm, mul-le-mul_left, mul-le-mul_right, pow-le-pow_right, zero-lt-suc}
use native.Mathlib.Decide.{dec_le}
use borrow.Author.Tests.{eq-eqb, eqb-true}
use Rattle.field.proofs.Tests.{widths}
use Rattle.code.specs.declared.shape.Shape.{Shape}
use Rattle.code.specs.Code.{long, is_codeword}
use Rattle.code.specs.Bits.{row_long}
use Rattle.split.specs.Split.{layer}
use Rattle.tails.specs.Tails.{added, visited}
use Rattle.tails.specs.Promise.{CodewordsVisited}
use Rattle.spots.specs.Spots.{slots_from, slots}
use Rattle.spots.specs.Promise.{SpotVisited, VisitedInside, VisitedHigh}
use Rattle.metric.specs.Row.{row_bound}
use Rattle.metric.specs.Cost.{weight_of, Least}
use Rattle.metric.proofs.Bounds.{weight_le}
use Rattle.trellis.specs.Trellis.{back, free, final, least_of}
use Rattle.trellis.specs.Rows.{layer as column-of}
use Rattle.trellis.proofs.Least.{least_same, least_le, least_found}
use Rattle.lanes.specs.Lanes.{entry}
use Rattle.coset.specs.Coset.{none, least, Keys}
use Rattle.gather.specs.Gather.{key_cost, Scattered}
use Rattle.walk.specs.Walk.{start, spot, total, least_total, least_at, Marginals}
use Rattle.bridge.specs.Bridge.{Setting}
use Rattle.bridge.proofs.Engine.{over, Others, part_le}
use Rattle.bridge.proofs.Bridge.{table}
use Rattle.bridge.proofs.Found as S
use Rattle.search.specs.Within.{cap, bound, Input, Layered, Costing, Laid, Cheap, slots_of, steps_of, turns_of}
use Rattle.tails.proofs.Walk.{codewords_visited}
use Rattle.spots.proofs.Walks.{spot_visited, visited_inside, visited_high}
use Rattle.coset.proofs.Search as C
use Rattle.tails.proofs.Codewords.{columns_long}
use Rattle.search.proofs.Laying.{spot_in, spot_long}

module _ {s : Shape} {row : List ℤ} {hs zs os : List ℕ} (z : Input s row) (b : Layered s row hs zs os) where
  abbrev coset : ℕ → ℕ → ℕ
  coset = visited s.m s.r

  abbrev tuples : ℕ
  tuples = turns_of s * 16

  pub n_is : length hs ≡ long s.m
  n_is = ap length b.headed ∙ columns_long s.m s.r s.numbers.accepted_is

  pub few : length hs ≤ 15
  unfolding long
  few = rw n_is (widths (λ (m : ℕ). long m ≤ 15) (omega arith) (omega arith) s.m s.numbers.width_is)

  -- WHAT THE CODE IS TO THE SEARCH
  pub y : Setting s.m s.r hs tuples coset row zs os
  unfolding CodewordsVisited VisitedHigh
  y = record {
    glue = record {
      width = s.numbers.width_is;
      few = s.numbers.few;
      count = n_is;
      there = λ ws cw.
          let f = (codewords_visited s.m s.r s.numbers.accepted_is).none_missing ws cw in
          (f.0, rw (mul_comm (turns_of s) 16) f.1, λ j lj. ap (λ (h : List ℕ). added h (layer j ws)) b.headed ∙ f.2 j lj);
      only = λ ws n g k lk f.
          (codewords_visited s.m s.r s.numbers.accepted_is).none_else ws n g k (rw (mul_comm (turns_of s) 16) at lk) (λ j lj. sym (ap (λ (h : List ℕ). added h (layer j ws)) b.headed) ∙ f j lj);
      high = λ k j lk u lj. visited_high s.m s.r k j s.numbers.accepted_is u lj;
    };
    length_row = z.length_row;
    costs = b.costs;
  }

  pub light : weight_of row < bound
  unfolding row_long long
  light =
      omega (arith, weight_le row_bound row z.good_row, z.length_row, widths (λ (m : ℕ). row_long m ≤ 60) (omega arith) (omega arith) s.m s.numbers.width_is)

  -- the layers' tables
  abbrev pub F : ℕ → ℕ → ℕ
  F = table y none (λ j. free)

  same : (j x : ℕ) → F j x ≡ least hs zs os 0 j x
  same j x = ap (λ (i : ℕ). back free (column-of hs zs os j) (final none) 0 i x) (sym (minus (length hs)))
    where
      minus : (i : ℕ) → i - 0 ≡ i
      minus i = omega arith

  pub F_le : (j x : ℕ) → j < 4 → x < s.size → F j x ≤ 1905
  F_le j x lj lx =
      omega (arith, same j x, C.whole_le b.layers lj x lx, mul-le-mul_left (length hs) (top_le b.top_is), mul-le-mul_right 127 few)
    where
      top_le : {a : ℕ} → a ≡ row_bound → a ≤ 127
      top_le e = omega arith

  pub coset_in : (i j : ℕ) → j < 4 → coset i j < s.size
  unfolding VisitedInside
  coset_in i j lj = rw (s.numbers.size_is, s.numbers.q_is) (visited_inside s.m s.r i j s.numbers.accepted_is lj)

  -- WHAT AN ENTRY COSTS, in a table of keys and in one of costs
  pub key_costing : {t : List ℕ} → Keys s.size hs zs os 0 t → Costing s hs zs os (key_cost t)
  key_costing k = record {
    entries = λ x j lx lj.
        let h : 2 ^ length hs ≤ 2 ^ 15 = pow-le-pow_right (zero-lt-suc 1) few in
        omega (arith, k.keys x j lx lj, C.number_whole b.layers lj x lx);
  }

  module _ {cost : ℕ → ℕ} (k : Costing s hs zs os cost) where
    entry_cost : (x j : ℕ) → x < s.size → j < 4 → cost (x * 4 + j) ≡ F j x
    entry_cost x j lx lj = k.entries x j lx lj ∙ sym (same j x)

    -- it is the cost of a word of a layer
    pub cheap : {n : ℕ} → n ≡ s.size * 4 → Cheap cost n
    cheap e x h =
        let lx : x / 4 < s.size = omega arith in
        let lj : x % 4 < 4 = omega arith in
        let d : x / 4 * 4 + x % 4 ≡ x = omega arith in
        omega (arith, ap cost d, entry_cost (x / 4) (x % 4) lx lj, F_le (x % 4) (x / 4) lj lx)

    -- over the places of the walk
    module _ {places f : List ℕ} (l : Laid s cost places f) where
      abbrev sl : List ℕ
      sl = slots_of s

      abbrev st : List ℕ
      st = steps_of s

      -- where tuple i stands in slot j
      pub stands : (i j : ℕ) → i < tuples → j < 4 → get_or places (spot sl st i j) 0 ≡ coset i j * 4 + j
      unfolding SpotVisited
      stands i j li lj = spot_visited s.m s.r s.size i j places s.numbers.accepted_is l.placed li lj

      place_cost : (i j : ℕ) → i < tuples → j < 4 → get_or f (spot sl st i j) 0 ≡ F j (coset i j)
      place_cost i j li lj =
          l.gathered.costs (spot sl st i j) (spot_long s l i j li lj)
          ∙ ap cost (stands i j li lj)
          ∙ entry_cost (coset i j) j (coset_in i j lj) lj

      pub total_is : (i : ℕ) → i < tuples → total f sl st i ≡ over F (coset i)
      unfolding total
      total_is i li = omega (arith, place_cost i 0 li (omega arith), place_cost i 1 li (omega arith), place_cost i 2 li (omega arith), place_cost i 3 li (omega arith))

      abbrev best : ℕ
      best = S.best y none cap bound light (omega arith) (omega arith)

      pub totals_are : least_total cap f sl st (turns_of s) ≡ best
      totals_are = least_same (total f sl st) (λ i. over F (coset i)) cap tuples total_is

      -- THE LEAST TOTAL is the least cost
      pub least_is : Least s.m (is_codeword s.m s.r) row (least_total cap f sl st (turns_of s))
      least_is = rw totals_are (S.least y none cap bound light (omega arith) (omega arith))

      pub least_small : least_total cap f sl st (turns_of s) < bound
      least_small = rw totals_are (S.best_small y none cap bound light (omega arith) (omega arith))

      -- a place is in some slot
      pub in_slot : (p : ℕ) → p < length places → (j : ℕ) × (j < 4) × (start sl j ≤ p) × (p < start sl (suc j))
      unfolding slots slots_from
      in_slot p h = go (dec_le (start sl 3) p) (dec_le (start sl 2) p) (dec_le (start sl 1) p)
        where
          go : Dec (start sl 3 ≤ p) → Dec (start sl 2 ≤ p) → Dec (start sl 1 ≤ p) → (j : ℕ) × (j < 4) × (start sl j ≤ p) × (p < start sl (suc j))
          go (yes x) y z = (3, omega arith, x, omega (arith, l.placed.long))
          go (no x) (yes y) z = (2, omega arith, y, omega arith)
          go (no x) (no y) (yes z) = (1, omega arith, z, omega arith)
          go (no x) (no y) (no z) = (0, omega arith, omega arith, omega arith)

      -- WHAT THE OTHER LAYERS COST
      module _ {g a : List ℕ} (mg : Marginals (turns_of s) cap f sl st g) (lg : length g ≡ length places) (sc : Scattered cap f g places a) (la : length a ≡ s.size * 4) where
        at_spot : (i j : ℕ) → i < tuples → j < 4 → get_or g (spot sl st i j) 0 ≤ total f sl st i
        at_spot i j li lj =
            let p : ℕ = spot sl st i j in
            let o = spot_in s i j li lj in
            omega (
              arith,
              mg j p lj o.0 o.1,
              least_le (λ k. cond (eqb (spot sl st k j) p) (total f sl st k) cap) cap tuples i li,
              ap (λ (x : Bool). cond x (total f sl st i) cap) (eq-eqb (spot sl st i j) p refl),
            )

        pub others_ok : (j : ℕ) → j < 4 → Others F coset tuples j s.size bound (λ x. entry a x j)
        others_ok j lj = record { no_less = no_less; met = met }
          where
            no_less : (i : ℕ) → i < tuples → entry a (coset i j) j + F j (coset i j) ≤ over F (coset i)
            no_less i li =
                let p : ℕ = spot sl st i j in
                let x : ℕ = coset i j * 4 + j in
                omega (
                  arith,
                  sc.others x (omega (arith, coset_in i j lj)),
                  least_le (λ p. cond (eqb (get_or places p 0) x) (get_or g p 0 - get_or f p 0) cap) cap (length places) p (spot_long s l i j li lj),
                  ap (λ (y : Bool). cond y (get_or g p 0 - get_or f p 0) cap) (eq-eqb (get_or places p 0) x (stands i j li lj)),
                  at_spot i j li lj,
                  total_is i li,
                  place_cost i j li lj,
                  part_le F (coset i) j lj,
                )

            met : (x : ℕ) → x < s.size → entry a x j < bound → (k : ℕ) × (k < tuples) × (coset k j ≡ x) × (entry a x j + F j x ≡ over F (coset k))
            met x lx h = with_place (least_found (λ p. cond (eqb (get_or places p 0) (x * 4 + j)) (get_or g p 0 - get_or f p 0) cap) cap (length places) (omega (arith, e)))
              where
                e : entry a x j ≡ least_of (λ p. cond (eqb (get_or places p 0) (x * 4 + j)) (get_or g p 0 - get_or f p 0) cap) cap (length places)
                e = sc.others (x * 4 + j) (omega arith)

                -- the tuple
                with_tuple : (p jj i : ℕ) → jj < 4 → i < tuples → get_or places p 0 ≡ x * 4 + j → get_or f p 0 ≡ F j x → get_or g p 0 - get_or f p 0 ≡ entry a x j →
                    (q : Bool) → eqb (spot sl st i jj) p ≡ q → cond q (total f sl st i) cap ≡ get_or g p 0 → get_or g p 0 < cap → (k : ℕ) × (k < tuples) × (coset k j ≡ x) × (entry a x j + F j x ≡ over F (coset k))
                with_tuple p jj i lj' li ep ef eg true q eq lg =
                    let v : coset i jj * 4 + jj ≡ x * 4 + j = sym (stands i jj li lj') ∙ ap (λ (n : ℕ). get_or places n 0) (eqb-true (spot sl st i jj) p q) ∙ ep in
                    let vj : jj ≡ j = omega arith in
                    let vx : coset i jj ≡ x = omega arith in
                    let c : coset i j ≡ x = ap (coset i) (sym vj) ∙ vx in
                    (i, li, c, omega (arith, total_is i li, part_le F (coset i) j lj, ap (F j) c))
                with_tuple p jj i lj' li ep ef eg false q eq lg = absurd (omega arith)

                with_place : (p : ℕ) × (p < length places) × (cond (eqb (get_or places p 0) (x * 4 + j)) (get_or g p 0 - get_or f p 0) cap ≡ least_of (λ p. cond (eqb (get_or places p 0) (x * 4 + j)) (get_or g p 0 - get_or f p 0) cap) cap (length places)) → (k : ℕ) × (k < tuples) × (coset k j ≡ x) × (entry a x j + F j x ≡ over F (coset k))
                with_place r = go (eqb (get_or places r.0 0) (x * 4 + j)) refl r.2
                  where
                    p : ℕ
                    p = r.0

                    go : (q : Bool) → eqb (get_or places p 0) (x * 4 + j) ≡ q → cond q (get_or g p 0 - get_or f p 0) cap ≡ least_of (λ p. cond (eqb (get_or places p 0) (x * 4 + j)) (get_or g p 0 - get_or f p 0) cap) cap (length places) → (k : ℕ) × (k < tuples) × (coset k j ≡ x) × (entry a x j + F j x ≡ over F (coset k))
                    go false q u = absurd (omega (arith, e))
                    go true q u =
                        let ep : get_or places p 0 ≡ x * 4 + j = eqb-true (get_or places p 0) (x * 4 + j) q in
                        let ef : get_or f p 0 ≡ F j x = l.gathered.costs p r.1 ∙ ap cost ep ∙ entry_cost x j lx lj in
                        let o = in_slot p r.1 in
                        let m : get_or g p 0 ≡ least_at cap f sl st (turns_of s) o.0 p = mg o.0 p o.1 o.2 o.3 in
                        let low : get_or g p 0 < cap = omega (arith, e, F_le j x lj lx) in
                        let k = least_found (λ i. cond (eqb (spot sl st i o.0) p) (total f sl st i) cap) cap tuples (omega arith) in
                        with_tuple p o.0 k.0 o.1 k.1 ep ef (u ∙ sym e) (eqb (spot sl st k.0 o.0) p) refl (k.2 ∙ sym m) low
