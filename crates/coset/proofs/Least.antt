-- The least costs and the keys of the layers, from the last position to the first: each tail is the only word of its coset from there on, every cost
-- stays below the limit, and the key behind a column gives the key before it.
-- Assumes nothing.
use Rattle.basics.proofs.Kit.{◌≡◌, ap, ◌∙◌, List, [], ◌∷◌, ℕ, zero, suc, ◌+◌, ◌-◌, ◌*◌, ◌/◌, ◌^◌, ◌≤◌, ◌<◌, arith, length, get_or}
use native.Mathlib.Nat.{two-pow-succ, suc-mul, mul-le-mul_right}
use native.Mathlib.Decide.{dec_le}
use Rattle.order.specs.Number.{number, Digits}
use Rattle.order.proofs.Numbers.{number_lt}
use Rattle.field.specs.Field.{xor}
use Rattle.lanes.specs.Lanes.{entry}
use Rattle.trellis.specs.Trellis.{Columns, pick, step, either, back, Held, free, final, choice, trace}
use Rattle.trellis.specs.Rows.{layer}
use Rattle.trellis.proofs.Trellis.{traced}
use Rattle.coset.specs.Coset.{none, least, first, key, Layers}
use Rattle.coset.proofs.Pairs.{powers}
use Rattle.coset.proofs.Columns.{step_le, with_zero, with_one, still_far, key_column, key_step}

-- bits are digits
digits : (i : ℕ) (bs : List ℕ) → Held free i bs → Digits 2 bs
digits i [] h = tt
digits i (b ∷ bs) h = (h.0, digits (suc i) bs h.1)

trace_lt : (col : Columns) (v : ℕ → ℕ) (i k s : ℕ) → number 2 (trace col v i k s) < 2 ^ k
trace_lt col v i k s =
    let d = traced col v i k s in
    omega (arith, number_lt 2 (trace col v i k s) (digits i (trace col v i k s) d.held), ap (λ (n : ℕ). 2 ^ n) d.count)

trace_key : (col : Columns) (v : ℕ → ℕ) (i k s : ℕ) → k ≤ 15 →
    back free col v i (suc k) s * 65536 + number 2 (trace col v i (suc k) s)
    ≡ step either (key_column k (col i)) (λ u. back free col v (suc i) k u * 65536 + number 2 (trace col v (suc i) k u)) s
unfolding back trace number
trace_key col v i k s l =
    let b : ℕ = choice (col i) (back free col v (suc i) k) s in
    let u : ℕ = xor s (pick b 0 (col i).h) in
    ap (λ (n : ℕ). step either (col i) (back free col v (suc i) k) s * 65536 + (b * 2 ^ n + number 2 (trace col v (suc i) k u))) (traced col v (suc i) k u).count
    ∙ key_step k (col i) (back free col v (suc i) k) (λ u. number 2 (trace col v (suc i) k u)) s l (trace_lt col v (suc i) k)

module _ (hs zs os : List ℕ) (j : ℕ) where
  abbrev n : ℕ
  n = length hs

  -- a column more
  pub least_step : (i s : ℕ) → i < n → least hs zs os i j s ≡ step either (layer hs zs os j i) (least hs zs os (suc i) j) s
  unfolding back
  least_step i s l =
      let e : n - i ≡ suc (n - suc i) = omega arith in
      ap (λ (k : ℕ). back free (layer hs zs os j) (final none) i k s) e

  pub key_more : (i s : ℕ) → i < n → n ≤ 15 → key hs zs os i j s ≡ step either (key_column (n - suc i) (layer hs zs os j i)) (key hs zs os (suc i) j) s
  key_more i s l m =
      let e : n - i ≡ suc (n - suc i) = omega arith in
      ap (λ (k : ℕ). back free (layer hs zs os j) (final none) i k s * 65536 + number 2 (trace (layer hs zs os j) (final none) i k s)) e
      ∙ trace_key (layer hs zs os j) (final none) i (n - suc i) s (omega arith)

  -- the number of the first word
  pub first_lt : (i s : ℕ) → number 2 (first hs zs os i j s) < 2 ^ (n - i)
  first_lt i s = trace_lt (layer hs zs os j) (final none) i (n - i) s

  pub key_cost : (i s : ℕ) → n ≤ 15 → key hs zs os i j s / 65536 ≡ least hs zs os i j s
  key_cost i s m = omega (arith, first_lt i s, powers (n - i) 15 (omega arith))

-- THE TAILS: from position n - k on, each number below 2^k is its own word, and there is no way to others
pub record Tail (hs zs os : List ℕ) (top j k : ℕ) : Type 0 where
  pub near : (s : ℕ) → s < 2 ^ k → least hs zs os (length hs - k) j s ≤ k * top
  pub far : (s : ℕ) → 2 ^ k ≤ s → none ≤ least hs zs os (length hs - k) j s
  pub own : (s : ℕ) → s < 2 ^ k → number 2 (first hs zs os (length hs - k) j s) ≡ s

module _ {q size : ℕ} {hs zs os : List ℕ} (a : Layers q size hs zs os) where
  abbrev m : ℕ
  m = length hs

  top_le : (k : ℕ) → k ≤ m → k * a.top < 2 ^ 15
  top_le k l = omega (arith, mul-le-mul_right a.top l, a.room)

  module _ {j : ℕ} (lj : j < 4) where
    tail_none : Tail hs zs os a.top j 0
    unfolding back trace number
    tail_none =
        let z : m - (m - 0) ≡ 0 = omega arith in
        record {
          near = λ s l. let e : s ≡ 0 = omega arith in rw (e, z) (omega arith);
          far = λ s l. rw z (some s l);
          own = λ s l. rw z (omega arith);
        }
      where
        some : (s : ℕ) → 1 ≤ s → none ≤ final none s
        some zero l = absurd (omega arith)
        some (suc s) l = omega arith

    module _ {k : ℕ} (lk : k < q) (t : Tail hs zs os a.top j k) where
      abbrev i : ℕ
      i = m - suc k

      li : i < m
      li = omega (arith, a.fits)

      behind : suc i ≡ m - k
      behind = omega (arith, a.fits)

      unit : get_or hs i 0 ≡ 2 ^ k
      unit = a.tails k lk

      zero_le : entry zs i j ≤ a.top
      zero_le = a.cost_zs i j li lj

      one_le : entry os i j ≤ a.top
      one_le = a.cost_os i j li lj

      more_le : suc k * a.top < 2 ^ 15
      more_le = top_le (suc k) (omega (arith, a.fits))

      near : (s : ℕ) → s < 2 ^ k → least hs zs os (suc i) j s ≤ k * a.top
      near s l = rw behind (t.near s l)

      far : (s : ℕ) → 2 ^ k ≤ s → none ≤ least hs zs os (suc i) j s
      far s l = rw behind (t.far s l)

      own : (s : ℕ) → s < 2 ^ k → key hs zs os (suc i) j s ≡ least hs zs os (suc i) j s * 65536 + s
      own s l = let e = t.own s l in rw (behind, e)

      -- a row of the first half and of the second
      pub tail_zero : (s : ℕ) → s < 2 ^ k → least hs zs os i j s ≡ least hs zs os (m - k) j s + entry zs i j
      tail_zero s l =
          least_step hs zs os j i s li
          ∙ with_zero k (layer hs zs os j i) (least hs zs os (suc i) j) none unit far s l (omega (arith, near s l, zero_le, more_le, suc-mul k a.top))
          ∙ rw behind

      pub tail_one : (s : ℕ) → s < 2 ^ k → least hs zs os i j (2 ^ k + s) ≡ least hs zs os (m - k) j s + entry os i j
      tail_one s l =
          least_step hs zs os j i (2 ^ k + s) li
          ∙ with_one k (layer hs zs os j i) (least hs zs os (suc i) j) none unit far s l (omega (arith, near s l, one_le, more_le, suc-mul k a.top))
          ∙ rw behind

      key_far : (s : ℕ) → 2 ^ k ≤ s → none * 65536 ≤ key hs zs os (suc i) j s
      key_far s l = omega (arith, far s l)

      place : m - suc i ≡ k
      place = omega (arith, a.fits)

      key_is : (s : ℕ) → key hs zs os i j s ≡ step either (key_column k (layer hs zs os j i)) (key hs zs os (suc i) j) s
      key_is s = key_more hs zs os j i s li a.few ∙ rw place

      small : (s : ℕ) → s < 2 ^ k → s + 2 ^ k < 65536
      small s l = omega (arith, powers k 15 (omega (arith, a.fits, a.few)))

      pub tail_more : Tail hs zs os a.top j (suc k)
      tail_more = record {
        near = λ s l. near_go s l (dec_le (2 ^ k) s);
        far = λ s l. rw (least_step hs zs os j i s li) (still_far k (layer hs zs os j i) (least hs zs os (suc i) j) none unit far s l);
        own = λ s l. own_go s l (dec_le (2 ^ k) s);
      }
        where
          near_go : (s : ℕ) → s < 2 ^ suc k → Dec (2 ^ k ≤ s) → least hs zs os i j s ≤ suc k * a.top
          near_go s l (no x) = omega (arith, tail_zero s (omega arith), t.near s (omega arith), zero_le, suc-mul k a.top)
          near_go s l (yes x) =
              let u : ℕ = s - 2 ^ k in
              let e : 2 ^ k + u ≡ s = omega arith in
              let lu : u < 2 ^ k = omega (arith, two-pow-succ k) in
              omega (arith, tail_one u lu, ap (least hs zs os i j) e, t.near u lu, one_le, suc-mul k a.top)

          own_go : (s : ℕ) → s < 2 ^ suc k → Dec (2 ^ k ≤ s) → number 2 (first hs zs os i j s) ≡ s
          own_go s l (no x) =
              let ls : s < 2 ^ k = omega arith in
              omega (
                arith,
                key_is s,
                with_zero k (key_column k (layer hs zs os j i)) (key hs zs os (suc i) j) (none * 65536) unit key_far s ls (omega (arith, own s ls, near s ls, zero_le, more_le, suc-mul k a.top, small s ls)),
                own s ls,
                tail_zero s ls,
                ap (λ (x : ℕ). least hs zs os x j s) behind,
              )
          own_go s l (yes x) =
              let u : ℕ = s - 2 ^ k in
              let e : 2 ^ k + u ≡ s = omega arith in
              let lu : u < 2 ^ k = omega (arith, two-pow-succ k) in
              omega (
                arith,
                ap (key hs zs os i j) e,
                ap (least hs zs os i j) e,
                key_is (2 ^ k + u),
                with_one k (key_column k (layer hs zs os j i)) (key hs zs os (suc i) j) (none * 65536) unit key_far u lu (omega (arith, own u lu, near u lu, one_le, more_le, suc-mul k a.top, small u lu)),
                own u lu,
                tail_one u lu,
                ap (λ (x : ℕ). least hs zs os x j u) behind,
              )

    pub tail_at : (k : ℕ) → k ≤ q → Tail hs zs os a.top j k
    tail_at zero l = tail_none
    tail_at (suc k) l = tail_more l (tail_at k (omega arith))

    -- THE COSTS FROM EACH HEAD ON
    pub least_le : (d s : ℕ) → q ≤ d → d ≤ m → s < size → least hs zs os (m - d) j s ≤ d * a.top
    least_le zero s p l b = absurd (omega (arith, a.some))
    least_le (suc d) s p l b = go (dec_le q d) (λ x. least_le d s x (omega arith) b)
      where
        go : Dec (q ≤ d) → (q ≤ d → least hs zs os (m - d) j s ≤ d * a.top) → least hs zs os (m - suc d) j s ≤ suc d * a.top
        go (no x) rec = let e : suc d ≡ q = omega arith in rw e ((tail_at q (omega arith)).near s (omega (arith, a.size_is)))
        go (yes x) rec =
            let i : ℕ = m - suc d in
            let e : suc i ≡ m - d = omega arith in
            omega (
              arith,
              least_step hs zs os j i s (omega arith),
              step_le (layer hs zs os j i) (least hs zs os (suc i) j) s,
              ap (λ (k : ℕ). least hs zs os k j s) e,
              rec x,
              a.cost_zs i j (omega arith) lj,
              suc-mul d a.top,
            )
