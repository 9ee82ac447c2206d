-- The tables of the search, from the tails to position 0: what each loop keeps.
-- Assumes nothing.
use Rattle.basics.proofs.Kit.{◌≡◌, refl, sym, ap, ◌∙◌, List, ℕ, suc, ◌+◌, ◌-◌, ◌*◌, ◌/◌, ◌^◌, ◌≤◌, ◌<◌, arith, length, get_or, ℤ, pos}
use native.Mathlib.Nat.{two-pow-succ, suc-mul, one-mul, mul-le-mul_right}
use native.Mathlib.Decide.{dec_le, ℕ_discrete}
use Rattle.field.specs.Field.{xor}
use Rattle.lanes.specs.Lanes as L
use Rattle.lanes.specs.Lanes.{entry, lane, row, put}
use Rattle.lanes.proofs.Rows.{row_at, length_row, length_put, put_other, put_at}
use Rattle.rows.specs.Rows.{limit, Small}
use Rattle.trellis.specs.Trellis.{step}
use Rattle.coset.specs.Coset.{least, Layers, Costs, Keys, Free, Freed}
use Rattle.coset.specs.Runs.{Double, Doubled, keyed, Keyable, Tails, Numbered, Behind, Keeps}
use Rattle.coset.proofs.Pairs.{powers, over}
use Rattle.coset.proofs.Doubling.{keyed_at}
use Rattle.coset.proofs.Least.{tail_at, tail_zero, tail_one, least_step, key_more, first_lt, key_cost, least_le}

-- THE TAILS: the rows below half are those from position i on
pub record Tailing (q size : ℕ) (hs zs os : List ℕ) (half i : ℕ) (g : List ℕ) : Type 0 where
  pub long : length g ≡ size * 4
  pub inside : i < length hs
  pub from : length hs ≤ i + q
  pub half_is : half ≡ 2 ^ (length hs - i)
  pub costs : (s j : ℕ) → s < half → j < 4 → entry g s j ≡ least hs zs os i j s

module _ {q size : ℕ} {hs zs os : List ℕ} (a : Layers q size hs zs os) where
  abbrev n : ℕ
  n = length hs

  pub some_column : 0 < n
  some_column = omega (arith, a.some, a.fits)

  pub rows_in : (g : List ℕ) → length g ≡ size * 4 → 8 ≤ length g
  rows_in g e = omega (arith, a.size_is, powers 1 q a.some)

  top_lt : {i : ℕ} → i < n → a.top < 2 ^ 15
  top_lt {i} l = let p : 1 ≤ n = omega arith in omega (arith, mul-le-mul_right a.top p, one-mul a.top, a.room)

  -- the costs of a column fit 16 bits
  pub zeros_fit : {i : ℕ} → i < n → Small (2 ^ 16) (row zs i)
  zeros_fit {i} l j lj = omega (arith, row_at zs i j lj, a.cost_zs i j l lj, top_lt l)

  pub ones_fit : {i : ℕ} → i < n → Small (2 ^ 16) (row os i)
  ones_fit {i} l j lj = omega (arith, row_at os i j lj, a.cost_os i j l lj, top_lt l)

  -- the last position
  pub tail_start : (g : List ℕ) {g' : List ℕ} → length g ≡ size * 4 → g' ≡ put (put g 0 (row zs (n - 1))) 1 (row os (n - 1)) →
      Tailing q size hs zs os 2 (n - 1) g'
  tail_start g e x = rw x record {
    long = length_put g0 1 o second_in four_o ∙ length_put g 0 z first_in four_z ∙ e;
    inside = omega (arith, some_column);
    from = omega (arith, a.some);
    half_is = let d : n - (n - 1) ≡ 1 = omega (arith, some_column) in rw d;
    costs = λ s j ls lj. go s j lj (ℕ_discrete s 0) ls;
  }
    where
      z : List ℕ
      z = row zs (n - 1)

      o : List ℕ
      o = row os (n - 1)

      g0 : List ℕ
      g0 = put g 0 z

      four_z : length z ≡ 4
      four_z = length_row zs (n - 1) (omega (arith, a.length_zs, some_column))

      four_o : length o ≡ 4
      four_o = length_row os (n - 1) (omega (arith, a.length_os, some_column))

      first_in : 0 * 4 + 4 ≤ length g
      first_in = omega (arith, rows_in g e)

      second_in : 1 * 4 + 4 ≤ length g0
      second_in = omega (arith, length_put g 0 z first_in four_z, rows_in g e)

      go : (s j : ℕ) → j < 4 → Dec (s ≡ 0) → s < 2 → entry (put g0 1 o) s j ≡ least hs zs os (n - 1) j s
      go s j lj (yes d) ls =
          let t = tail_at a lj 0 (omega arith) in
          rw d (omega (
            arith,
            put_other g0 1 o second_in four_o (0 * 4 + j) (λ c d. omega arith),
            put_at g 0 z first_in four_z j lj,
            row_at zs (n - 1) j lj,
            tail_zero a lj a.some t 0 (omega arith),
            t.near 0 (omega arith),
          ))
      go s j lj (no d) ls =
          let t = tail_at a lj 0 (omega arith) in
          let c : s ≡ 1 = omega arith in
          rw c (omega (arith, put_at g0 1 o second_in four_o j lj, row_at os (n - 1) j lj, tail_one a lj a.some t 0 (omega arith), t.near 0 (omega arith)))

  module _ {half i : ℕ} {g : List ℕ} (f : Tailing q size hs zs os half i g) (l : n - q < i) where
    abbrev k : ℕ
    k = n - i

    here : n - k ≡ i
    here = omega (arith, f.inside)

    next : n - suc k ≡ i - 1
    next = omega (arith, f.inside)

    lk : k < q
    lk = omega (arith, a.fits)

    pub li : i - 1 < n
    li = omega (arith, f.inside)

    doubles : half + half ≡ 2 ^ suc k
    doubles = omega (arith, f.half_is, two-pow-succ k)

    pub tail_fits : half + half ≤ size
    tail_fits = omega (arith, doubles, powers (suc k) q lk, a.size_is)

    -- a column more stays below the limit
    near : (s j : ℕ) → s < half → j < 4 → entry g s j + a.top < 2 ^ 15
    near s j ls lj =
        let p : suc k ≤ n = omega (arith, lk, a.fits) in
        omega (
          arith,
          f.costs s j ls lj,
          (tail_at a lj k (omega (arith, lk))).near s (omega (arith, f.half_is)),
          ap (λ (x : ℕ). least hs zs os x j s) here,
          mul-le-mul_right a.top p,
          suc-mul k a.top,
          a.room,
        )

    pub double_asks : Double half g (row zs (i - 1)) (row os (i - 1))
    double_asks = record {
      inside = omega (arith, tail_fits, f.long);
      even = let e : k ≡ suc (k - 1) = omega (arith, f.inside) in omega (arith, f.half_is, ap (λ (x : ℕ). 2 ^ x) e, two-pow-succ (k - 1));
      room = λ s j ls lj. (
        omega (arith, near s j ls lj, row_at zs (i - 1) j lj, a.cost_zs (i - 1) j li lj, top_lt li),
        omega (arith, near s j ls lj, row_at os (i - 1) j lj, a.cost_os (i - 1) j li lj, top_lt li),
      );
    }

    pub tail_next : {g' : List ℕ} → Doubled half half (row zs (i - 1)) (row os (i - 1)) g g' → Tailing q size hs zs os (half + half) (i - 1) g'
    tail_next {g'} d = record {
      long = d.long ∙ f.long;
      inside = omega (arith, f.inside);
      from = omega (arith, a.fits);
      half_is = let e : n - (i - 1) ≡ suc k = omega (arith, f.inside) in rw e doubles;
      costs = λ s j ls lj. go s j ls lj (dec_le half s);
    }
      where
        go : (s j : ℕ) → s < half + half → j < 4 → Dec (half ≤ s) → entry g' s j ≡ least hs zs os (i - 1) j s
        go s j ls lj (no x) =
            let lo : s < half = omega arith in
            omega (
              arith,
              d.zeros s j lo lj,
              row_at zs (i - 1) j lj,
              f.costs s j lo lj,
              tail_zero a lj lk (tail_at a lj k (omega (arith, lk))) s (omega (arith, f.half_is)),
              ap (λ (x : ℕ). least hs zs os x j s) here,
              ap (λ (x : ℕ). least hs zs os x j s) next,
              ap (λ (x : ℕ). entry zs x j) next,
            )
        go s j ls lj (yes x) =
            let u : ℕ = s - half in
            let lo : u < half = omega arith in
            let e : half + u ≡ s = omega arith in
            let e' : 2 ^ k + u ≡ s = omega (arith, f.half_is) in
            omega (
              arith,
              ap (λ (x : ℕ). entry g' x j) e,
              d.ones u j lo lj,
              row_at os (i - 1) j lj,
              f.costs u j lo lj,
              tail_one a lj lk (tail_at a lj k (omega (arith, lk))) u (omega (arith, f.half_is)),
              ap (least hs zs os (n - suc k) j) e',
              ap (λ (x : ℕ). least hs zs os x j u) here,
              ap (λ (x : ℕ). least hs zs os x j s) next,
              ap (λ (x : ℕ). entry os x j) next,
            )

  -- THEIR KEYS
  pub size_small : size ≤ 2 ^ 15
  size_small = omega (arith, a.size_is, powers q 15 (omega (arith, a.fits, a.few)))

  pub tails_asks : {g t : List ℕ} → Costs size hs zs os (n - q) g → length t ≡ size * 4 → Tails size g t
  tails_asks f e = record {
    length_g = f.long;
    length_t = e;
    short = size_small;
    room = λ s j ls lj.
        omega (
          arith,
          f.costs s j ls lj,
          (tail_at a lj q (omega arith)).near s (omega (arith, a.size_is)),
          mul-le-mul_right a.top a.fits,
          a.room,
        );
  }

  pub tails_keys : {g t : List ℕ} → Costs size hs zs os (n - q) g → Numbered g size t → Keys size hs zs os (n - q) t
  tails_keys f r = record {
    long = r.long ∙ f.long;
    keys = λ s j ls lj. omega (arith, r.keys s j ls lj, f.costs s j ls lj, (tail_at a lj q (omega arith)).own s (omega (arith, a.size_is)));
  }

  -- A HEAD MORE: the column leads from row to row, and with another cost there is room
  at : {i : ℕ} → i + q < n → i < n
  at l = omega arith

  module _ (i : ℕ) (inside : i + q < n) where
    across : (s : ℕ) → s < size → xor s (get_or hs i 0) < size
    across = over q size (get_or hs i 0) a.size_is (a.inside i (at inside))

    cost_room : (s j : ℕ) → s < size → j < 4 → least hs zs os (suc i) j s + a.top < 2 ^ 15
    cost_room s j ls lj =
        let d : ℕ = n - suc i in
        let e : n - d ≡ suc i = omega arith in
        let p : suc d ≤ n = omega arith in
        omega (
          arith,
          least_le a lj d s (omega arith) (omega arith) ls,
          ap (λ (x : ℕ). least hs zs os x j s) e,
          suc-mul d a.top,
          mul-le-mul_right a.top p,
          a.room,
        )

  -- in costs alone
  module _ {i : ℕ} (inside : i + q < n) {g : List ℕ} (b : Costs size hs zs os (suc i) g) where
    pub costs_asks : Free L.limit q size (get_or hs i 0) g (row zs i) (row os i)
    costs_asks = record {
      size_is = a.size_is;
      inside = a.inside i (at inside);
      some = a.heads i (at inside);
      long = b.long;
      room_z = λ s j ls lj. omega (arith, b.costs s j ls lj, row_at zs i j lj, a.cost_zs i j (at inside) lj, cost_room i inside s j ls lj);
      room_o = λ s j ls lj. omega (arith, b.costs s j ls lj, row_at os i j lj, a.cost_os i j (at inside) lj, cost_room i inside s j ls lj);
    }

    pub costs_more : {g' : List ℕ} → Freed size (get_or hs i 0) g (row zs i) (row os i) g' → Costs size hs zs os i g'
    unfolding step
    costs_more f = record {
      long = f.long ∙ b.long;
      costs = λ s j ls lj.
          omega (
            arith,
            f.made s j ls lj,
            least_step hs zs os j i s (at inside),
            row_at zs i j lj,
            row_at os i j lj,
            b.costs s j ls lj,
            b.costs (xor s (get_or hs i 0)) j (across i inside s ls) lj,
          );
    }

  -- in keys
  module _ {i bit : ℕ} {t : List ℕ} (b : Behind q size hs zs os i bit t) where
    bit_small : bit + bit ≤ 2 ^ 15
    bit_small = omega (arith, b.bit_is, two-pow-succ (n - suc i), powers (suc (n - suc i)) 15 (omega (arith, a.few, b.inside)))

    pub zeros_key : Keyable (row zs i) 0
    zeros_key j lj = omega (arith, row_at zs i j lj, a.cost_zs i j (at b.inside) lj, top_lt (at b.inside))

    pub ones_key : Keyable (row os i) bit
    ones_key j lj = omega (arith, row_at os i j lj, a.cost_os i j (at b.inside) lj, top_lt (at b.inside), bit_small)

    zero_key_at : (j : ℕ) → j < 4 → lane (keyed (row zs i) 0) j ≡ entry zs i j * 65536
    zero_key_at j lj = omega (arith, keyed_at (row zs i) 0 j lj, row_at zs i j lj)

    one_key_at : (j : ℕ) → j < 4 → lane (keyed (row os i) bit) j ≡ entry os i j * 65536 + 2 ^ (n - suc i)
    one_key_at j lj = omega (arith, keyed_at (row os i) bit j lj, row_at os i j lj, b.bit_is)

    pub free_asks : Free limit q size (get_or hs i 0) t (keyed (row zs i) 0) (keyed (row os i) bit)
    free_asks = record {
      size_is = a.size_is;
      inside = a.inside i (at b.inside);
      some = a.heads i (at b.inside);
      long = b.keys.long;
      room_z = λ s j ls lj.
          omega (arith, b.keys.keys s j ls lj, zero_key_at j lj, a.cost_zs i j (at b.inside) lj, cost_room i b.inside s j ls lj, first_lt hs zs os j (suc i) s, b.bit_is, bit_small);
      room_o = λ s j ls lj.
          omega (arith, b.keys.keys s j ls lj, one_key_at j lj, a.cost_os i j (at b.inside) lj, cost_room i b.inside s j ls lj, first_lt hs zs os j (suc i) s, b.bit_is, bit_small);
    }

    pub free_keys : {t' : List ℕ} → Freed size (get_or hs i 0) t (keyed (row zs i) 0) (keyed (row os i) bit) t' → Keys size hs zs os i t'
    unfolding step
    free_keys f = record {
      long = f.long ∙ b.keys.long;
      keys = λ s j ls lj.
          omega (
            arith,
            f.made s j ls lj,
            key_more hs zs os j i s (at b.inside) a.few,
            zero_key_at j lj,
            one_key_at j lj,
            b.keys.keys s j ls lj,
            b.keys.keys (xor s (get_or hs i 0)) j (across i b.inside s ls) lj,
          );
    }

-- THE LOOP OVER THE HEADS: the keys from position i on, and the tables kept from there on
pub record Making (q size : ℕ) (hs zs os : List ℕ) (kept₀ : List ℤ) (t : List ℕ) (kept : List ℤ) (i bit : ℕ) : Type 0 where
  pub inside : i + q ≤ length hs
  pub bit_is : bit ≡ 2 ^ (length hs - i)
  pub keys : Keys size hs zs os i t
  pub long : length kept ≡ length kept₀
  pub tables : (k s j : ℕ) → i ≤ k → 0 < k → k < length hs - q → s < size → j < 4 →
      get_or kept ((k - 1) * (size * 4) + (s * 4 + j)) (pos 0) ≡ pos (least hs zs os k j s)

module _ {q size : ℕ} {hs zs os : List ℕ} (a : Layers q size hs zs os) where
  pub make_start : {t : List ℕ} {kept : List ℤ} → Keys size hs zs os (length hs - q) t → Making q size hs zs os kept t kept (length hs - q) size
  make_start f = record {
    inside = omega (arith, a.fits);
    bit_is = let e : length hs - (length hs - q) ≡ q = omega (arith, a.fits) in rw e a.size_is;
    keys = f;
    long = refl;
    tables = λ k s j l o u. absurd (omega arith);
  }

  module _ {kept₀ kept : List ℤ} {t : List ℕ} {i bit : ℕ} (f : Making q size hs zs os kept₀ t kept i bit) (p : 0 < i) where
    whole : suc (i - 1) ≡ i
    whole = omega arith

    module _ {t' : List ℕ} (b : Keys size hs zs os (i - 1) t') where
      pub make_next : {kept' : List ℤ} → Keeps (i - 1) t' kept kept' → Making q size hs zs os kept₀ t' kept' (i - 1) (bit + bit)
      make_next {kept'} r = record {
        inside = omega (arith, f.inside);
        bit_is = let e : length hs - (i - 1) ≡ suc (length hs - i) = omega (arith, f.inside, a.some) in rw e (omega (arith, f.bit_is, two-pow-succ (length hs - i)));
        keys = b;
        long = r.long ∙ f.long;
        tables = λ k s j l o u ls lj. go k s j l o u ls lj (ℕ_discrete k (i - 1));
      }
        where
          go : (k s j : ℕ) → i - 1 ≤ k → 0 < k → k < length hs - q → s < size → j < 4 → Dec (k ≡ i - 1) →
              get_or kept' ((k - 1) * (size * 4) + (s * 4 + j)) (pos 0) ≡ pos (least hs zs os k j s)
          go k s j l o u ls lj (yes e) =
              rw e (ap (λ (x : ℕ). get_or kept' ((i - 1 - 1) * x + (s * 4 + j)) (pos 0)) (sym b.long)
              ∙ r.here (s * 4 + j) (omega arith) (omega (arith, b.long))
              ∙ ap (λ (x : ℕ). pos (x / 65536)) (b.keys s j ls lj)
              ∙ ap pos (key_cost hs zs os j (i - 1) s a.few))
          go k s j l o u ls lj (no x) =
              let m : i - 1 ≤ k - 1 = omega arith in
              r.rest ((k - 1) * (size * 4) + (s * 4 + j)) (rw b.long (omega (arith, mul-le-mul_right (size * 4) m))) ∙ f.tables k s j (omega arith) o u ls lj
