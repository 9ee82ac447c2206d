-- One column from the front, in place by pairs of rows: what a turn of the loop asks, and what it leaves.
-- Assumes nothing.
use Rattle.basics.proofs.Kit.{◌≡◌, refl, sym, ap, ◌∙◌, List, ℕ, suc, ◌+◌, ◌-◌, ◌*◌, ◌%◌, ◌^◌, ◌≤◌, ◌<◌, min, arith, length}
use mathlib.Core.Path.{subst}
use native.Mathlib.Nat.{two-pow-succ, pow-succ', mul_assoc, suc-mul, mul-le-mul_right, lt_of_mul-lt-mul_right}
use native.Mathlib.Decide.{dec_le, ℕ_discrete}
use lib.Bits.{bit_and, and_block, and_mask, and_zero_r}
use lib.Pow.{pow-add}
use Rattle.field.specs.Field.{xor}
use Rattle.field.proofs.Xor as X
use Rattle.lanes.specs.Lanes.{entry, lane, row, put}
use Rattle.lanes.proofs.Rows.{row_at, length_put, put_other, put_at}
use Rattle.rows.specs.Rows.{sum, less}
use Rattle.rows.proofs.Rows.{sum_at, less_at, length_less}
use Rattle.trellis.specs.Trellis.{step, only}
use Rattle.trellis.specs.Rows.{column, front}
use Rattle.coset.specs.Coset.{Freed}
use Rattle.coset.specs.Runs.{leader, Ran, Top}
use Rattle.coset.proofs.Runs.{same_leader, ran_none, ran_then, ran_skip, ran_pair, block_up, block_down}
use Rattle.coset.proofs.Pairs.{powers, over}
use Rattle.pass.specs.Pass.{Advance}
use Rattle.pass.specs.Steps.{AdvanceRows, AdvancedRows}
use Rattle.pass.proofs.Rows.{Lowest}
use Rattle.pass.proofs.Lowest.{Low, low_none, low_same, low_two, low_all}

-- ONE LAYER, tables as functions: A before the column and B behind it. The pairs whose first row is below n are done, x and y are the least with a 0
-- and with a 1 so far
abbrev Done : (h size n : ℕ) → ℕ → Type 0
Done h size n v = (v < size) × (leader h v < n)

pub record Going (h z o size cap : ℕ) (A B : ℕ → ℕ) (n : ℕ) (T : ℕ → ℕ) (x y : ℕ) : Type 0 where
  pub ran : Ran h z o size 0 n A T
  pub with_0 : Low (Done h size n) (λ v. A v + z + B v) cap x
  pub with_1 : Low (Done h size n) (λ v. A (xor v h) + o + B v) cap y

pub going_start : {h z o size cap : ℕ} {A B : ℕ → ℕ} → Going h z o size cap A B 0 A cap cap
going_start = record { ran = ran_none; with_0 = low_none (λ v d. omega (arith, d.1)); with_1 = low_none (λ v d. omega (arith, d.1)) }

module _ {h z o size cap n : ℕ} {A B T : ℕ → ℕ} {x y : ℕ} (wide : (v : ℕ) → v < size → xor v h < size) (g : Going h z o size cap A B n T x y) where
  -- a pair more
  pub going_pair : n < size → n < xor n h → (T' : ℕ → ℕ) (x' y' : ℕ) → Ran h z o size n (n + 1) T T' → x' ≡ min x (min (A n + z + B n) (A (xor n h) + z + B (xor n h))) →
      y' ≡ min y (min (A (xor n h) + o + B n) (A n + o + B (xor n h))) → Going h z o size cap A B (n + 1) T' x' y'
  going_pair l up T' x' y' r ex ey = record {
    ran = ran_then wide (omega arith) (omega arith) g.ran r;
    with_0 = low_two n (xor n h) in_n in_u more less' g.with_0 x' ex;
    with_1 =
        low_two n (xor n h) in_n in_u more less' g.with_1 y'
        (ey ∙ ap (λ (k : ℕ). min y (min (A (xor n h) + o + B n) (A k + o + B (xor n h)))) (sym (X.uncancel n h)));
  }
    where
      in_n : Done h size (n + 1) n
      in_n = (l, omega arith)

      in_u : Done h size (n + 1) (xor n h)
      in_u = (wide n l, omega (arith, same_leader h n))

      more : (v : ℕ) → Done h size n v → Done h size (n + 1) v
      more v d = (d.0, omega (arith, d.1))

      less' : (v : ℕ) → Done h size (n + 1) v → (v ≡ n → ⊥) → (v ≡ xor n h → ⊥) → Done h size n v
      less' v d a b = (d.0, go (ℕ_discrete v n) (ℕ_discrete (xor v h) n))
        where
          go : Dec (v ≡ n) → Dec (xor v h ≡ n) → leader h v < n
          go (yes e) f = absurd (a e)
          go (no e) (yes f) = absurd (b (sym (X.uncancel v h) ∙ ap (λ (k : ℕ). xor k h) f))
          go (no e) (no f) = omega (arith, d.1)

  -- where the column leads down there is no first row of a pair
  pub going_skip : {m : ℕ} → 0 < h → n ≤ m → ((s : ℕ) → n ≤ s → s < m → xor s h ≤ s) → Going h z o size cap A B m T x y
  going_skip {m} p l down = record {
    ran = ran_then wide (omega arith) l g.ran (ran_skip p down);
    with_0 = low_same more none g.with_0;
    with_1 = low_same more none g.with_1;
  }
    where
      more : (v : ℕ) → Done h size n v → Done h size m v
      more v d = (d.0, omega (arith, d.1))

      none : (v : ℕ) → Done h size m v → Done h size n v
      none v d = (d.0, go (dec_le n (leader h v)) (dec_le v (xor v h)))
        where
          go : Dec (n ≤ leader h v) → Dec (v ≤ xor v h) → leader h v < n
          go (no a) b = omega arith
          go (yes a) (yes b) =
              let e : v ≡ xor v h = omega (arith, down v (omega arith) (omega (arith, d.1))) in
              let k : 0 ≡ h = sym (X.self v) ∙ ap (xor v) e ∙ X.cancel v h in
              absurd (omega arith)
          go (yes a) (no b) = absurd (omega (arith, down (xor v h) (omega arith) (omega (arith, d.1)), X.uncancel v h))

-- THE NEXT ROW that is the first of a pair, where 2 ^ e is the highest bit of the column: the bit is 0 in it
pub record Place (e s : ℕ) : Type 0 where
  pub block : ℕ
  pub rest : ℕ
  pub is : s ≡ block * 2 ^ suc e + rest
  pub low : rest < 2 ^ e

pub place_start : (e : ℕ) → Place e 0
place_start e = record { block = 0; rest = 0; is = omega arith; low = omega (arith, powers 0 e (omega arith)) }

-- the bit itself
bit_of : (e a r : ℕ) → r < 2 ^ e → bit_and (a * 2 ^ e + r) (2 ^ e) ≡ a % 2 * 2 ^ e
bit_of e a r l =
    let k : 2 ^ e ≡ 1 * 2 ^ e + 0 = omega arith in
    ap (bit_and (a * 2 ^ e + r)) k ∙ and_block e a 1 r 0 l (omega (arith, powers 0 e (omega arith))) ∙ rw (and_mask a 1, and_zero_r r) (omega arith)

-- the first row after s, and that the column leads down from those between
pub record Next (e h size s s' : ℕ) : Type 0 where
  pub place : Place e s'
  pub more : s < s'
  pub fits : s' ≤ size
  pub down : (v : ℕ) → s + 1 ≤ v → v < s' → xor v h ≤ v

module _ {q size h : ℕ} {a t z o : List ℕ} (w : Advance q size h a t z o) {top : ℕ} (t' : Top h top) {s : ℕ} (p : Place t'.e s) (l : s < size) where
  abbrev e : ℕ
  e = t'.e

  lo : 2 ^ e ≤ h
  lo = omega (arith, t'.power, t'.low)

  twice : p.block * 2 ^ suc e ≡ p.block * 2 * 2 ^ e
  twice = rw (pow-succ' 2 e, mul_assoc)

  pub place_up : s < xor s h
  place_up = block_up e h p.block lo t'.high s (omega (arith, p.is)) (omega (arith, p.is, p.low))

  -- the rows of a block are all there
  block_fits : p.block * 2 ^ suc e + 2 ^ suc e ≤ size
  block_fits = go (dec_le q e)
    where
      go : Dec (q ≤ e) → p.block * 2 ^ suc e + 2 ^ suc e ≤ size
      go (yes x) = absurd (omega (arith, powers q e x, w.size_is, w.inside, lo))
      go (no x) =
          let k : ℕ = q - suc e in
          let d : q ≡ k + suc e = omega arith in
          let m : size ≡ 2 ^ k * 2 ^ suc e = w.size_is ∙ ap (λ (y : ℕ). 2 ^ y) d ∙ pow-add 2 k (suc e) in
          let c_in : p.block < 2 ^ k = lt_of_mul-lt-mul_right (2 ^ suc e) (omega (arith, p.is)) in
          omega (arith, m, mul-le-mul_right (2 ^ suc e) c_in, suc-mul p.block (2 ^ suc e))

  pub next : Next e h size s (s + 1 + bit_and (s + 1) top)
  next = subst (λ (y : ℕ). Next e h size s (s + 1 + bit_and (s + 1) y)) (sym t'.power) (go (dec_le (2 ^ e) (p.rest + 1)))
    where
      go : Dec (2 ^ e ≤ p.rest + 1) → Next e h size s (s + 1 + bit_and (s + 1) (2 ^ e))
      go (no x) =
          let k : s + 1 ≡ p.block * 2 * 2 ^ e + (p.rest + 1) = omega (arith, p.is, twice) in
          let d : p.block * 2 % 2 ≡ 0 = omega arith in
          let b : bit_and (s + 1) (2 ^ e) ≡ 0 = ap (λ (y : ℕ). bit_and y (2 ^ e)) k ∙ bit_of e (p.block * 2) (p.rest + 1) (omega arith) ∙ rw d (omega arith) in
          rw b record {
            place = record { block = p.block; rest = p.rest + 1; is = omega (arith, p.is); low = omega arith };
            more = omega arith;
            fits = omega arith;
            down = λ v a c. absurd (omega arith);
          }
      go (yes x) =
          let k : s + 1 ≡ (p.block * 2 + 1) * 2 ^ e + 0 = omega (arith, p.is, p.low, twice, suc-mul (p.block * 2) (2 ^ e)) in
          let d : (p.block * 2 + 1) % 2 ≡ 1 = omega arith in
          let b : bit_and (s + 1) (2 ^ e) ≡ 2 ^ e = ap (λ (y : ℕ). bit_and y (2 ^ e)) k ∙ bit_of e (p.block * 2 + 1) 0 (omega arith) ∙ rw d (omega arith) in
          rw b record {
            place = record { block = suc p.block; rest = 0; is = omega (arith, p.is, p.low, two-pow-succ e, suc-mul p.block (2 ^ suc e)); low = omega arith };
            more = omega arith;
            fits = omega (arith, block_fits, p.is, p.low, two-pow-succ e);
            down = λ v a c. block_down e h p.block lo t'.high v (omega (arith, p.is, p.low)) (omega (arith, p.is, p.low, two-pow-succ e));
          }

-- FOUR LAYERS, in rows
pub record Advancing (h size cap e : ℕ) (a₀ t z o : List ℕ) (s : ℕ) (a zero one : List ℕ) : Type 0 where
  pub place : Place e s
  pub at_most : s ≤ size
  pub long : length a ≡ length a₀
  pub going : (j : ℕ) → j < 4 → Going h (lane z j) (lane o j) size cap (front a₀ j) (front t j) s (front a j) (lane zero j) (lane one j)

module _ {q size h cap : ℕ} {a₀ t z o : List ℕ} (w : Advance q size h a₀ t z o) {top : ℕ} (t' : Top h top) {s : ℕ} {a zero one : List ℕ}
    (f : Advancing h size cap t'.e a₀ t z o s a zero one) (l : s < size) where
  abbrev u : ℕ
  u = xor s h

  up : s < xor s h
  up = place_up w t' f.place l

  wide : (v : ℕ) → v < size → xor v h < size
  wide = over q size h w.size_is w.inside

  in_u : xor s h < size
  in_u = wide s l

  -- the two rows are as they were
  at_s : (j : ℕ) → j < 4 → lane (row a s) j ≡ entry a₀ s j
  at_s j lj = row_at a s j lj ∙ (f.going j lj).ran.after s l (omega (arith, up))

  at_u : (j : ℕ) → j < 4 → lane (row a u) j ≡ entry a₀ u j
  at_u j lj = row_at a u j lj ∙ (f.going j lj).ran.after u in_u (omega (arith, up, same_leader h s))

  pub advance_asks : AdvanceRows a t s u z o
  advance_asks = record {
    s_in = omega (arith, f.long, w.length_a);
    u_in = omega (arith, f.long, w.length_a, in_u);
    s_behind = omega (arith, w.length_t);
    u_behind = omega (arith, w.length_t, in_u);
    s_z = λ j lj. omega (arith, sum_at (row a s) z j lj, at_s j lj, row_at t s j lj, w.room_z s s j l l lj);
    u_z = λ j lj. omega (arith, sum_at (row a u) z j lj, at_u j lj, row_at t u j lj, w.room_z u u j in_u in_u lj);
    u_o = λ j lj. omega (arith, sum_at (row a u) o j lj, at_u j lj, row_at t s j lj, w.room_o u s j in_u l lj);
    s_o = λ j lj. omega (arith, sum_at (row a s) o j lj, at_s j lj, row_at t u j lj, w.room_o s u j l in_u lj);
  }

  pub advance_more : {a' zero' one' : List ℕ} → AdvancedRows a t s u z o zero one a' zero' one' → Advancing h size cap t'.e a₀ t z o (s + 1 + bit_and (s + 1) top) a' zero' one'
  advance_more {a'} {zero'} {one'} r = record {
    place = n.place;
    at_most = n.fits;
    long = ap length r.next ∙ length_put (put a s x) u y u_in four_y ∙ same_long ∙ f.long;
    going = λ j lj. going_skip wide (going_pair wide (f.going j lj) l up (front a' j) (lane zero' j) (lane one' j) (pair j lj) (zeros j lj) (ones j lj)) w.some (omega (arith, n.more)) n.down;
  }
    where
      n : Next t'.e h size s (s + 1 + bit_and (s + 1) top)
      n = next w t' f.place l

      x : List ℕ
      x = less (sum (row a s) z) (sum (row a u) o)

      y : List ℕ
      y = less (sum (row a u) z) (sum (row a s) o)

      four_x : length x ≡ 4
      four_x = length_less (sum (row a s) z) (sum (row a u) o)

      four_y : length y ≡ 4
      four_y = length_less (sum (row a u) z) (sum (row a s) o)

      same_long : length (put a s x) ≡ length a
      same_long = length_put a s x advance_asks.s_in four_x

      u_in : u * 4 + 4 ≤ length (put a s x)
      u_in = omega (arith, same_long, advance_asks.u_in)

      chosen : (b c : List ℕ) (j : ℕ) → j < 4 → lane (less (sum b z) (sum c o)) j ≡ min (lane b j + lane z j) (lane c j + lane o j)
      chosen b c j lj = less_at (sum b z) (sum c o) j lj ∙ rw (sum_at b z j lj, sum_at c o j lj)

      pair : (j : ℕ) → j < 4 → Ran h (lane z j) (lane o j) size s (s + 1) (front a j) (front a' j)
      pair j lj =
          ran_pair up
          (ap (λ (m : List ℕ). entry m s j) r.next ∙ put_other (put a s x) u y u_in four_y (s * 4 + j) (λ c d. omega (arith, up)) ∙ put_at a s x advance_asks.s_in four_x j lj ∙ chosen (row a s) (row a u) j lj ∙ rw (row_at a s j lj, row_at a u j lj))
          (ap (λ (m : List ℕ). entry m u j) r.next ∙ put_at (put a s x) u y u_in four_y j lj ∙ chosen (row a u) (row a s) j lj ∙ rw (row_at a s j lj, row_at a u j lj))
          (λ v c d. ap (λ (m : List ℕ). entry m v j) r.next ∙ put_other (put a s x) u y u_in four_y (v * 4 + j) (λ b e. d (omega arith)) ∙ put_other a s x advance_asks.s_in four_x (v * 4 + j) (λ b e. c (omega arith)))

      met_at : (b c d e g k m : List ℕ) (j : ℕ) → j < 4 → lane (less m (less (sum (sum b c) d) (sum (sum e g) k))) j ≡ min (lane m j) (min (lane b j + lane c j + lane d j) (lane e j + lane g j + lane k j))
      met_at b c d e g k m j lj =
          less_at m (less (sum (sum b c) d) (sum (sum e g) k)) j lj
          ∙ rw (less_at (sum (sum b c) d) (sum (sum e g) k) j lj, sum_at (sum b c) d j lj, sum_at (sum e g) k j lj, sum_at b c j lj, sum_at e g j lj)

      zeros : (j : ℕ) → j < 4 → lane zero' j ≡ min (lane zero j) (min (entry a₀ s j + lane z j + entry t s j) (entry a₀ u j + lane z j + entry t u j))
      zeros j lj =
          ap (λ (m : List ℕ). lane m j) r.zero_is
          ∙ met_at (row a s) z (row t s) (row a u) z (row t u) zero j lj
          ∙ rw (at_s j lj, at_u j lj, row_at t s j lj, row_at t u j lj)

      ones : (j : ℕ) → j < 4 → lane one' j ≡ min (lane one j) (min (entry a₀ u j + lane o j + entry t s j) (entry a₀ s j + lane o j + entry t u j))
      ones j lj =
          ap (λ (m : List ℕ). lane m j) r.one_is
          ∙ met_at (row a u) o (row t s) (row a s) o (row t u) one j lj
          ∙ rw (at_s j lj, at_u j lj, row_at t s j lj, row_at t u j lj)

module _ {h size cap e : ℕ} {a₀ t z o : List ℕ} {s : ℕ} {a zero one : List ℕ} (f : Advancing h size cap e a₀ t z o s a zero one) (l : size ≤ s) where
  pub advance_end : Freed size h a₀ z o a
  unfolding step
  advance_end = record { long = f.long; made = λ v j lv lj. (f.going j lj).ran.done v lv (omega arith) (omega arith) }

  pub end_0 : Lowest cap size (λ v j. step (only 0) (column h z o j) (front a₀ j) v + entry t v j) zero
  unfolding step
  end_0 = record { at = λ j lj. low_all (λ v d. d.0) (λ v b. (b, omega arith)) (λ v. ap (λ (k : ℕ). entry a₀ k j + lane z j + entry t v j) (sym (X.zero_r v))) (f.going j lj).with_0 }

  pub end_1 : Lowest cap size (λ v j. step (only 1) (column h z o j) (front a₀ j) v + entry t v j) one
  unfolding step
  end_1 = record { at = λ j lj. low_all (λ v d. d.0) (λ v b. (b, omega arith)) (λ v. refl) (f.going j lj).with_1 }
