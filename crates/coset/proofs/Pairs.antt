-- A column in place, in rows of four layers: a pair, a run and the blocks.
-- Assumes nothing.
use Rattle.basics.proofs.Kit.{◌≡◌, ap, ◌∙◌, List, ℕ, suc, ◌+◌, ◌-◌, ◌*◌, ◌^◌, ◌≤◌, ◌<◌, min, arith, length}
use native.Mathlib.Nat.{two-pow-succ, suc-mul, mul-le-mul_right, lt_of_mul-lt-mul_right, pow-le-pow_right, zero-lt-suc}
use native.Mathlib.Decide.{dec_le}
use lib.Pow.{pow-add}
use Rattle.field.specs.Field.{xor}
use Rattle.field.proofs.Xor as X
use Rattle.lanes.specs.Lanes.{entry, lane, row, put}
use Rattle.lanes.proofs.Rows.{row_at, length_put, put_other, put_at}
use Rattle.rows.specs.Rows.{sum, less}
use Rattle.rows.proofs.Rows.{sum_at, less_at, length_less}
use Rattle.trellis.specs.Trellis.{step}
use Rattle.coset.specs.Coset.{Free, Freed}
use Rattle.coset.specs.Runs.{leader, RanRows, Pair, paired, Run, Top}
use Rattle.coset.proofs.Runs.{same_leader, ran_then, ran_skip, ran_pair, block_up, block_down}

pub powers : (a b : ℕ) → a ≤ b → 2 ^ a ≤ 2 ^ b
powers a b l = pow-le-pow_right (zero-lt-suc 1) l

pub power_some : (e : ℕ) → 0 < 2 ^ e
power_some e = omega (arith, powers 0 e (omega arith))

-- a column leads from row to row
pub over : (q size h : ℕ) → size ≡ 2 ^ q → h < size → (v : ℕ) → v < size → xor v h < size
over q size h e i v b = omega (arith, X.below q v h (omega arith) (omega arith))

-- the lanes of a row that a pair leaves
chosen_at : (t : List ℕ) (s u : ℕ) (z o : List ℕ) (j : ℕ) → j < 4 → lane (less (sum (row t s) z) (sum (row t u) o)) j ≡ min (entry t s j + lane z j) (entry t u j + lane o j)
chosen_at t s u z o j lj =
    less_at (sum (row t s) z) (sum (row t u) o) j lj
    ∙ rw (sum_at (row t s) z j lj, sum_at (row t u) o j lj, row_at t s j lj, row_at t u j lj)

-- the loop of a run
pub record Running (h size from to : ℕ) (z o t₀ : List ℕ) (s : ℕ) (t : List ℕ) : Type 0 where
  pub at_least : from ≤ s
  pub at_most : s ≤ to
  pub long : length t ≡ length t₀
  pub ran : RanRows h size from s z o t₀ t

module _ {l h size from to : ℕ} {t₀ z o : List ℕ} (a : Run l h size from to t₀ z o) {s : ℕ} {t : List ℕ} (f : Running h size from to z o t₀ s t) (below : s < to) where
  wide : (v : ℕ) → v < size → xor v h < size
  wide = over a.q size h a.size_is a.inside

  up : s < xor s h
  up = a.up s f.at_least below

  in_s : s < size
  in_s = omega (arith, a.to_in)

  room_at : (v : ℕ) → v < size → s ≤ leader h v → (j : ℕ) → j < 4 → (lane (row t v) j + lane z j < l) × (lane (row t v) j + lane o j < l)
  room_at v b x j lj = rw (row_at t v j lj, (f.ran j lj).after v b x) (a.room v j b (omega (arith, f.at_least)) lj)

  room_s : (j : ℕ) → j < 4 → (lane (row t s) j + lane z j < l) × (lane (row t s) j + lane o j < l)
  room_s = room_at s in_s (omega (arith, up))

  room_u : (j : ℕ) → j < 4 → (lane (row t (xor s h)) j + lane z j < l) × (lane (row t (xor s h)) j + lane o j < l)
  room_u = room_at (xor s h) (wide s in_s) (omega (arith, up, same_leader h s))

  pub pair_asks : Pair l t s (xor s h) z o
  pair_asks = record {
    s_in = omega (arith, f.long, a.long, in_s);
    u_in = omega (arith, f.long, a.long, wide s in_s);
    s_z = λ j lj. (room_s j lj).0;
    s_o = λ j lj. (room_s j lj).1;
    u_z = λ j lj. (room_u j lj).0;
    u_o = λ j lj. (room_u j lj).1;
  }

  pub run_more : {t' : List ℕ} → t' ≡ paired t s (xor s h) z o → Running h size from to z o t₀ (s + 1) t'
  run_more e = rw e record {
    at_least = omega (arith, f.at_least);
    at_most = omega arith;
    long = length_put (put t s x) (xor s h) y u_in four_y ∙ same_long ∙ f.long;
    ran = λ j lj. ran_then wide f.at_least (omega arith) (f.ran j lj) (ran_pair up (at_s j lj) (at_u j lj) (else j lj));
  }
    where
      x : List ℕ
      x = less (sum (row t s) z) (sum (row t (xor s h)) o)

      y : List ℕ
      y = less (sum (row t (xor s h)) z) (sum (row t s) o)

      four_x : length x ≡ 4
      four_x = length_less (sum (row t s) z) (sum (row t (xor s h)) o)

      four_y : length y ≡ 4
      four_y = length_less (sum (row t (xor s h)) z) (sum (row t s) o)

      same_long : length (put t s x) ≡ length t
      same_long = length_put t s x pair_asks.s_in four_x

      u_in : xor s h * 4 + 4 ≤ length (put t s x)
      u_in = omega (arith, same_long, pair_asks.u_in)

      at_s : (j : ℕ) → j < 4 → entry (put (put t s x) (xor s h) y) s j ≡ min (entry t s j + lane z j) (entry t (xor s h) j + lane o j)
      at_s j lj =
          put_other (put t s x) (xor s h) y u_in four_y (s * 4 + j) (λ c d. omega (arith, up)) ∙ put_at t s x pair_asks.s_in four_x j lj ∙ chosen_at t s (xor s h) z o j lj

      at_u : (j : ℕ) → j < 4 → entry (put (put t s x) (xor s h) y) (xor s h) j ≡ min (entry t (xor s h) j + lane z j) (entry t s j + lane o j)
      at_u j lj = put_at (put t s x) (xor s h) y u_in four_y j lj ∙ chosen_at t (xor s h) s z o j lj

      else : (j : ℕ) → j < 4 → (v : ℕ) → (v ≡ s → ⊥) → (v ≡ xor s h → ⊥) → entry (put (put t s x) (xor s h) y) v j ≡ entry t v j
      else j lj v n m =
          put_other (put t s x) (xor s h) y u_in four_y (v * 4 + j) (λ c d. m (omega arith)) ∙ put_other t s x pair_asks.s_in four_x (v * 4 + j) (λ c d. n (omega arith))

-- the blocks: base is a multiple of twice the step
pub record Blocks (h size step : ℕ) (z o t₀ : List ℕ) (base : ℕ) (t : List ℕ) : Type 0 where
  pub c : ℕ
  pub base_is : base ≡ c * (step + step)
  pub base_in : base ≤ size
  pub long : length t ≡ length t₀
  pub ran : RanRows h size 0 base z o t₀ t

module _ {l q h size step : ℕ} {t₀ z o : List ℕ} (a : Free l q size h t₀ z o) (p : Top h step) {base : ℕ} {t : List ℕ} (f : Blocks h size step z o t₀ base t) (below : base < size) where
  twice : step + step ≡ 2 ^ suc p.e
  twice = omega (arith, p.power, two-pow-succ p.e)

  begin : base ≡ f.c * 2 ^ suc p.e
  begin = rw (← twice) f.base_is

  -- the size is a multiple of the block
  pub block_fits : base + (step + step) ≤ size
  block_fits = go (dec_le q p.e)
    where
      go : Dec (q ≤ p.e) → base + (step + step) ≤ size
      go (yes x) = absurd (omega (arith, powers q p.e x, a.size_is, a.inside, p.power, p.low))
      go (no x) =
          let k : ℕ = q - suc p.e in
          let e : q ≡ k + suc p.e = omega arith in
          let m : size ≡ 2 ^ k * 2 ^ suc p.e = a.size_is ∙ ap (λ (y : ℕ). 2 ^ y) e ∙ pow-add 2 k (suc p.e) in
          let c_in : f.c < 2 ^ k = lt_of_mul-lt-mul_right (2 ^ suc p.e) (omega (arith, begin)) in
          omega (arith, begin, twice, m, mul-le-mul_right (2 ^ suc p.e) c_in, suc-mul f.c (2 ^ suc p.e))

  pub run_asks : Run l h size base (base + step) t z o
  run_asks = record {
    q = q;
    size_is = a.size_is;
    inside = a.inside;
    long = f.long ∙ a.long;
    order = omega arith;
    to_in = omega (arith, block_fits);
    up = λ s x y. block_up p.e h f.c (omega (arith, p.power, p.low)) p.high s (omega (arith, begin)) (omega (arith, begin, p.power));
    room = λ s j b x lj. rw ((f.ran j lj).after s b x) (a.room_z s j b lj, a.room_o s j b lj);
  }

  pub blocks_more : {t' : List ℕ} → length t' ≡ length t → RanRows h size base (base + step) z o t t' → Blocks h size step z o t₀ (base + (step + step)) t'
  blocks_more {t'} e r = record {
    c = suc f.c;
    base_is = omega (arith, suc-mul f.c (step + step), f.base_is);
    base_in = block_fits;
    long = e ∙ f.long;
    ran = λ j lj. ran_then across (omega arith) (omega arith) (f.ran j lj) (ran_then across (omega arith) (omega arith) (r j lj) (ran_skip a.some down));
  }
    where
      across : (v : ℕ) → v < size → xor v h < size
      across = over q size h a.size_is a.inside

      down : (s : ℕ) → base + step ≤ s → s < base + (step + step) → xor s h ≤ s
      down s x y =
          block_down p.e h f.c (omega (arith, p.power, p.low)) p.high s (omega (arith, begin, p.power)) (omega (arith, begin, twice))

pub freed_all : {h size step : ℕ} {t₀ z o : List ℕ} {base : ℕ} {t : List ℕ} → Blocks h size step z o t₀ base t → size ≤ base → Freed size h t₀ z o t
unfolding step
freed_all f l = record { long = f.long; made = λ s j ls lj. (f.ran j lj).done s ls (omega arith) (omega arith) }
