-- The columns of a code that may be chosen: below the number of cosets and not 0, the last ones the powers of two; and room for
-- the tables that are kept and for the places of the walk.
-- Assumes nothing.
use Rattle.basics.proofs.Kit.{◌≡◌, Bool, true, cond, ℕ, suc, ◌-◌, ◌*◌, ◌^◌, ◌≤◌, ◌<◌, get_or, eqb, ltb, leb}
use mathlib.Core.Path.{subst}
use lib.Dec.{T, eqb→eq, leb→le, ltb→lt}
use borrow.Author.Tests.{le-leb}
use Rattle.field.proofs.Tests.{all, at}
use Rattle.code.specs.Code.{long, syndrome_long, accepted}
use Rattle.tails.specs.Tails.{columns, heads, tail_columns, place_columns}
use Rattle.walk.specs.Walk.{start}
use Rattle.spots.specs.Spots.{slot_bits, room_from, slots_from, slots}
use Rattle.tails.proofs.Accepted.{tested}

module _ (m r : ℕ) (a : accepted m r ≡ true) where
  pub column_in : (i : ℕ) → i < long m → get_or (columns m r) i 0 < 2 ^ syndrome_long m r
  unfolding columns heads tail_columns long
  column_in i h =
      ltb→lt _ _ (at (long m) (λ i. ltb (get_or (columns m r) i 0) (2 ^ syndrome_long m r)) (tested (λ m r. all (long m) (λ i. ltb (get_or (columns m r) i 0) (2 ^ syndrome_long m r))) tt m r a) i h)

  pub column_some : (i : ℕ) → i < long m → 0 < get_or (columns m r) i 0
  unfolding columns heads tail_columns long
  column_some i h = ltb→lt _ _ (at (long m) (λ i. ltb 0 (get_or (columns m r) i 0)) (tested (λ m r. all (long m) (λ i. ltb 0 (get_or (columns m r) i 0))) tt m r a) i h)

  pub column_unit : (k : ℕ) → k < syndrome_long m r → get_or (columns m r) (long m - suc k) 0 ≡ 2 ^ k
  unfolding columns heads tail_columns long
  column_unit k h =
      eqb→eq _ _ (at (syndrome_long m r) (λ k. eqb (get_or (columns m r) (long m - suc k) 0) (2 ^ k)) (tested (λ m r. all (syndrome_long m r) (λ k. eqb (get_or (columns m r) (long m - suc k) 0) (2 ^ k))) tt m r a) k h)

  pub some_bits : 0 < syndrome_long m r
  some_bits = ltb→lt _ _ (tested (λ m r. ltb 0 (syndrome_long m r)) tt m r a)

  pub head_there : syndrome_long m r < long m
  unfolding long
  head_there = ltb→lt _ _ (tested (λ m r. ltb (syndrome_long m r) (long m)) tt m r a)

  pub kept_in : (long m - syndrome_long m r - 1) * (2 ^ syndrome_long m r * 4) ≤ 16384
  unfolding long
  kept_in = leb→le _ _ (tested (λ m r. leb ((long m - syndrome_long m r - 1) * (2 ^ syndrome_long m r * 4)) 16384) tt m r a)

  pub states_in : 2 ^ syndrome_long m r * 4 ≤ 4096
  states_in = leb→le _ _ (tested (λ m r. leb (2 ^ syndrome_long m r * 4) 4096) tt m r a)

  -- a code with at most 336 places has at most 64 cosets
  pub small_in : start (slots m r) 4 ≤ 336 → 2 ^ syndrome_long m r * 4 ≤ 256
  unfolding slots slots_from room_from slot_bits place_columns
  small_in h =
      leb→le _ _ (subst (λ (b : Bool). T (cond b (leb (2 ^ syndrome_long m r * 4) 256) true)) (le-leb _ _ h) (tested (λ m r. cond (leb (start (slots m r) 4) 336) (leb (2 ^ syndrome_long m r * 4) 256) true) tt m r a))
