-- What the walk of a code asks, where each of its places costs nothing.
-- Assumes nothing.
use Rattle.basics.proofs.Kit.{◌≡◌, refl, sym, ◌∙◌, true, List, ℕ, zero, suc, ◌-◌, ◌*◌, ◌≤◌, arith, length, get_or, take}
use lib.ListN.{replicate, length-replicate}
use lib.Seq.{length-take-le}
use Rattle.code.specs.Code.{accepted}
use Rattle.tails.specs.Tails.{turns}
use Rattle.walk.specs.Walk.{start, spot, total, changes, Slots, Rounds}
use Rattle.spots.specs.Spots.{slots, all_steps, round, layers_a_step}
use Rattle.spots.specs.Promise.{Walks, Walkable, WalksInRounds, Adjustments}
use Rattle.spots.proofs.Walks.{walks}
use Rattle.spots.proofs.Rounds.{walks_in_rounds, adjustments}

-- the first of some zeros
all_zero : (n k p : ℕ) → ◌≡◌ {A = ℕ} (get_or (take n (replicate k 0)) p 0) 0
all_zero zero k p = refl
all_zero (suc n) zero p = refl
all_zero (suc n) (suc k) zero = refl
all_zero (suc n) (suc k) (suc p) = all_zero n k p

pub zeros_long : (n k : ℕ) → n ≤ k → n ≡ length (take n (replicate {A = ℕ} k 0))
zeros_long n k h = let z : ℕ = 0 in sym (length-take-le n (replicate k z) (rw (length-replicate k z) h))

-- ---- a code that is accepted
module _ (m r : ℕ) (a : accepted m r ≡ true) where
  walkable : Walkable m r
  unfolding Walks
  walkable = walks m r a

  in_rounds : Rounds (turns m r) (round m r) (all_steps m r)
  unfolding WalksInRounds
  in_rounds = walks_in_rounds m r a

  pub short : get_or (slots m r) 4 0 ≤ 4096
  short = walkable.short

  free : Slots (turns m r) (take (get_or (slots m r) 4 0) (replicate 4096 0)) (slots m r) (all_steps m r)
  unfolding total
  free =
      let w = walkable in
      let e = start (slots m r) 4 in
      let l = zeros_long e 4096 short in
      let z : (i j : ℕ) → ◌≡◌ {A = ℕ} (get_or (take e (replicate 4096 0)) (spot (slots m r) (all_steps m r) i j) 0) 0 = λ i j. all_zero e 4096 (spot (slots m r) (all_steps m r) i j) in
      record {
        some = w.some;
        few = w.few;
        slots = w.slots_long;
        steps = w.steps_long;
        ends = l;
        above = w.above;
        below = w.below;
        room = λ i h. omega (arith, z i 0, z i 1, z i 2, z i 3);
      }

  -- by what the functions of the crate spots answer
  pub asked : (sl st : List ℕ) (n q : ℕ) → sl ≡ slots m r → st ≡ all_steps m r → n ≡ turns m r → q ≡ round m r →
      Slots n (take (get_or sl 4 0) (replicate 4096 0)) sl st × Rounds n q st
  asked sl st n q e f g h = rw (e, f, g, h) (free, in_rounds)

  pub answered : (x : ℕ) (sl st : List ℕ) (n : ℕ) → sl ≡ slots m r → st ≡ all_steps m r → n ≡ turns m r → x ≡ changes sl st (n - 1) →
      (x ≡ changes (slots m r) (all_steps m r) (turns m r - 1)) × (x ≡ (turns m r - 1) * layers_a_step m r)
  unfolding Adjustments
  answered x sl st n e f g h =
      let l = walkable.some in
      let c : x ≡ changes (slots m r) (all_steps m r) (turns m r - 1) = rw (e, f, g) at h in
      (c, c ∙ adjustments m r (turns m r - 1) a (omega (arith, l)))
