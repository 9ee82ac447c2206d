-- Slot after slot.
use Rattle.std.proofs.Common.{◌≡◌, ℕ, ◌+◌, ◌*◌, ◌-◌, arith, add-one}
use Rattle.spots.proofs.Filled.{turn_at, filled_at}
use Rattle.spots.proofs.fill_slots.Goals as goal

ten : (j : ℕ) → j * 10 + 10 - j * 10 ≡ 10
ten j = omega arith

pub fill_slot-requires : goal.fill_slot-requires
fill_slot-requires c =
    let j = c.loop-j.j in
    (turn_at c.requires c.loop-j-test.true c.loop-j.invariant.long (add-one j) (ten j)).slot

pub loop-j-preserved : goal.loop-j-preserved
loop-j-preserved c =
    let j = c.loop-j.j in
    filled_at c.requires c.loop-j.invariant c.loop-j-test.true c.fill_slot.ensures (add-one j) (ten j)
