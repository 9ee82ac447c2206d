-- Doubled until the slot is full.
use Rattle.std.proofs.Common.{arith, add-one}
use Rattle.spots.proofs.Filled.{begun_more, doubles, not_full}
use Rattle.spots.proofs.fill_slot.Goals as goal

pub double-requires : goal.double-requires
double-requires c = doubles c.requires c.loop-s.invariant (not_full c.requires c.loop-s.invariant c.loop-s-test.true)

pub overflow_add-b : goal.overflow_add-b
overflow_add-b c = omega (arith, not_full c.requires c.loop-s.invariant c.loop-s-test.true, c.requires.few)

pub loop-s-preserved : goal.loop-s-preserved
loop-s-preserved c = rw add-one (begun_more c.loop-s.invariant c.requires.layer c.double.ensures)
