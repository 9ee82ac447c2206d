use Rattle.std.proofs.Common.{◌-◌, length}
use Rattle.spots.specs.Filling.{Begun}
use Rattle.spots.proofs.fill_slot.Given as goal

abbrev pub invariant-loop-s : goal.invariant-loop-s
invariant-loop-s l = Begun l.columns l.j l.b l.s l.fn.part l.part

abbrev pub decreases-loop-s : goal.decreases-loop-s
decreases-loop-s l = length l.fn.part - l.s
