use Rattle.spots.specs.Filling.{Doubled}
use Rattle.spots.proofs.double.Given as goal

abbrev pub invariant-loop-p : goal.invariant-loop-p
invariant-loop-p l = Doubled l.s l.p l.h l.fn.part l.part
