use Rattle.walk.proofs.Rows.{Lowering}
use Rattle.walk.proofs.lower.Given as goal

abbrev pub invariant-loop-x : goal.invariant-loop-x
invariant-loop-x l = Lowering l.fn.g l.p l.t l.x l.g
