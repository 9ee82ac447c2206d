use Rattle.pass.proofs.Folding.{Folding}
use Rattle.pass.proofs.fold.Given as goal

abbrev pub invariant-loop-s : goal.invariant-loop-s
invariant-loop-s l = Folding l.half l.cap l.fn.a l.s l.a l.zero l.one
