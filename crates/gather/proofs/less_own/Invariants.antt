use Rattle.gather.specs.Gather.{LessOwn}
use Rattle.gather.proofs.less_own.Given as goal

abbrev pub invariant-loop-p : goal.invariant-loop-p
invariant-loop-p l = LessOwn l.f l.fn.g l.p l.g
