use Rattle.basics.proofs.Kit.{◌-◌}
use Rattle.coset.proofs.Pairs.{Blocks}
use Rattle.coset.proofs.free.Given as goal

abbrev pub invariant-loop-base : goal.invariant-loop-base
invariant-loop-base g l = let n = g.C.Cost.numbers in Blocks l.h l.size l.step (n l.z) (n l.o) (n l.fn.t) l.base (n l.t)

abbrev pub decreases-loop-base : goal.decreases-loop-base
decreases-loop-base g l = l.size - l.base
