use Rattle.coset.proofs.Pairs.{Running}
use Rattle.coset.proofs.run.Given as goal

abbrev pub invariant-loop-s : goal.invariant-loop-s
invariant-loop-s g l = let n = g.C.Cost.numbers in Running l.h l.size l.from l.to (n l.z) (n l.o) (n l.fn.t) l.s (n l.t)
