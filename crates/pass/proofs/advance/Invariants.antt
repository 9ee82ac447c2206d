use Rattle.basics.proofs.Kit.{◌-◌}
use Rattle.coset.specs.Runs.{Top}
use Rattle.pass.proofs.Advancing.{Advancing}
use Rattle.pass.proofs.advance.Given as goal

abbrev pub invariant-loop-s : goal.invariant-loop-s
invariant-loop-s l = (t : Top l.h l.top) → Advancing l.h l.size l.cap t.e l.fn.a l.t l.z l.o l.s l.a l.zero l.one

abbrev pub decreases-loop-s : goal.decreases-loop-s
decreases-loop-s l = l.size - l.s
