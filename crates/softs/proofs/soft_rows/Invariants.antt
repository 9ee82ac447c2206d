use Rattle.softs.specs.Softs.{Softened}
use Rattle.softs.proofs.soft_rows.Given as goal

abbrev pub invariant-loop-i : goal.invariant-loop-i
invariant-loop-i l = Softened l.m l.zero l.one l.i l.fn.soft l.soft
