use Rattle.coset.proofs.Tables.{Making}
use Rattle.coset.proofs.make.Given as goal

abbrev pub invariant-loop-i : goal.invariant-loop-i
invariant-loop-i l = Making l.layers.q l.layers.size l.layers.hs.now l.layers.zs.now l.layers.os.now l.fn.kept l.t l.kept l.i l.bit
