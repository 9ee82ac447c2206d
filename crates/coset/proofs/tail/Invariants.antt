use Rattle.coset.proofs.Tables.{Tailing}
use Rattle.coset.proofs.tail.Given as goal

abbrev pub invariant-loop-i : goal.invariant-loop-i
invariant-loop-i l = Tailing l.layers.q l.layers.size l.layers.hs.now l.layers.zs.now l.layers.os.now l.half l.i l.g
