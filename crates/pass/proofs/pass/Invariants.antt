use Rattle.pass.proofs.Passing.{Heads, Tails}
use Rattle.pass.proofs.pass.Given as goal

abbrev pub invariant-loop-i : goal.invariant-loop-i
invariant-loop-i l = Heads l.layers.q l.layers.size l.cap l.fn.a l.layers.hs.now l.layers.zs.now l.layers.os.now l.fn.zero l.fn.one l.i l.a l.g l.zero l.one

abbrev pub invariant-loop-k : goal.invariant-loop-k
invariant-loop-k l = Tails l.layers.q l.layers.size l.cap l.fn.a l.layers.hs.now l.layers.zs.now l.layers.os.now l.fn.zero l.fn.one l.k l.half l.a l.zero l.one
