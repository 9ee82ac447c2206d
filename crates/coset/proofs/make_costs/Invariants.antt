use Rattle.basics.proofs.Kit.{◌+◌, ◌≤◌, length}
use Rattle.coset.specs.Coset.{Costs}
use Rattle.coset.proofs.make_costs.Given as goal

abbrev pub invariant-loop-i : goal.invariant-loop-i
invariant-loop-i l = record { inside : l.i + l.layers.q ≤ length l.layers.hs.now; behind : Costs l.layers.size l.layers.hs.now l.layers.zs.now l.layers.os.now l.i l.g }
