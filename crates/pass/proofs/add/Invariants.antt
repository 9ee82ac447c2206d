use Rattle.basics.proofs.Kit.{◌≡◌, ◌-◌, ◌%◌, ◌≤◌}
use Rattle.pass.specs.Steps.{Made, added}
use Rattle.pass.proofs.add.Given as goal

abbrev pub invariant-loop-s : goal.invariant-loop-s
invariant-loop-s l = record { inside : l.s ≤ l.size; even : l.s % 2 ≡ 0; done : Made (added l.fn.a l.g) l.s l.fn.a l.a }

abbrev pub decreases-loop-s : goal.decreases-loop-s
decreases-loop-s l = l.size - l.s
