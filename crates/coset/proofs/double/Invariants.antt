use Rattle.basics.proofs.Kit.{◌≡◌, ◌≤◌, ◌-◌, ◌%◌}
use Rattle.coset.specs.Runs.{Doubled}
use Rattle.coset.proofs.double.Given as goal

abbrev pub invariant-loop-s : goal.invariant-loop-s
invariant-loop-s l = record { inside : l.s ≤ l.half; even : l.s % 2 ≡ 0; done : Doubled l.half l.s l.z l.o l.fn.g l.g }

abbrev pub decreases-loop-s : goal.decreases-loop-s
decreases-loop-s l = l.half - l.s
