use Rattle.std.proofs.Common.{◌≡◌, false}
use Rattle.ties.specs.Turn.{NoneCosts}
use Rattle.ties.proofs.any_costs.Given as goal

abbrev pub invariant-loop-x : goal.invariant-loop-x
invariant-loop-x l = l.any ≡ false → NoneCosts l.t l.least l.x
