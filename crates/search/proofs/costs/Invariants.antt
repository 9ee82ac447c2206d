-- The costs of the places before b are written.
use Rattle.search.specs.Within.{CostsTo}
use Rattle.search.proofs.costs.Given as goal

abbrev pub invariant-loop-b : goal.invariant-loop-b
invariant-loop-b l = CostsTo l.b l.wide l.zs l.os
