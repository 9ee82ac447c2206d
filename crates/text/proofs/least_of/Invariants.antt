use Rattle.std.proofs.Common.{◌≡◌, drop}
use Rattle.text.specs.Text.{least_from, least_magnitude}
use Rattle.text.proofs.least_of.Given as goal

-- the least so far and the rest of the soft outputs have the least of them all
abbrev pub invariant-loop-s : goal.invariant-loop-s
invariant-loop-s l = least_from l.least (drop l.s-index l.s-items) ≡ least_magnitude l.soft
