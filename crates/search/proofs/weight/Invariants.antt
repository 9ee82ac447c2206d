-- The sum of the sizes so far.
use Rattle.search.proofs.Sums.{Weighing}
use Rattle.search.proofs.weight.Given as goal

abbrev pub invariant-loop-r : goal.invariant-loop-r
invariant-loop-r l = Weighing l.row l.r-index l.sum
