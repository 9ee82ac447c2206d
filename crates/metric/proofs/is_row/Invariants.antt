use Rattle.metric.proofs.Rowing.{Rowing}
use Rattle.metric.proofs.is_row.Given as goal

abbrev pub invariant-loop-r : goal.invariant-loop-r
invariant-loop-r l = Rowing l.bound l.row l.r-index l.good
