use Rattle.std.proofs.Common.{◌≡◌, ◌*◌, drop}
use Rattle.code.specs.Bits.{all_bits}
use Rattle.metric.specs.Metric.{metric_of}
use Rattle.metric.proofs.summed.Given as goal

-- the metric from symbol i on
abbrev pub invariant-loop-i : goal.invariant-loop-i
invariant-loop-i l = l.sum ≡ metric_of (drop (l.i * l.m) l.row) (all_bits l.m (drop l.i l.word))
