use Rattle.std.proofs.Common.{◌≡◌, List, ◌++◌, ℕ, ◌+◌, ◌-◌, ◌*◌, ◌/◌, ◌^◌, ◌≤◌, drop, nat_abs}
use Rattle.code.specs.Bits.{bits_of}
use Rattle.metric.specs.Metric.{metric_of}
use Rattle.metric.proofs.with_symbol.Given as goal

-- the metric from bit j on, and its size
abbrev pub invariant-loop-j : goal.invariant-loop-j
invariant-loop-j l =
    (nat_abs l.s ≤ 7620 + (l.m - l.j) * 127)
    × ((bs : List ℕ) → l.sum ≡ metric_of (drop l.m l.row) bs → l.s ≡ metric_of (drop l.j l.row) (bits_of (l.m - l.j) (l.c / 2 ^ l.j) ++ bs))
