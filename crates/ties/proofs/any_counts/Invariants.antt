use Rattle.std.proofs.Common.{◌≡◌, false}
use Rattle.ties.specs.Turn.{BeforeAll}
use Rattle.ties.proofs.any_counts.Given as goal

abbrev pub invariant-loop-x : goal.invariant-loop-x
invariant-loop-x l = l.any ≡ false → BeforeAll l.t l.w l.a l.least l.b l.x
