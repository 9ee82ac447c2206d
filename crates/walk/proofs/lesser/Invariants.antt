use Rattle.std.proofs.Common.{min}
use Rattle.lanes.specs.Lanes.{lane}
use Rattle.walk.proofs.Rows.{Made}
use Rattle.walk.proofs.lesser.Given as goal

abbrev pub invariant-loop-x : goal.invariant-loop-x
invariant-loop-x l = Made 16 (λ y. min (lane l.a y) (lane l.b y)) l.x l.r
