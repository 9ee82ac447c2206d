use Rattle.std.proofs.Common.{◌+◌}
use Rattle.lanes.specs.Lanes.{lane}
use Rattle.walk.proofs.Rows.{Made}
use Rattle.walk.proofs.sum_of.Given as goal

abbrev pub invariant-loop-x : goal.invariant-loop-x
invariant-loop-x l = Made 16 (λ y. lane l.a y + lane l.b y + lane l.c y + lane l.d y) l.x l.r
