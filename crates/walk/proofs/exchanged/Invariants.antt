use Rattle.std.proofs.Common.{◌+◌, ◌-◌}
use Rattle.lanes.specs.Lanes.{lane}
use Rattle.walk.proofs.Rows.{Made}
use Rattle.walk.proofs.exchanged.Given as goal

abbrev pub invariant-loop-x : goal.invariant-loop-x
invariant-loop-x l = Made 16 (λ y. lane l.t y - lane l.off y + lane l.on y) l.x l.r
