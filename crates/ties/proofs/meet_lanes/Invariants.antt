use Rattle.std.proofs.Common.{◌≡◌}
use Rattle.ties.specs.Turn.{meet}
use Rattle.ties.proofs.meet_lanes.Given as goal

abbrev pub invariant-loop-x : goal.invariant-loop-x
invariant-loop-x l = l.r ≡ meet l.t l.w l.a l.least l.fn.b l.x
