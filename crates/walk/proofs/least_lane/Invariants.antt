use Rattle.std.proofs.Common.{◌≡◌}
use Rattle.lanes.specs.Lanes.{lane}
use Rattle.trellis.specs.Trellis.{least_of}
use Rattle.walk.proofs.least_lane.Given as goal

abbrev pub invariant-loop-x : goal.invariant-loop-x
invariant-loop-x l = l.r ≡ least_of (lane l.m) l.cap l.x
