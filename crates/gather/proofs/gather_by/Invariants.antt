use Rattle.std.proofs.Common.{◌+◌, ◌*◌}
use Rattle.gather.specs.Gather.{Answered}
use Rattle.gather.proofs.gather_by.Given as goal

abbrev pub invariant-loop-row : goal.invariant-loop-row
invariant-loop-row g l = Answered (goal.F-post g l.cost) l.places (l.row * 16) l.f

abbrev pub invariant-loop-x : goal.invariant-loop-x
invariant-loop-x g l = Answered (goal.F-post g l.cost) l.places (l.p + l.x) l.f
