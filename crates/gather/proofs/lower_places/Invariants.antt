use Rattle.std.proofs.Common.{◌+◌, ◌*◌, []}
use Rattle.gather.specs.Gather.{Lowered}
use Rattle.gather.proofs.lower_places.Given as goal

abbrev pub invariant-loop-row : goal.invariant-loop-row
invariant-loop-row l = Lowered l.cap [] l.g l.places (l.row * 16) l.a

abbrev pub invariant-loop-x : goal.invariant-loop-x
invariant-loop-x l = Lowered l.cap [] l.g l.places (l.p + l.x) l.a
