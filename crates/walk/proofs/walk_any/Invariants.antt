use Rattle.std.proofs.Common.{Bool, ◌*◌}
use denote.Param.{number}
use Rattle.walk.specs.contracts.walk_any.{SOFT-type}
use Rattle.walk.proofs.Rounds.{Walking, Rounding}
use Rattle.walk.proofs.walk_any.Given as goal

-- whether marginals are asked for
abbrev pub soft : goal.Over → Bool
soft g = SOFT-type (number g.row.SOFT)

abbrev pub invariant-loop-r : goal.invariant-loop-r
invariant-loop-r g l = Walking (soft g) l.cap l.f l.sl l.st (l.r * l.round) l.g l.a l.m

abbrev pub invariant-loop-i : goal.invariant-loop-i
invariant-loop-i g l = Rounding (soft g) l.cap l.f l.sl l.st l.k l.round l.i l.g l.a l.l
