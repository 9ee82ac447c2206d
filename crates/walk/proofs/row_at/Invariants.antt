use Rattle.std.proofs.Common.{◌+◌, get_or}
use Rattle.walk.proofs.Rows.{Made}
use Rattle.walk.proofs.row_at.Given as goal

abbrev pub invariant-loop-x : goal.invariant-loop-x
invariant-loop-x l = Made 16 (λ y. get_or l.f (l.p + y) 0) l.x l.r
