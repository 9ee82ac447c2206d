-- The least rank so far.
use Rattle.std.proofs.Common.{◌≡◌}
use Rattle.split.specs.Members.{least_rank}
use Rattle.split.proofs.least_rank.Given as goal

abbrev pub invariant-loop-k : goal.invariant-loop-k
invariant-loop-k l = l.best ≡ least_rank l.rows l.word l.k
