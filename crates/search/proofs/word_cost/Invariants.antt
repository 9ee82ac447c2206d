-- What the first 2 k symbols cost.
use Rattle.basics.proofs.Kit.{◌*◌}
use Rattle.search.proofs.Sums.{Adding}
use Rattle.search.proofs.word_cost.Given as goal

abbrev pub invariant-loop-k : goal.invariant-loop-k
invariant-loop-k l = Adding l.top l.zs l.os l.word (2 * l.k) l.sum
