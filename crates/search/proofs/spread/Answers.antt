-- `search::spread` meets its contract.
-- Assumes nothing.
use Rattle.basics.proofs.Kit.{arith}
use Rattle.search.proofs.Prepared.{spread_more}
use Rattle.search.proofs.spread.Goals as goal

pub loop-i-preserved : goal.loop-i-preserved
loop-i-preserved c = spread_more _ _ _ _ _ (omega arith) c.loop-i.invariant c.spread_at.ensures
