use Rattle.std.proofs.Common.{arith}
use Rattle.walk.proofs.Rows.{low_start, low_more, low_end}
use Rattle.walk.proofs.lower.Goals as goal

pub loop-x-init : goal.loop-x-init
loop-x-init c = low_start

pub loop-x-preserved : goal.loop-x-preserved
loop-x-preserved c = low_more c.loop-x.invariant (omega arith) c.less_of.ensures

pub returns : goal.returns
returns c = low_end c.loop-x.invariant (omega arith)
