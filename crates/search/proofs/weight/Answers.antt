-- `search::weight` meets its contract.
-- Assumes nothing.
use Rattle.basics.proofs.Kit.{◌+◌, arith, rules, get_or, ℤ, pos}
use mir.Syntax.{w16}
use mir.Val.{SFits}
use Rattle.metric.specs.Cost.{cost_zero, cost_one}
use Rattle.search.proofs.Prepared.{through}
use Rattle.search.proofs.Sums.{weighing_more, weighing_end}
use Rattle.search.proofs.weight.Goals as goal

pub loop-r-preserved : goal.loop-r-preserved
loop-r-preserved c =
    let k : SFits w16 (get_or c.args.row.now c.loop-r.r-index (pos 0)) = search rules in
    weighing_more c.loop-r.invariant (omega arith) (through (λ (r : ℤ). cost_zero r + cost_one r) k c.size_of-sum.ensures.value) c.size_of-sum.ensures.bound

pub returns : goal.returns
returns c = weighing_end c.loop-r.invariant (omega arith)
