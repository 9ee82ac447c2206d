-- `search::costs` meets its contract.
-- Assumes nothing.
use Rattle.basics.proofs.Kit.{arith, rules, get_or, pos}
use mir.Syntax.{w16}
use mir.Val.{SFits}
use Rattle.metric.specs.Cost.{cost_zero, cost_one}
use Rattle.search.proofs.Prepared.{costs_more, through}
use Rattle.search.proofs.costs.Goals as goal

pub loop-b-preserved : goal.loop-b-preserved
loop-b-preserved c =
    let k : SFits w16 (get_or c.args.wide.now c.loop-b.b (pos 0)) = search rules in
    costs_more c.loop-b.invariant (omega arith) (omega arith) (through cost_zero k c.cost_of_zero.ensures) (through cost_one k c.cost_of_one.ensures)
