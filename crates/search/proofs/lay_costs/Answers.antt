-- `search::lay_costs` meets its contract.
-- Assumes nothing.
use Rattle.basics.proofs.Kit.{arith}
use Rattle.search.proofs.Laying.{sixteens}
use Rattle.search.proofs.lay_costs.Goals as goal

pub gather_costs-requires : goal.gather_costs-requires
gather_costs-requires c = (sixteens c.args.shape c.fill.ensures c.requires.lengths.0, omega arith)
