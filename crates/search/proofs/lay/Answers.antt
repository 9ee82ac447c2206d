-- `search::lay` meets its contract.
-- Assumes nothing.
use Rattle.basics.proofs.Kit.{arith}
use Rattle.search.proofs.Laying.{sixteens}
use Rattle.search.proofs.lay.Goals as goal

pub gather-requires : goal.gather-requires
gather-requires c = (sixteens c.args.shape c.fill.ensures c.requires.lengths.0, omega arith)
