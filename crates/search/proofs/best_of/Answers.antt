-- `search::best_of` meets its contract.
-- Assumes nothing.
use Rattle.basics.proofs.Kit.{arith}
use Rattle.search.proofs.Laying.{slots_ok}
use Rattle.search.proofs.best_of.Goals as goal

pub walk_all-least-requires : goal.walk_all-least-requires
walk_all-least-requires c = record { slots = (slots_ok c.args.shape c.lay.ensures c.requires.cheap.0 c.requires.cheap.1, omega arith) }
