-- `search::least_of` meets its contract.
-- Assumes nothing.
use Rattle.search.proofs.Laying.{slots_ok}
use Rattle.search.proofs.least_of.Goals as goal

pub least_of-requires-clause-slots : goal.least_of-requires-clause-slots
least_of-requires-clause-slots c =
    (rw (c.turns-n.ensures, c.steps_in_rounds-round.ensures.steps, c.slots-sl.ensures) (slots_ok c.args.shape c.lay_costs.ensures c.requires.cheap.0 c.requires.cheap.1), c.steps_in_rounds-round.ensures.rounds)
