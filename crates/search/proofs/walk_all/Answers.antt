-- `search::walk_all` meets its contract.
-- Assumes nothing.
use Rattle.search.proofs.walk_all.Goals as goal

pub walk-requires-clause-slots : goal.walk-requires-clause-slots
walk-requires-clause-slots c =
    (rw (c.turns-n.ensures, c.steps_in_rounds-round.ensures.steps, c.slots-sl.ensures) c.requires.slots.0, c.steps_in_rounds-round.ensures.rounds)
