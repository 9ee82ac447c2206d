-- `search::steps_in_rounds` meets its contract.
-- Assumes nothing.
use Rattle.search.proofs.Laying.{none_in_one, one_round, rounds_ok}
use Rattle.search.proofs.steps_in_rounds.Goals as goal

pub returns-then-n-eq1-clause-steps : goal.returns-then-n-eq1-clause-steps
returns-then-n-eq1-clause-steps c = none_in_one c.args.shape c.requires c.if-n-eq1.true

pub returns-then-n-eq1-clause-rounds : goal.returns-then-n-eq1-clause-rounds
returns-then-n-eq1-clause-rounds c = rw c.if-n-eq1.true (one_round _)

pub returns-clause-rounds : goal.returns-clause-rounds
returns-clause-rounds c = rw (c.requires, c.steps.ensures, c.round.ensures) (rounds_ok c.args.shape)
