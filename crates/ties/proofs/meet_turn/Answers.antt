use Rattle.std.proofs.Common.{rules}
use Rattle.ties.proofs.Turns.{pass, pass_none}
use Rattle.ties.proofs.meet_turn.Goals as goal

pub returns-then-not-any_costs : goal.returns-then-not-any_costs
returns-then-not-any_costs c = pass_none _ _ _ _ _ (c.any_costs.ensures (search rules))

pub returns-then-not-any_counts : goal.returns-then-not-any_counts
returns-then-not-any_counts c = pass _ _ _ _ _ (c.any_counts.ensures (search rules))
