-- `code::Choice::shape`: m and r that are not refused may be chosen.
-- Assumes nothing.
use Rattle.basics.proofs.Kit.{sym}
use Rattle.code.proofs.Accepted.{parameters_taken}
use Rattle.code.proofs.shape.Choice.shape.Goals as goal

pub new-requires : goal.new-requires
new-requires c = parameters_taken _ _ (sym c.in_ok-check_parameters-in-Parameters.ensures)
