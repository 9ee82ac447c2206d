-- `field::Element::sum`: what is refused, and the element.
-- Assumes nothing.
use Rattle.refusal.proofs.Results.{handed_on}
use Rattle.field.specs.Answers.{SumOf}
use Rattle.field.proofs.Refusals.{refused, found}
use Rattle.field.proofs.Element.sum.Goals as goal

pub returns-in_err-check_with : goal.returns-in_err-check_with
unfolding SumOf
returns-in_err-check_with c = rw (handed_on c.from_residual.result _ c.from_residual.ensures.1) (refused c.check_with.result _ _ c.check_with.ensures _ c.in_err-check_with.was)

pub returns : goal.returns
unfolding SumOf
returns c = found c.check_with.result _ _ c.check_with.ensures _ _ c.in_ok-check_with.was c.add.ensures
