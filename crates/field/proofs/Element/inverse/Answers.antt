-- `field::Element::inverse`: what is refused, and the element.
-- Assumes nothing.
use Rattle.refusal.proofs.Results.{handed_on}
use Rattle.field.specs.Answers.{InverseOf}
use Rattle.field.proofs.Refusals.{refused, found, one_good}
use Rattle.field.proofs.Element.inverse.Goals as goal

pub returns-in_err-check : goal.returns-in_err-check
unfolding InverseOf
returns-in_err-check c = rw (handed_on c.from_residual.result _ c.from_residual.ensures.1) (refused c.check.result _ _ c.check.ensures _ c.in_err-check.was)

pub invert-requires : goal.invert-requires
invert-requires c = one_good c.check.result _ c.in_ok-check.was c.args.self c.check.ensures

pub returns : goal.returns
unfolding InverseOf
returns c = found c.check.result _ _ c.check.ensures _ _ c.in_ok-check.was c.invert.ensures
