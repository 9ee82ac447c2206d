-- `field::Element::product`: what is refused, and the element.
-- Assumes nothing.
use Rattle.refusal.proofs.Results.{handed_on}
use Rattle.field.specs.Answers.{ProductOf}
use Rattle.field.proofs.Refusals.{refused, found, two_good}
use Rattle.field.proofs.Element.product.Goals as goal

pub returns-in_err-check_with : goal.returns-in_err-check_with
unfolding ProductOf
returns-in_err-check_with c = rw (handed_on c.from_residual.result _ c.from_residual.ensures.1) (refused c.check_with.result _ _ c.check_with.ensures _ c.in_err-check_with.was)

pub multiply-requires : goal.multiply-requires
multiply-requires c = two_good c.check_with.result _ c.in_ok-check_with.was c.args.self c.args.other c.check_with.ensures

pub returns : goal.returns
unfolding ProductOf
returns c = found c.check_with.result _ _ c.check_with.ensures _ _ c.in_ok-check_with.was c.multiply.ensures
