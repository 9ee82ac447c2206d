-- `field::Element::new`: what is refused, and the element.
-- Assumes nothing.
use Rattle.refusal.proofs.Results.{handed_on}
use Rattle.basics.proofs.Kit.{refl}
use Rattle.field.specs.Answers.{Made}
use Rattle.field.proofs.Refusals.{refused, found}
use Rattle.field.proofs.Element.new.Goals as goal

pub returns-in_err-check : goal.returns-in_err-check
unfolding Made
returns-in_err-check c = rw (handed_on c.from_residual.result _ c.from_residual.ensures.1) (refused c.check.result _ _ c.check.ensures _ c.in_err-check.was)

pub returns : goal.returns
unfolding Made
returns c = found c.check.result _ _ c.check.ensures _ _ c.in_ok-check.was refl
