-- `practice::draw_sheet`: refused, or drawn.
-- Assumes nothing.
use Rattle.basics.proofs.Kit.{refl}
use Rattle.refusal.proofs.Outcomes.{outcome_done}
use Rattle.refusal.proofs.Results.{handed_on, refused, taken}
use Rattle.practice.specs.Calls.{PracticeSays}
use Rattle.practice.specs.Within.{Refuses}
use Rattle.practice.proofs.Questions.{accepted}
use Rattle.practice.proofs.draw_sheet.Goals as goal

pub returns-in_err-check_practice : goal.returns-in_err-check_practice
unfolding PracticeSays Refuses
returns-in_err-check_practice c =
    rw (handed_on c.from_residual.result _ c.from_residual.ensures.1)
    (refused c.check_practice.result _ (c.check_practice.ensures c.args.state) _ _ _ c.in_err-check_practice.was (refl, refl))

pub draw_questions-requires : goal.draw_questions-requires
unfolding Refuses
draw_questions-requires c = accepted _ _ _ _ (taken c.check_practice.result _ (c.check_practice.ensures c.args.state) _ c.in_ok-check_practice.was)

pub returns : goal.returns
unfolding PracticeSays Refuses
returns c =
    outcome_done _ _ _ _ (taken c.check_practice.result _ (c.check_practice.ensures c.args.state) _ c.in_ok-check_practice.was) refl
    (c.draw_questions.ensures.state, c.draw_questions.ensures.drawn)
