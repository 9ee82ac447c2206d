-- `sheet_writer::check_question`: the code, the question number, then the row and the word.
-- Assumes nothing.
use Rattle.basics.proofs.Kit.{refl, ap, ◌∙◌}
use Rattle.refusal.specs.Refusal.{unless, number_of}
use Rattle.sheet.proofs.Checks.{stopped, passed_on, failed, held}
use Rattle.sheet_writer.specs.Calls.{asked_refusal}
use Rattle.sheet_writer.proofs.list.check_question.Goals as goal

pub returns-in_err-shape : goal.returns-in_err-shape
unfolding asked_refusal
returns-in_err-shape c = stopped c.shape.result _ _ c.shape.ensures.refused _ _ c.in_err-shape.was c.from_residual.ensures.1

pub returns-in_err-ensure : goal.returns-in_err-ensure
unfolding asked_refusal unless
returns-in_err-ensure c =
    let e = c.from_residual-in_err-ensure in
    let t = failed _ _ c.ensure.result c.ensure.ensures _ e.result c.in_err-ensure.was e.ensures.1 in
    ap number_of t.1 ∙ (rw t.0 refl ∙ passed_on c.shape.result _ _ c.shape.ensures.refused _ c.in_ok-shape.was)

pub returns : goal.returns
unfolding asked_refusal unless
returns c =
    let t = held _ _ c.ensure.result c.ensure.ensures _ c.in_ok-ensure.was in
    (c.check_parts.ensures ∙ (rw (t, c.in_ok-shape.ensures.m) refl)) ∙ passed_on c.shape.result _ _ c.shape.ensures.refused _ c.in_ok-shape.was
