-- `sheet::judge_sheet`: the byte count, then the words.
-- Assumes nothing.
use Rattle.basics.proofs.Kit.{refl, sym, ap, ◌∙◌}
use Rattle.refusal.specs.Refusal.{unless}
use Rattle.sheet.specs.Calls.{judged_of}
use Rattle.sheet.proofs.Checks.{failed, held}
use Rattle.sheet.proofs.Forms.{rows_here}
use Rattle.sheet.proofs.Turns.{judged_whole}
use Rattle.sheet.proofs.judge_sheet.Goals as goal

pub returns-in_err-ensure : goal.returns-in_err-ensure
unfolding unless
returns-in_err-ensure c =
    let t = failed _ _ c.ensure.result c.ensure.ensures _ c.from_residual.result c.in_err-ensure.was c.from_residual.ensures.1 in
    ap judged_of t.1 ∙ sym (judged_whole c.args.sheet.now ∙ rw t.0 refl)

pub returns : goal.returns
unfolding unless
returns c =
    let t = held _ _ c.ensure.result c.ensure.ensures _ c.in_ok-ensure.was in
    rw (rows_here _) at c.judged_words.ensures ∙ sym (judged_whole c.args.sheet.now ∙ rw t refl)
