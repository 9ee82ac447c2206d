-- `marker::judge_word` meets its contract.
-- Assumes nothing.
use Rattle.basics.proofs.Kit.{refl, sym, length, rules}
use Rattle.refusal.proofs.Results.{handed_on}
use Rattle.code.proofs.Chosen.{choice_refused, call_refused, call_done}
use Rattle.search.proofs.Roomed.{cleared_is}
use Rattle.marker.specs.Calls.{mark_refusal, MarkSays}
use Rattle.marker.proofs.Refusals.{mark_accepted}
use Rattle.marker.proofs.judge_word.Goals as goal

pub returns-in_err-shape : goal.returns-in_err-shape
unfolding MarkSays
returns-in_err-shape c =
    rw (handed_on c.from_residual.result _ c.from_residual.ensures.1) (choice_refused c.args.choice c.shape.result c.shape.ensures.refused _ _ _ _ c.in_err-shape.was (refl, refl, refl))

pub returns-in_err-check_mark : goal.returns-in_err-check_mark
unfolding MarkSays
returns-in_err-check_mark c =
    let s = c.shape.ensures in
    rw (handed_on c.from_residual-in_err-check_mark.result _ c.from_residual-in_err-check_mark.ensures.1)
    (call_refused c.args.choice c.shape.result s.refused (λ m r. mark_refusal m c.args.row.now c.args.word.now (length c.args.scratch.now)) s.m s.r _ c.in_ok-shape.was c.check_mark.result c.check_mark.ensures _ _ _ c.in_err-check_mark.was (refl, refl, refl))

pub judge_accepted-verdict-requires : goal.judge_accepted-verdict-requires
judge_accepted-verdict-requires c =
    let e = sym c.in_ok-check_mark.ensures in
    rw (mark_accepted _ _ _ _ e).long_scratch at e

pub returns : goal.returns
unfolding MarkSays
returns c =
    let s = c.shape.ensures in
    call_done c.args.choice c.shape.result s.refused (λ m r. mark_refusal m c.args.row.now c.args.word.now (length c.args.scratch.now)) s.m s.r _ c.in_ok-shape.was c.check_mark.result c.check_mark.ensures _ _ _ c.in_ok-check_mark.was
    (rw (← c.in_ok-shape.ensures.m, ← c.in_ok-shape.ensures.r) c.judge_accepted-verdict.ensures, cleared_is _ (search rules) (mark_accepted _ _ _ _ (sym c.in_ok-check_mark.ensures)).long_scratch)
