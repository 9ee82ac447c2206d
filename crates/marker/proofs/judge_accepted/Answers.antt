-- `marker::judge_accepted` meets its contract.
-- Assumes nothing.
use Rattle.basics.proofs.Kit.{sym, ◌∙◌, ◌^◌, ◌<◌, arith}
use mir.Facts.{to_z_pos}
use mir.Syntax.{w32}
use Rattle.metric.proofs.Marks.{marked_none}
use Rattle.marker.proofs.Marking.{word_in, judged, excess_small, excess_lacks}
use Rattle.marker.proofs.Refusals.{mark_accepted}
use Rattle.marker.proofs.judge_accepted.Goals as goal

pub is_codeword-requires : goal.is_codeword-requires
is_codeword-requires c = word_in c.args.shape (mark_accepted _ _ _ _ c.requires)

pub returns-then-not-is_codeword : goal.returns-then-not-is_codeword
returns-then-not-is_codeword c = marked_none _ _ _ _ (sym c.is_codeword.ensures ∙ c.if-not-is_codeword.true)

pub excess-requires : goal.excess-requires
excess-requires c = judged c.args.shape (mark_accepted _ _ _ _ c.requires) (sym c.is_codeword.ensures ∙ c.if-not-is_codeword.false)

pub overflow_mul-excess : goal.overflow_mul-excess
overflow_mul-excess c =
    let small : c.excess.result < 2 ^ 30 = excess_small (judged c.args.shape (mark_accepted _ _ _ _ c.requires) (sym c.is_codeword.ensures ∙ c.if-not-is_codeword.false)) c.excess.ensures in
    record { fits = omega arith }

pub overflow_cast-excess : goal.overflow_cast-excess
overflow_cast-excess c =
    let small : c.excess.result < 2 ^ 30 = excess_small (judged c.args.shape (mark_accepted _ _ _ _ c.requires) (sym c.is_codeword.ensures ∙ c.if-not-is_codeword.false)) c.excess.ensures in
    record { sfits = omega arith }

pub returns : goal.returns
returns c =
    let j = judged c.args.shape (mark_accepted _ _ _ _ c.requires) (sym c.is_codeword.ensures ∙ c.if-not-is_codeword.false) in
    let small : c.excess.result < 2 ^ 30 = excess_small j c.excess.ensures in
    c.verdict_on.ensures _ _ _ _ (excess_lacks j c.excess.ensures (to_z_pos w32 (omega arith)))
