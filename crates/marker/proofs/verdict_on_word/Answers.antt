-- `marker::verdict_on_word` meets its contract.
-- Assumes nothing.
use Rattle.basics.proofs.Kit.{sym, ap₂, ◌∙◌, ◌-ℤ◌}
use mathlib.Core.Path.{subst}
use mir.Facts.{to_z-of_z}
use mir.Syntax.{w32}
use mir.Val.{SFits}
use Rattle.metric.proofs.Marks.{marked_none}
use Rattle.marker.proofs.Marking.{word_in, word_with, lacks_fits}
use Rattle.marker.proofs.Refusals.{mark_accepted}
use Rattle.marker.proofs.verdict_on_word.Goals as goal

pub is_codeword-requires : goal.is_codeword-requires
is_codeword-requires c = word_in c.args.shape (mark_accepted _ _ _ _ c.requires.accepted)

pub returns-then-not-is_codeword : goal.returns-then-not-is_codeword
returns-then-not-is_codeword c = marked_none _ _ _ _ (sym c.is_codeword.ensures ∙ c.if-not-is_codeword.true)

pub word_metric-requires : goal.word_metric-requires
word_metric-requires c = word_with c.args.shape (mark_accepted _ _ _ _ c.requires.accepted)

pub overflow_sub-best : goal.overflow_sub-best
overflow_sub-best c =
    let lacking = ap₂ ◌-ℤ◌ (to_z-of_z c.ranges.best) (to_z-of_z {w = w32} (record { sfits = c.word_metric.type_inv }) ∙ c.word_metric.ensures) in
    subst (SFits w32) (sym lacking) (lacks_fits c.args.shape (mark_accepted _ _ _ _ c.requires.accepted) c.requires.greatest)

pub returns : goal.returns
returns c =
    let lacking = ap₂ ◌-ℤ◌ (to_z-of_z c.ranges.best) (to_z-of_z {w = w32} (record { sfits = c.word_metric.type_inv }) ∙ c.word_metric.ensures) in
    c.verdict_on.ensures _ _ _ _
    (record {
      codeword = sym c.is_codeword.ensures ∙ c.if-not-is_codeword.false;
      best = c.args.best;
      greatest = c.requires.greatest;
      lacks =
          to_z-of_z (subst (SFits w32) (sym lacking) (lacks_fits c.args.shape (mark_accepted _ _ _ _ c.requires.accepted) c.requires.greatest))
          ∙ lacking;
    })
