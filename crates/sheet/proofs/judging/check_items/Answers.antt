-- `sheet::check_items`: the next word, then the rest.
-- Assumes nothing.
use Rattle.basics.proofs.Kit.{◌≡◌, sym, ap, ◌∙◌, ℕ, ◌+◌, ◌-◌, arith, length, ◌≤◌}
use borrow.Author.Tests.{ltb-true, ltb-false}
use Rattle.refusal.specs.Refusal.{number, number_of}
use Rattle.sheet.specs.Sheet.{as_words, word_refusal}
use Rattle.sheet.specs.Within.{outside}
use Rattle.sheet.proofs.Bytes.{as_words_length}
use Rattle.sheet.proofs.Checks.{stopped, passed_on, failed, held}
use Rattle.sheet.proofs.Forms.{count_le}
use Rattle.sheet.proofs.Turns.{items_none, items_out, items_step}
use Rattle.sheet.proofs.judging.check_items.Goals as goal

pub overflow_add-i-end : goal.overflow_add-i-end
overflow_add-i-end c = record { fits = omega (arith, c.count_of.ensures, count_le c.args.f c.args.n) }

pub returns-in_err-ensure : goal.returns-in_err-ensure
returns-in_err-ensure c =
    let ws = as_words c.args.sheet.now in
    let t = failed _ _ c.ensure.result c.ensure.ensures _ c.from_residual.result c.in_err-ensure.was c.from_residual.ensures.1 in
    let l : length ws ≤ c.loop-i.i = omega (arith, as_words_length c.args.sheet.now, ltb-false _ _ t.0) in
    ap number_of t.1 ∙ sym (c.loop-i.invariant ∙ items_out c.args.f _ _ ws c.loop-i.left c.loop-i.i _ (omega arith) l)

pub returns-in_err-check_word : goal.returns-in_err-check_word
returns-in_err-check_word c =
    let ws = as_words c.args.sheet.now in
    let t = held _ _ c.ensure.result c.ensure.ensures _ c.in_ok-ensure.was in
    let s = items_step c.args.f (number c.args.bad) (outside c.args.low c.args.high) ws c.loop-i.left c.loop-i.i (c.args.at + c.count_of.result - c.loop-i.i) (omega arith)
    (omega (arith, as_words_length c.args.sheet.now, ltb-true _ _ t)) in
    stopped c.check_word.result _ _ (c.check_word.ensures ∙ ap (word_refusal c.args.f (number c.args.bad) (outside c.args.low c.args.high) c.loop-i.left) c.word_at.ensures) _ _
    c.in_err-check_word.was c.from_residual-in_err-check_word.ensures.1
    ∙ sym (c.loop-i.invariant ∙ s)

pub loop-i-preserved : goal.loop-i-preserved
loop-i-preserved c =
    let ws = as_words c.args.sheet.now in
    let t = held _ _ c.ensure.result c.ensure.ensures _ c.in_ok-ensure.was in
    let end : ℕ = c.args.at + c.count_of.result in
    let s = items_step c.args.f (number c.args.bad) (outside c.args.low c.args.high) ws c.loop-i.left c.loop-i.i (end - c.loop-i.i) (omega arith)
    (omega (arith, as_words_length c.args.sheet.now, ltb-true _ _ t)) in
    let e : end - (c.loop-i.i + 1) ≡ end - c.loop-i.i - 1 = omega arith in
    rw (e, c.saturating_sub-left.ensures)
    (c.loop-i.invariant ∙ s
    ∙ sym (passed_on c.check_word.result _ _ (c.check_word.ensures ∙ ap (word_refusal c.args.f (number c.args.bad) (outside c.args.low c.args.high) c.loop-i.left) c.word_at.ensures) _ c.in_ok-check_word.was))

pub returns : goal.returns
returns c = sym (c.loop-i.invariant ∙ items_none c.args.f _ _ (as_words c.args.sheet.now) c.loop-i.left c.loop-i.i _ (omega arith))
