-- `sheet::judged_words`: the word at a place is an end, or the head of a question.
-- Assumes nothing.
use Rattle.basics.proofs.Kit.{◌≡◌, refl, sym, ap, ◌∙◌, ℕ, ◌+◌, ◌-◌, ◌≤◌, arith, length, get_or}
use lib.ListN.{drop_of_length-le}
use borrow.Author.Tests.{ltb-true, ltb-false}
use Rattle.refusal.proofs.Results.{taken}
use Rattle.code.specs.Code.{width}
use Rattle.sheet.specs.Sheet.{as_words, kind, head_code, end_kind, most, question_long, end_refusal}
use Rattle.sheet.specs.Calls.{judgement, judged_of}
use Rattle.sheet.proofs.Forms.{question_long_le}
use Rattle.sheet.proofs.Bytes.{as_words_length}
use Rattle.sheet.proofs.Checks.{failed, held, judged_stops}
use Rattle.sheet.proofs.Turns.{judgement_some, judged_none, turn_end, turn_refused, turn_more}
use Rattle.sheet.proofs.judging.judged_words.Goals as goal

pub loop-seen-init : goal.loop-seen-init
unfolding most
loop-seen-init c = record { few = omega arith; left = refl }

pub returns-in_err-ensure : goal.returns-in_err-ensure
returns-in_err-ensure c =
    let ws = as_words c.args.sheet.now in
    let t = failed _ _ c.ensure.result c.ensure.ensures _ c.from_residual.result c.in_err-ensure.was c.from_residual.ensures.1 in
    let l : length ws ≤ c.loop-seen.at = omega (arith, as_words_length c.args.sheet.now, ltb-false _ _ t.0) in
    ap judged_of t.1 ∙ sym (c.loop-seen.invariant.left ∙ rw (drop_of_length-le ws l) (judged_none c.args.f (200 - c.loop-seen.seen)))

-- an end after so many questions
end_here : (seen w after : ℕ) → seen ≤ 200 → judgement (end_refusal (most - (200 - seen)) w after) (most - (200 - seen)) ≡ judgement (end_refusal seen w after) seen
unfolding most
end_here seen w after h = let e : 200 - (200 - seen) ≡ seen = omega arith in rw e refl

pub returns-in_err-check_end : goal.returns-in_err-check_end
unfolding end_kind
returns-in_err-check_end c =
    let h = ltb-true _ _ (held _ _ c.ensure.result c.ensure.ensures _ c.in_ok-ensure.was) in
    let w = c.word_at-w.ensures in
    let s = judged_stops c.check_end.result _ c.check_end.ensures _ c.from_residual-in_err-check_end.result c.in_err-check_end.was c.from_residual-in_err-check_end.ensures.1 in
    let k = sym (ap kind w) ∙ (sym c.kind_of.ensures ∙ c.if-kind_of-eq-END.true) in
    let t = turn_end c.args.f c.args.sheet.now (200 - c.loop-seen.seen) c.loop-seen.at h k ∙ end_here c.loop-seen.seen _ _ c.loop-seen.invariant.few in
    s.0 ∙ sym (c.loop-seen.invariant.left ∙ t ∙ rw (← w) (judgement_some _ c.loop-seen.seen s.1))

pub returns-then-kind_of-eq-END : goal.returns-then-kind_of-eq-END
unfolding end_kind judgement
returns-then-kind_of-eq-END c =
    let h = ltb-true _ _ (held _ _ c.ensure.result c.ensure.ensures _ c.in_ok-ensure.was) in
    let w = c.word_at-w.ensures in
    let z = taken c.check_end.result _ c.check_end.ensures _ c.in_ok-check_end.was in
    let k = sym (ap kind w) ∙ (sym c.kind_of.ensures ∙ c.if-kind_of-eq-END.true) in
    let t = turn_end c.args.f c.args.sheet.now (200 - c.loop-seen.seen) c.loop-seen.at h k ∙ end_here c.loop-seen.seen _ _ c.loop-seen.invariant.few in
    sym (c.loop-seen.invariant.left ∙ t ∙ rw (← w) (rw z refl))

pub returns-in_err-check_head : goal.returns-in_err-check_head
unfolding end_kind
returns-in_err-check_head c =
    let h = ltb-true _ _ (held _ _ c.ensure.result c.ensure.ensures _ c.in_ok-ensure.was) in
    let w = c.word_at-w.ensures in
    let says = rw w at c.check_head.ensures in
    let s = judged_stops c.check_head.result _ says _ c.from_residual-in_err-check_head.result c.in_err-check_head.was c.from_residual-in_err-check_head.ensures.1 in
    s.0 ∙ sym (c.loop-seen.invariant.left
    ∙ turn_refused c.args.f c.args.sheet.now (200 - c.loop-seen.seen) c.loop-seen.at h (λ e. c.if-kind_of-eq-END.false (c.kind_of.ensures ∙ ap kind w ∙ e)) s.1)

few : {n : ℕ} (f : ℕ) → n ≡ f → f ≤ 75 → n ≤ 75
few f e h = rw e h

pub overflow_add-at-in-loop-seen-2 : goal.overflow_add-at-in-loop-seen-2
overflow_add-at-in-loop-seen-2 c = record { fits = omega (arith, few _ c.question_words_of.ensures (question_long_le c.args.f _)) }

pub overflow_add-at-in-loop-seen-3 : goal.overflow_add-at-in-loop-seen-3
overflow_add-at-in-loop-seen-3 c =
    let h = ltb-true _ _ (held _ _ c.ensure.result c.ensure.ensures _ c.in_ok-ensure.was) in
    record { fits = omega (arith, h, few _ c.question_words_of.ensures (question_long_le c.args.f _)) }

pub loop-seen-preserved : goal.loop-seen-preserved
unfolding end_kind most
loop-seen-preserved c =
    let h = ltb-true _ _ (held _ _ c.ensure.result c.ensure.ensures _ c.in_ok-ensure.was) in
    let w = c.word_at-w.ensures in
    let says = rw w at c.check_head.ensures in
    let i = c.loop-seen.invariant in
    let t = turn_more c.args.f c.args.sheet.now (200 - c.loop-seen.seen) c.loop-seen.at h (λ e. c.if-kind_of-eq-END.false (c.kind_of.ensures ∙ ap kind w ∙ e))
    (taken c.check_head.result _ says _ c.in_ok-check_head.was) (omega arith) in
    let long : c.question_words_of.result ≡ question_long c.args.f (width (head_code (get_or (as_words c.args.sheet.now) c.loop-seen.at 0))) =
    c.question_words_of.ensures ∙ ap (λ (x : ℕ). question_long c.args.f (width x)) (c.head_code_of.ensures ∙ ap (λ (x : ℕ). head_code x) w) in
    let e : 200 - (c.loop-seen.seen + 1) ≡ 200 - c.loop-seen.seen - 1 = omega arith in
    record {
      few = omega (arith, t.0);
      left = i.left ∙ t.1 ∙ rw (e, long) refl;
    }
