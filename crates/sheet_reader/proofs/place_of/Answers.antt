-- `sheet_reader::place_of`: one head is passed.
-- Assumes nothing.
use Rattle.basics.proofs.Kit.{◌≡◌, refl, sym, ap, ◌∙◌, ℕ, ◌+◌, ◌-◌, arith, get_or}
use Rattle.code.specs.Code.{width}
use Rattle.sheet.specs.Sheet.{as_words, kind, head_kind, head_code, question_long}
use Rattle.sheet.proofs.Forms.{question_long_le, at_most}
use Rattle.sheet_reader.specs.Within.{behind}
use Rattle.sheet_reader.proofs.Says.{inside}
use Rattle.sheet_reader.proofs.Choice.{skip_none, skip_end, skip_more}
use Rattle.sheet_reader.proofs.place_of.Goals as goal

pub returns-then-kind_of-ne-HEAD : goal.returns-then-kind_of-ne-HEAD
unfolding head_kind
returns-then-kind_of-ne-HEAD c =
    sym (c.loop.invariant ∙ skip_end _ _ c.loop.at (c.args.index - c.loop.counter) (λ e. c.if-kind_of-ne-HEAD.true (c.kind_of.ensures ∙ ap kind c.word_at-w.ensures ∙ e)))

pub overflow_add-at : goal.overflow_add-at
overflow_add-at c = record { fits = omega (arith, at_most c.question_words_of.ensures (question_long_le c.args.f c.head_code_of.result)) }

head : {k v w : ℕ} → k ≡ 1 → k ≡ kind v → v ≡ w → kind w ≡ head_kind
unfolding head_kind
head a b e = sym (ap kind e) ∙ (sym b ∙ a)

pub overflow_add-at-in-loop : goal.overflow_add-at-in-loop
overflow_add-at-in-loop c =
    record {
      fits =
          omega (
            arith,
            inside c.args.sheet.now c.loop.at (head c.if-kind_of-ne-HEAD.false c.kind_of.ensures c.word_at-w.ensures),
            at_most c.question_words_of.ensures (question_long_le c.args.f c.head_code_of.result),
          );
    }

pub loop-preserved : goal.loop-preserved
unfolding behind
loop-preserved c =
    let w = c.word_at-w.ensures in
    let long : c.question_words_of.result ≡ question_long c.args.f (width (head_code (get_or (as_words c.args.sheet.now) c.loop.at 0))) =
    c.question_words_of.ensures ∙ ap (λ (x : ℕ). question_long c.args.f (width x)) (c.head_code_of.ensures ∙ ap (λ (x : ℕ). head_code x) w) in
    let e : c.args.index - (c.loop.counter + 1) ≡ c.args.index - c.loop.counter - 1 = omega arith in
    c.loop.invariant
    ∙ skip_more c.args.f (as_words c.args.sheet.now) c.loop.at (c.args.index - c.loop.counter) (omega arith) (head c.if-kind_of-ne-HEAD.false c.kind_of.ensures w)
    ∙ rw (e, long) refl

pub returns : goal.returns
returns c = sym (c.loop.invariant ∙ skip_none _ _ c.loop.at (c.args.index - c.loop.counter) (omega arith))
