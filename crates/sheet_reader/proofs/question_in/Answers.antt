-- `sheet_reader::question_in`: a question that was found stands inside the sheet.
-- Assumes nothing.
use Rattle.basics.proofs.Kit.{sym, ap, ◌∙◌, ℕ, ◌+◌, arith, get_or}
use Rattle.std.specs.Prelude.{Ok}
use Rattle.refusal.proofs.Results.{handed_on}
use Rattle.code.proofs.Accepted.{width_fine}
use Rattle.sheet.specs.Sheet.{as_words, head_code}
use Rattle.sheet.proofs.Forms.{row_long_le, long_le, question_long_le, at_most, next_in}
use Rattle.sheet_reader.specs.Within.{behind}
use Rattle.sheet_reader.proofs.Says.{standing, inside, says_found, says_none, says_refused}
use Rattle.sheet_reader.proofs.question_in.Goals as goal

pub returns-in_err-answer : goal.returns-in_err-answer
returns-in_err-answer c =
    rw (handed_on c.from_residual.result _ c.from_residual.ensures.1) (says_refused c.args.f c.args.sheet.now c.args.at.now c.args.row.now c.args.word.now _ c.in_err-answer.ensures)

pub overflow_add-at : goal.overflow_add-at
overflow_add-at c =
    let t = standing _ _ _ _ _ (sym (ap Ok (sym c.in-Some.is) ∙ c.in_ok-answer.ensures)) in
    record { fits = omega (arith, inside c.args.sheet.now c.args.at.now t.head) }

pub read_parts-requires-clause-inside : goal.read_parts-requires-clause-inside
read_parts-requires-clause-inside c =
    let t = standing _ _ _ _ _ (sym (ap Ok (sym c.in-Some.is) ∙ c.in_ok-answer.ensures)) in
    next_in (inside c.args.sheet.now c.args.at.now t.head)

pub read_parts-requires-clause-row_short : goal.read_parts-requires-clause-row_short
read_parts-requires-clause-row_short c =
    let t = standing _ _ _ _ _ (sym (ap Ok (sym c.in-Some.is) ∙ c.in_ok-answer.ensures)) in
    at_most t.row_long_is (row_long_le _ (width_fine (head_code (get_or (as_words c.args.sheet.now) c.args.at.now 0))))

pub read_parts-requires-clause-word_short : goal.read_parts-requires-clause-word_short
read_parts-requires-clause-word_short c =
    let t = standing _ _ _ _ _ (sym (ap Ok (sym c.in-Some.is) ∙ c.in_ok-answer.ensures)) in
    at_most t.long_is (long_le _ (width_fine (head_code (get_or (as_words c.args.sheet.now) c.args.at.now 0))))

pub overflow_add-at-in-Some : goal.overflow_add-at-in-Some
overflow_add-at-in-Some c = record { fits = omega (arith, at_most c.question_words_of.ensures (question_long_le c.args.f _)) }

pub overflow_add-at-in-Some-2 : goal.overflow_add-at-in-Some-2
overflow_add-at-in-Some-2 c =
    let t = standing _ _ _ _ _ (sym (ap Ok (sym c.in-Some.is) ∙ c.in_ok-answer.ensures)) in
    record {
      fits =
          omega (arith, inside c.args.sheet.now c.args.at.now t.head, at_most c.question_words_of.ensures (question_long_le c.args.f c.in-Some.question.code));
    }

pub returns-in-Some : goal.returns-in-Some
unfolding behind
returns-in-Some c =
    says_found _ _ _ _ _ _ _ c.in-Some.question _ (ap Ok (sym c.in-Some.is) ∙ c.in_ok-answer.ensures)
    (ap (λ (n : ℕ). c.args.at.now + (1 + n)) c.question_words_of.ensures) c.read_parts.ensures

pub returns-in_default : goal.returns-in_default
returns-in_default c =
    rw c.in_default.is (says_none c.args.f c.args.sheet.now c.args.at.now c.args.row.now c.args.word.now (ap Ok (sym c.in_default.is) ∙ c.in_ok-answer.ensures))
