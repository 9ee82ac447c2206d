-- `sheet_writer::write_list`: the next question is written behind the questions so far.
-- Assumes nothing.
use Rattle.basics.proofs.Kit.{◌≡◌, sym, ap, ap₂, ◌∙◌, ℕ, ◌+◌, ◌*◌, arith, length, get_or}
use native.Mathlib.Nat.{le_trans, le-add_right}
use Rattle.sheet.specs.Sheet.{question_words, question_good}
use Rattle.sheet.proofs.Forms.{question_long_le, at_most}
use Rattle.sheet.proofs.Longest.{question_length}
use Rattle.sheet_writer.specs.Within.{begun}
use Rattle.sheet_writer.proofs.Lists.{row_of_code, word_of_code, rest_is}
use Rattle.sheet_writer.proofs.Writing.{lent_is, part_room, part_is, fits_in, end_fits, done, lent_begin, next, next_good, rows_left, words_left, split, more, count}
use Rattle.sheet_writer.proofs.write_list.Goals as goal

pub loop-i-init : goal.loop-i-init
loop-i-init c = lent_begin c.requires

pub split_at-requires : goal.split_at-requires
split_at-requires c = rw (row_of_code _ c.numbered-shape.result c.numbered-shape.ensures.m) (rows_left c.loop-i.invariant c.loop-i-test.true)

pub split_at-requires-in-loop-i : goal.split_at-requires-in-loop-i
split_at-requires-in-loop-i c = rw (word_of_code _ c.numbered-shape.result c.numbered-shape.ensures.m) (words_left c.loop-i.invariant c.loop-i-test.true)

pub slice_bounds-write_question-count : goal.slice_bounds-write_question-count
slice_bounds-write_question-count c = le_trans (le-add_right _ _) (fits_in c.loop-i.invariant.written (split c.loop-i.invariant c.loop-i-test.true))

pub slice_bounds-write_question-start : goal.slice_bounds-write_question-start
slice_bounds-write_question-start c = le_trans (le-add_right _ _) (fits_in c.loop-i.invariant.written (split c.loop-i.invariant c.loop-i-test.true))

pub write_question-requires-clause-good : goal.write_question-requires-clause-good
write_question-requires-clause-good c =
    let m = c.numbered-shape.ensures.m in
    let s = c.numbered-shape.result in
    let e = lent_is (get_or c.args.questions.codes.now c.loop-i.i 0) (get_or c.args.questions.numbers.now c.loop-i.i 0) c.loop-i.rows.now c.loop-i.symbols.now
    c.split_at.ensures.front (row_of_code _ s m) c.split_at-in-loop-i.ensures.front (word_of_code _ s m) in
    ap (question_good c.args.f) e ∙ next_good c.loop-i.invariant c.loop-i-test.true

pub write_question-requires-clause-room : goal.write_question-requires-clause-room
write_question-requires-clause-room c =
    let m = c.numbered-shape.ensures.m in
    let s = c.numbered-shape.result in
    let e = lent_is (get_or c.args.questions.codes.now c.loop-i.i 0) (get_or c.args.questions.numbers.now c.loop-i.i 0) c.loop-i.rows.now c.loop-i.symbols.now
    c.split_at.ensures.front (row_of_code _ s m) c.split_at-in-loop-i.ensures.front (word_of_code _ s m) in
    part_room c.args.f c.loop-i.output c.loop-i.at e (fits_in c.loop-i.invariant.written (split c.loop-i.invariant c.loop-i-test.true))

pub overflow_add-at : goal.overflow_add-at
overflow_add-at c = record { fits = omega (arith, at_most c.question_words_of.ensures (question_long_le c.args.f _)) }

pub overflow_mul-at : goal.overflow_mul-at
overflow_mul-at c = record { fits = omega (arith, at_most c.question_words_of.ensures (question_long_le c.args.f _)) }

pub overflow_add-at-in-loop-i : goal.overflow_add-at-in-loop-i
overflow_add-at-in-loop-i c =
    let i = c.loop-i.invariant in
    record { fits = omega (arith, fits_in i.written (split i c.loop-i-test.true), question_length c.args.f (next i), c.question_words_of.ensures) }

pub loop-i-preserved : goal.loop-i-preserved
loop-i-preserved c =
    let m = c.numbered-shape.ensures.m in
    let s = c.numbered-shape.result in
    let e = lent_is (get_or c.args.questions.codes.now c.loop-i.i 0) (get_or c.args.questions.numbers.now c.loop-i.i 0) c.loop-i.rows.now c.loop-i.symbols.now
    c.split_at.ensures.front (row_of_code _ s m) c.split_at-in-loop-i.ensures.front (word_of_code _ s m) in
    let i = c.loop-i.invariant in
    let long : 1 + c.question_words_of.result ≡ length (question_words c.args.f (next i)) = omega (arith, question_length c.args.f (next i), c.question_words_of.ensures) in
    rw (c.split_at.ensures.back, c.split_at-in-loop-i.ensures.back, row_of_code _ s m, word_of_code _ s m)
    (more i c.loop-i-test.true (ap (λ (x : ℕ). c.loop-i.at + 4 * x) long)
    (part_is c.loop-i.output c.loop-i.at (c.write_question.ensures ∙ ap₂ begun (ap (question_words c.args.f) e) (rest_is c.loop-i.output c.loop-i.at))))

pub put_end-requires-clause-room : goal.put_end-requires-clause-room
put_end-requires-clause-room c = let b = c.loop-i.invariant in end_fits b.written (at_most (sym (count b)) c.loop-i-test.false)

pub returns : goal.returns
returns c = let b = c.loop-i.invariant in c.put_end.ensures ∙ done b.written (at_most (sym (count b)) c.loop-i-test.false) (count b)
