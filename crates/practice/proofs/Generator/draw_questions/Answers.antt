-- `practice::Generator::draw_questions`: the next question is drawn behind the questions so far.
-- Assumes nothing.
use Rattle.basics.proofs.Kit.{◌≡◌, refl, sym, ap, ◌∙◌, ℕ, ◌+◌, ◌-◌, ◌*◌, ◌≤◌, arith, length, drop}
use Rattle.std.proofs.Common.{le_trans, le-add_right, suc-mul, zero-mul, add-one, length-drop, drop-drop}
use native.Mathlib.Nat.{sub-zero}
use Rattle.code.specs.Code.{width}
use Rattle.code.specs.Bits.{row_long}
use Rattle.sheet.specs.Sheet.{Question, reliabilities, question_words}
use Rattle.sheet.proofs.Forms.{rows_here, question_long_le}
use Rattle.sheet.proofs.Longest.{question_length}
use Rattle.sheet_writer.specs.Within.{begun}
use Rattle.sheet_writer.proofs.Lists.{rest_is}
use Rattle.sheet_writer.proofs.Writing.{part_is, begin, fits_in, one_more, end_fits, done}
use Rattle.practice.specs.Practice.{after, question_drawn, drawn_from, drawn, state_after}
use Rattle.practice.proofs.Draws.{after_sum}
use Rattle.practice.proofs.Questions.{next_drawn, drawn_length}
use Rattle.practice.proofs.Generator.draw_questions.Goals as goal

pub overflow_add-size : goal.overflow_add-size
overflow_add-size c = record { fits = omega (arith, (rw (rows_here _) at c.question_words_of.ensures), question_long_le reliabilities c.args.code) }

pub overflow_mul-size : goal.overflow_mul-size
overflow_mul-size c = record { fits = omega (arith, (rw (rows_here _) at c.question_words_of.ensures), question_long_le reliabilities c.args.code) }

pub loop-i-init : goal.loop-i-init
unfolding drawn after
loop-i-init c = record { state = rw (zero-mul (row_long (width c.args.code))) refl; left = rw (sub-zero c.args.count) refl; written = begin c.requires.room }

pub slice_bounds-draw_question-count : goal.slice_bounds-draw_question-count
slice_bounds-draw_question-count c =
    let i = c.loop-i.invariant in le_trans (le-add_right _ _) (fits_in i.written (i.left ∙ next_drawn c.args.code c.args.count c.loop-i.i c.loop-i.self.state c.loop-i-test.true))

pub slice_bounds-draw_question-start : goal.slice_bounds-draw_question-start
slice_bounds-draw_question-start c =
    let i = c.loop-i.invariant in le_trans (le-add_right _ _) (fits_in i.written (i.left ∙ next_drawn c.args.code c.args.count c.loop-i.i c.loop-i.self.state c.loop-i-test.true))

pub draw_question-requires-clause-room : goal.draw_question-requires-clause-room
draw_question-requires-clause-room c =
    let i = c.loop-i.invariant in
    let room = fits_in i.written (i.left ∙ next_drawn c.args.code c.args.count c.loop-i.i c.loop-i.self.state c.loop-i-test.true) in
    rw (rest_is c.loop-i.output c.loop-i.at)
    (omega (arith, room, length-drop c.loop-i.at c.loop-i.output, question_length reliabilities (question_drawn (c.loop-i.i + 1) c.args.code c.loop-i.self.state)))

pub overflow_add-at : goal.overflow_add-at
overflow_add-at c =
    let i = c.loop-i.invariant in
    let room = fits_in i.written (i.left ∙ next_drawn c.args.code c.args.count c.loop-i.i c.loop-i.self.state c.loop-i-test.true) in
    record {
      fits = omega (arith, room, (rw (rows_here _) at c.question_words_of.ensures), question_length reliabilities (question_drawn (c.loop-i.i + 1) c.args.code c.loop-i.self.state));
    }

pub loop-i-preserved : goal.loop-i-preserved
loop-i-preserved c =
    let l : ℕ = row_long (width c.args.code) in
    let s = c.args.self.now.state in
    let j = c.loop-i.i in
    let i = c.loop-i.invariant in
    let split = i.left ∙ next_drawn c.args.code c.args.count j c.loop-i.self.state c.loop-i-test.true in
    let q : Question = question_drawn (j + 1) c.args.code c.loop-i.self.state in
    let more : (j + 1) * l ≡ j * l + l = rw (add-one j) (suc-mul j l) in
    let words : 4 * (1 + c.question_words_of.result) ≡ 4 * length (question_words reliabilities q) = omega (arith, (rw (rows_here _) at c.question_words_of.ensures), question_length reliabilities q) in
    record {
      state = c.draw_question.ensures.state ∙ ap (after l) i.state ∙ after_sum (j * l) l s ∙ ap (λ (n : ℕ). after n s) (sym more);
      left =
          sym (drop-drop 1 j (drawn c.args.code c.args.count s)) ∙ ap (drop 1) split
          ∙ ap (drawn_from (j + 1 + 1) c.args.code (c.args.count - (j + 1))) (sym c.draw_question.ensures.state);
      written =
          one_more i.written split (ap (◌+◌ c.loop-i.at) words)
          (part_is c.loop-i.output c.loop-i.at (c.draw_question.ensures.drawn ∙ ap (begun (question_words reliabilities q)) (rest_is c.loop-i.output c.loop-i.at)));
    }

-- all are written
all_in : (c n s i : ℕ) → n ≤ i → length (drawn c n s) ≤ i
unfolding drawn
all_in c n s i h = omega (arith, drawn_length c n 1 s)

count_is : (c n s : ℕ) → n ≡ length (drawn c n s)
unfolding drawn
count_is c n s = sym (drawn_length c n 1 s)

pub put_end-requires-clause-room : goal.put_end-requires-clause-room
put_end-requires-clause-room c = end_fits c.loop-i.invariant.written (all_in c.args.code c.args.count c.args.self.now.state c.loop-i.i c.loop-i-test.false)

pub returns-clause-state : goal.returns-clause-state
unfolding state_after
returns-clause-state c =
    let i : c.loop-i.i ≡ c.args.count = omega arith in
    c.loop-i.invariant.state ∙ ap (λ (n : ℕ). after (n * row_long (width c.args.code)) c.args.self.now.state) i

pub returns-clause-drawn : goal.returns-clause-drawn
returns-clause-drawn c =
    let s = c.args.self.now.state in
    c.put_end.ensures ∙ done c.loop-i.invariant.written (all_in c.args.code c.args.count s c.loop-i.i c.loop-i-test.false) (count_is c.args.code c.args.count s)
