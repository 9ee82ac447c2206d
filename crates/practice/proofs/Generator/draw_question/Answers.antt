-- `practice::Generator::draw_question`: the row is drawn into the start of an array.
-- Assumes nothing.
use Rattle.basics.proofs.Kit.{◌≡◌, sym, ap, ◌∙◌, ℕ, ◌+◌, ◌*◌, ◌≤◌, arith, length}
use Rattle.std.proofs.Common.{replicate, length-take-le}
use Rattle.code.specs.Code.{width}
use Rattle.sheet.specs.Sheet.{Question, reliabilities, question_long, question_words, question_good}
use Rattle.sheet.proofs.Forms.{rows_here, bits_le, n_le}
use Rattle.sheet.proofs.Longest.{question_length}
use Rattle.sheet_writer.specs.Within.{begun}
use Rattle.sheet_writer.proofs.Lists.{row_of_code}
use Rattle.practice.specs.Practice.{after}
use Rattle.practice.proofs.Questions.{drawn_good, part, room, lent}
use Rattle.practice.proofs.Generator.draw_question.Goals as goal

pub slice_bounds-row-end : goal.slice_bounds-row-end
slice_bounds-row-end c = bits_le c.numbered-shape.result

pub slice_bounds-draw_row-end : goal.slice_bounds-draw_row-end
slice_bounds-draw_row-end c = sym (part c.args.code c.numbered-shape.result c.numbered-shape.ensures.m c.args.self.now.state)

pub slice_bounds-row-end-2 : goal.slice_bounds-row-end-2
slice_bounds-row-end-2 c = room c.args.code c.numbered-shape.result c.numbered-shape.ensures.m c.args.self.now.state c.draw_row.ensures.drawn

pub slice_bounds-write_question-end : goal.slice_bounds-write_question-end
slice_bounds-write_question-end c =
    sym (length-take-le _ _ (room c.args.code c.numbered-shape.result c.numbered-shape.ensures.m c.args.self.now.state c.draw_row.ensures.drawn))

pub slice_bounds-word-end : goal.slice_bounds-word-end
slice_bounds-word-end c = n_le c.numbered-shape.result

pub slice_bounds-write_question-end-2 : goal.slice_bounds-write_question-end-2
slice_bounds-write_question-end-2 c = sym (length-take-le _ (replicate 15 0) (n_le c.numbered-shape.result))

pub write_question-requires-clause-good : goal.write_question-requires-clause-good
write_question-requires-clause-good c =
    let e = lent c.args.code c.numbered-shape.result c.numbered-shape.ensures.m c.args.self.now.state c.draw_row.ensures.drawn c.args.number in
    rw (rows_here _) (ap (question_good reliabilities) e ∙ drawn_good _ _ _ c.requires.known c.requires.small)

room_for : (q p : Question) {n : ℕ} → p ≡ q → 4 * (1 + question_long reliabilities (width q.code)) ≤ n → 4 * length (question_words reliabilities p) ≤ n
room_for q p e h = rw e (omega (arith, question_length reliabilities q))

pub write_question-requires-clause-room : goal.write_question-requires-clause-room
write_question-requires-clause-room c =
    let e = lent c.args.code c.numbered-shape.result c.numbered-shape.ensures.m c.args.self.now.state c.draw_row.ensures.drawn c.args.number in
    rw (rows_here _) (room_for _ _ e c.requires.room)

pub returns-clause-state : goal.returns-clause-state
returns-clause-state c =
    let s = c.args.self.now.state in
    c.draw_row.ensures.state
    ∙ ap (λ (n : ℕ). after n s) (part c.args.code c.numbered-shape.result c.numbered-shape.ensures.m s ∙ row_of_code c.args.code c.numbered-shape.result c.numbered-shape.ensures.m)

pub returns-clause-drawn : goal.returns-clause-drawn
returns-clause-drawn c =
    let e = lent c.args.code c.numbered-shape.result c.numbered-shape.ensures.m c.args.self.now.state c.draw_row.ensures.drawn c.args.number in
    rw (rows_here _) at c.write_question.ensures ∙ ap (λ (q : Question). begun (question_words reliabilities q) c.args.output.now) e
