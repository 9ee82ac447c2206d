-- `sheet_writer::write_list`: so many questions were written, and these rows and symbols are left.
-- Assumes nothing.
use Rattle.sheet_writer.proofs.Writing.{LentBegun}
use Rattle.sheet_writer.proofs.write_list.Given as goal

abbrev pub invariant-loop-i : goal.invariant-loop-i
invariant-loop-i l =
    LentBegun l.f l.questions.codes.now l.questions.numbers.now l.questions.rows.now l.questions.words.now l.initial.output l.i l.rows l.symbols l.at l.output
