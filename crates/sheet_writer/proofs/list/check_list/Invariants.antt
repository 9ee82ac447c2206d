-- `sheet_writer::check_list`: what is left of the list is refused as the list is.
-- Assumes nothing.
use Rattle.basics.proofs.Kit.{◌≡◌, drop}
use Rattle.sheet_writer.specs.Calls.{list_refusal}
use Rattle.sheet_writer.proofs.list.check_list.Given as goal

abbrev pub invariant-loop-i : goal.invariant-loop-i
invariant-loop-i l =
    list_refusal l.f l.questions.codes.now l.questions.numbers.now l.questions.rows.now l.questions.words.now
    ≡ list_refusal l.f (drop l.i l.questions.codes.now) (drop l.i l.questions.numbers.now) l.rows l.symbols
