-- `sheet_reader::read_row`: so many reliabilities are read, and the reader of items stands before the next.
-- Assumes nothing.
use Rattle.basics.proofs.Kit.{◌*◌, length}
use Rattle.sheet.specs.Sheet.{as_words}
use Rattle.sheet_reader.proofs.Reading.{Rowed}
use Rattle.sheet_reader.proofs.items.read_row.Given as goal

abbrev pub invariant-loop-k : goal.invariant-loop-k
invariant-loop-k l = Rowed l.f (as_words l.sheet) l.at (length l.initial.row) l.row (3 * l.k) l.s

abbrev pub invariant-loop-i : goal.invariant-loop-i
invariant-loop-i l = Rowed l.f (as_words l.sheet) l.at (length l.initial.row) l.row l.i l.s
