-- `sheet_reader::read_symbols`: so many symbols are read, and the reader of items stands before the next.
-- Assumes nothing.
use Rattle.basics.proofs.Kit.{length, drop}
use Rattle.sheet.specs.Sheet.{symbols, as_words}
use Rattle.sheet_reader.specs.Within.{items_from}
use Rattle.sheet_reader.proofs.Reading.{Filled, Reading}
use Rattle.sheet_reader.proofs.items.read_symbols.Given as goal

abbrev pub invariant-loop-place : goal.invariant-loop-place
invariant-loop-place l = record {
  word : Filled (items_from symbols (length l.initial.word) (drop l.at (as_words l.sheet))) l.word l.place-index;
  items : Reading symbols (as_words l.sheet) l.at (length l.initial.word) l.place-index l.s;
}
