-- `sheet_reader::read_symbols`: one symbol more.
-- Assumes nothing.
use Rattle.basics.proofs.Kit.{sym, ◌<◌, arith, length}
use Rattle.sheet.specs.Sheet.{symbols}
use Rattle.sheet.proofs.Forms.{symbols_here}
use Rattle.sheet_reader.proofs.Reading.{items_from_length, reading_first, reading_more, item_is, filled_none, filled_more}
use Rattle.sheet_reader.proofs.items.read_symbols.Goals as goal

pub loop-place-init : goal.loop-place-init
loop-place-init c = record { word = filled_none (sym (items_from_length symbols _ _)); items = reading_first }

pub loop-place-preserved : goal.loop-place-preserved
loop-place-preserved c =
    let l = c.loop-place in
    let t = rw (symbols_here _) at c.taken-s.ensures in
    let h : l.place-index < length c.args.word.now = omega arith in
    record {
      word = filled_more 0 _ (omega (arith, l.invariant.word.same)) (item_is h t l.invariant.items) l.invariant.word;
      items = reading_more h t l.invariant.items;
    }
