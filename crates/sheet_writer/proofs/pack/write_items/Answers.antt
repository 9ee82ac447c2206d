-- `sheet_writer::pack::write_items`: a full word more, and one with what is left.
-- Assumes nothing.
use Rattle.basics.proofs.Kit.{◌≡◌, ◌-◌, ◌<◌, arith, length, take, drop}
use lib.ListN.{length-take, length-drop}
use Rattle.sheet_writer.proofs.Words.{word_fits, items_next, items_done}
use Rattle.sheet_writer.proofs.pack.write_items.Goals as goal

pub put_word-requires : goal.put_word-requires
put_word-requires g c =
    word_fits (c.loop-from.invariant.1 _ c.requires.items.1 c.requires.items.2) c.args.f.fine.holds (omega (arith, c.args.f.fine.holds, c.loop-from-test.true))

pub loop-from-preserved : goal.loop-from-preserved
loop-from-preserved g c =
    let h : c.loop-from.from < c.args.n = omega (arith, c.args.f.fine.holds, c.loop-from-test.true) in (
      omega (arith, h, c.loop-from-test.true),
      λ ds p e.
          let l : length (take c.args.f.each (drop c.loop-from.from ds)) ≡ c.args.f.each = omega (arith, length-take c.args.f.each (drop c.loop-from.from ds), length-drop c.loop-from.from ds, e, c.loop-from-test.true) in
          items_next (c.loop-from.invariant.1 ds p e) c.args.f.fine.holds h (c.items_word.ensures ds p l) c.put_word.auto.output c.put_word.ensures,
    )

pub put_word-requires-then-from-n : goal.put_word-requires-then-from-n
put_word-requires-then-from-n g c =
    word_fits (c.loop-from.invariant.1 _ c.requires.items.1 c.requires.items.2) c.args.f.fine.holds c.if-from-n.true

pub returns-then-from-n : goal.returns-then-from-n
returns-then-from-n g c = λ ds p e.
    let l : length (take c.args.f.each (drop c.loop-from.from ds)) ≡ c.args.n - c.loop-from.from = omega (arith, length-take c.args.f.each (drop c.loop-from.from ds), length-drop c.loop-from.from ds, e, c.loop-from-test.false) in
    let m = items_next (c.loop-from.invariant.1 ds p e) c.args.f.fine.holds c.if-from-n.true (c.items_word-then-from-n.ensures ds p l) c.put_word-then-from-n.auto.output c.put_word-then-from-n.ensures in
    items_done m c.args.f.fine.holds (omega (arith, c.loop-from-test.false))

pub returns-else-from-n : goal.returns-else-from-n
returns-else-from-n g c = λ ds p e. items_done (c.loop-from.invariant.1 ds p e) c.args.f.fine.holds c.if-from-n.false
