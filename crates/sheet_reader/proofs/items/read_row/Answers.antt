-- `sheet_reader::read_row`: three reliabilities more, and one.
-- Assumes nothing.
use Rattle.basics.proofs.Kit.{◌≡◌, refl, ℕ, ◌+◌, ◌*◌, arith}
use Rattle.sheet_reader.proofs.Reading.{row_none, row_more}
use Rattle.sheet_reader.proofs.items.read_row.Goals as goal

pub loop-k-init : goal.loop-k-init
loop-k-init c = row_none refl

pub loop-k-preserved : goal.loop-k-preserved
loop-k-preserved c =
    let k : ℕ = c.loop-k.k in
    let two : 3 * k + 2 ≡ 3 * k + 1 + 1 = omega arith in
    let three : 3 * (k + 1) ≡ 3 * k + 2 + 1 = omega arith in
    let first = row_more (omega arith) c.read_item-s.ensures.taken_says c.read_item-s.ensures.row_after c.loop-k.invariant in
    let second = row_more (omega arith) c.read_item-s-in-loop-k.ensures.taken_says c.read_item-s-in-loop-k.ensures.row_after first in
    rw three (row_more (omega arith) c.read_item-s-in-loop-k-2.ensures.taken_says c.read_item-s-in-loop-k-2.ensures.row_after (rw two second))

pub loop-i-preserved : goal.loop-i-preserved
loop-i-preserved c = row_more (omega arith) c.read_item-s-in-loop-i.ensures.taken_says c.read_item-s-in-loop-i.ensures.row_after c.loop-i.invariant
