-- Each verdict has its word, and a word that is no codeword a dash.
use Rattle.basics.proofs.Kit.{arith}
use mir.Facts.{to_z-of_z}
use Rattle.text.proofs.Fields.{mark_none, mark_short, mark_best}
use Rattle.text.proofs.Writing.{puts_then, room_first, room_after}
use Rattle.text.proofs.Writer.put_mark.Goals as goal

pub put_bytes-requires : goal.put_bytes-requires
put_bytes-requires c = record { room = omega (arith, (rw (mark_none _ c.if-verdict-eq0.true) at c.requires).room) }

pub put_bytes-requires-then-verdict-eq1 : goal.put_bytes-requires-then-verdict-eq1
put_bytes-requires-then-verdict-eq1 c = room_first _ _ _ (rw (mark_short c.if-verdict-eq1.true (to_z-of_z c.ranges.shortfall)) at c.requires)

pub put_signed-requires : goal.put_signed-requires
put_signed-requires c =
    room_after _ _ _ _ c.put_bytes-then-verdict-eq1.ensures (rw (mark_short c.if-verdict-eq1.true (to_z-of_z c.ranges.shortfall)) at c.requires)

pub put_bytes-requires-else-verdict-eq1 : goal.put_bytes-requires-else-verdict-eq1
put_bytes-requires-else-verdict-eq1 c =
    room_first _ _ _ (rw (mark_best _ c.if-verdict-eq0.false c.if-verdict-eq1.false (to_z-of_z c.ranges.shortfall)) at c.requires)

pub put_signed-requires-else-verdict-eq1 : goal.put_signed-requires-else-verdict-eq1
put_signed-requires-else-verdict-eq1 c =
    room_after _ _ _ _ c.put_bytes-else-verdict-eq1.ensures
    (rw (mark_best _ c.if-verdict-eq0.false c.if-verdict-eq1.false (to_z-of_z c.ranges.shortfall)) at c.requires)

pub returns-then-verdict-eq0 : goal.returns-then-verdict-eq0
returns-then-verdict-eq0 c = rw (mark_none _ c.if-verdict-eq0.true) c.put_bytes.ensures

pub returns-then-verdict-eq1 : goal.returns-then-verdict-eq1
returns-then-verdict-eq1 c =
    rw (mark_short c.if-verdict-eq1.true (to_z-of_z c.ranges.shortfall)) (puts_then c.put_bytes-then-verdict-eq1.ensures c.put_signed.ensures)

pub returns-else-verdict-eq1 : goal.returns-else-verdict-eq1
returns-else-verdict-eq1 c =
    rw (mark_best _ c.if-verdict-eq0.false c.if-verdict-eq1.false (to_z-of_z c.ranges.shortfall))
    (puts_then c.put_bytes-else-verdict-eq1.ensures c.put_signed-else-verdict-eq1.ensures)
