-- A line is written part by part.
use mir.Facts.{to_z-of_z}
use Rattle.text.proofs.Writing.{puts_then, room_first, room_after}
use Rattle.text.proofs.Lines.{question_parts}
use Rattle.text.proofs.Writer.put_question.Goals as goal

pub put_number-requires : goal.put_number-requires
put_number-requires c = room_first _ _ _ (rw question_parts at c.requires)

pub put_number-requires-2 : goal.put_number-requires-2
put_number-requires-2 c = room_first _ _ _ (room_after _ _ _ _ c.put_number.ensures (rw question_parts at c.requires))

pub put_signed-requires : goal.put_signed-requires
put_signed-requires c = rw (to_z-of_z c.ranges.best) (room_first _ _ _ (room_after _ _ _ _ c.put_number-2.ensures (room_after _ _ _ _ c.put_number.ensures (rw question_parts at c.requires))))

pub put_mark-requires : goal.put_mark-requires
put_mark-requires c = rw (to_z-of_z c.ranges.shortfall) (room_first _ _ _ (room_after _ _ _ _ (rw (to_z-of_z c.ranges.best) at c.put_signed.ensures) (room_after _ _ _ _ c.put_number-2.ensures (room_after _ _ _ _ c.put_number.ensures (rw question_parts at c.requires)))))

pub put_bits-requires : goal.put_bits-requires
put_bits-requires c = room_first _ _ _ (room_after _ _ _ _ (rw (to_z-of_z c.ranges.shortfall) at c.put_mark.ensures) (room_after _ _ _ _ (rw (to_z-of_z c.ranges.best) at c.put_signed.ensures) (room_after _ _ _ _ c.put_number-2.ensures (room_after _ _ _ _ c.put_number.ensures (rw question_parts at c.requires)))))

pub put_byte-requires : goal.put_byte-requires
put_byte-requires c = room_first _ _ _ (room_after _ _ _ _ c.put_bits.ensures (room_after _ _ _ _ (rw (to_z-of_z c.ranges.shortfall) at c.put_mark.ensures) (room_after _ _ _ _ (rw (to_z-of_z c.ranges.best) at c.put_signed.ensures) (room_after _ _ _ _ c.put_number-2.ensures (room_after _ _ _ _ c.put_number.ensures (rw question_parts at c.requires))))))

pub put_number-requires-3 : goal.put_number-requires-3
put_number-requires-3 c = rw (c.from.ensures, c.least_of-least.ensures) (room_after _ _ _ _ c.put_byte.ensures (room_after _ _ _ _ c.put_bits.ensures (room_after _ _ _ _ (rw (to_z-of_z c.ranges.shortfall) at c.put_mark.ensures) (room_after _ _ _ _ (rw (to_z-of_z c.ranges.best) at c.put_signed.ensures) (room_after _ _ _ _ c.put_number-2.ensures (room_after _ _ _ _ c.put_number.ensures (rw question_parts at c.requires)))))))

pub returns : goal.returns
returns c = rw question_parts (puts_then c.put_number.ensures (puts_then c.put_number-2.ensures (puts_then (rw (to_z-of_z c.ranges.best) at c.put_signed.ensures) (puts_then (rw (to_z-of_z c.ranges.shortfall) at c.put_mark.ensures) (puts_then c.put_bits.ensures (puts_then c.put_byte.ensures (rw (c.from.ensures, c.least_of-least.ensures) at c.put_number-3.ensures)))))))
