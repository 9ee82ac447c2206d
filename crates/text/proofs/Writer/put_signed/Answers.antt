-- The sign, then the digits of the size.
use Rattle.basics.proofs.Kit.{refl}
use mir.Facts.{to_z-of_z}
use Rattle.text.proofs.Fields.{signed_parts}
use Rattle.text.proofs.Writing.{puts_then, room_first, room_after}
use Rattle.text.proofs.Writer.put_signed.Goals as goal

pub put_sign-requires : goal.put_sign-requires
put_sign-requires c = room_first _ _ _ (rw (signed_parts (to_z-of_z c.ranges.z) refl) at c.requires)

pub put_number-requires : goal.put_number-requires
put_number-requires c = room_after _ _ _ _ c.put_sign.ensures (rw (signed_parts (to_z-of_z c.ranges.z) c.unsigned_abs.ensures.value) at c.requires)

pub returns : goal.returns
returns c = rw (signed_parts (to_z-of_z c.ranges.z) c.unsigned_abs.ensures.value) (puts_then c.put_sign.ensures c.put_number.ensures)
