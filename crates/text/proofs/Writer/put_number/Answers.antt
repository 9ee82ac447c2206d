use Rattle.text.specs.Within.{ended}
use Rattle.text.proofs.Writing.{puts_then, room_first, room_after}
use Rattle.text.proofs.Writer.put_number.Goals as goal

pub put_decimal-requires : goal.put_decimal-requires
unfolding ended
put_decimal-requires c = room_first _ _ _ c.requires

pub put_byte-requires : goal.put_byte-requires
unfolding ended
put_byte-requires c = room_after _ _ _ _ c.put_decimal.ensures c.requires

pub returns : goal.returns
unfolding ended
returns c = puts_then c.put_decimal.ensures c.put_byte.ensures
