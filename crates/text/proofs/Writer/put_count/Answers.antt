use Rattle.text.specs.Text.{count_line, line, question_word}
use Rattle.text.proofs.Writing.{puts_then, room_first, room_after}
use Rattle.text.proofs.Writer.put_count.Goals as goal

pub put_decimal-requires : goal.put_decimal-requires
unfolding count_line line question_word
put_decimal-requires c = room_first _ _ _ c.requires

pub put_bytes-requires : goal.put_bytes-requires
unfolding count_line line question_word
put_bytes-requires c = room_after _ _ _ _ c.put_decimal.ensures c.requires

pub returns : goal.returns
unfolding count_line line question_word
returns c = puts_then c.put_decimal.ensures c.put_bytes.ensures
