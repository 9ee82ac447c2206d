-- The word `refused`, then the number.
use Rattle.text.specs.Text.{feed, decimal, refused_line, line, refused_word}
use Rattle.text.specs.Within.{ended}
use Rattle.text.proofs.Writing.{puts_then, room_first, room_after}
use Rattle.text.proofs.Writer.put_refused.Goals as goal

pub put_bytes-requires : goal.put_bytes-requires
unfolding ended refused_line line refused_word
put_bytes-requires c = room_first _ (ended (decimal c.args.refusal) feed) _ c.requires

pub put_number-requires : goal.put_number-requires
unfolding ended refused_line line refused_word
put_number-requires c = room_after _ _ _ _ c.put_bytes.ensures c.requires

pub returns : goal.returns
unfolding ended refused_line line refused_word
returns c = puts_then c.put_bytes.ensures c.put_number.ensures
