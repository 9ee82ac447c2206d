-- `sheet_writer::pack::put_end`: the word of an end.
-- Assumes nothing.
use Rattle.sheet.specs.Sheet.{worded, end_kind}
use Rattle.sheet_writer.proofs.pack.put_end.Goals as goal

pub returns : goal.returns
unfolding worded end_kind
returns c = c.put_word.ensures
