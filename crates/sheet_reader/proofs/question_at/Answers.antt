-- `sheet_reader::question_at`: the question in the form of reliabilities.
-- Assumes nothing.
use Rattle.sheet.proofs.Forms.{rows_here}
use Rattle.sheet_reader.proofs.question_at.Goals as goal

pub returns : goal.returns
returns c = rw (rows_here _) at c.question_in.ensures
