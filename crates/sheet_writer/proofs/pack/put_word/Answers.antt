-- `sheet_writer::pack::put_word`: four stores are a word.
-- Assumes nothing.
use Rattle.sheet_writer.proofs.Packing.{four_stores}
use Rattle.sheet_writer.proofs.pack.put_word.Goals as goal

pub returns : goal.returns
returns c = four_stores c.args.output.now c.args.at c.args.w c.requires
