-- `sheet_writer::pack::unsigned`: the base is added and taken off again.
-- Assumes nothing.
use Rattle.sheet_writer.proofs.Packing.{sum_cast, sum_value}
use Rattle.sheet_writer.proofs.pack.unsigned.Goals as goal

pub overflow_cast-result-3 : goal.overflow_cast-result-3
overflow_cast-result-3 c = sum_cast c.args.base c.requires.small c.requires.some c.args.r c.ranges.r c.requires.reliable

pub returns : goal.returns
returns c = sum_value c.args.base c.requires.small c.requires.some c.args.r c.ranges.r c.requires.reliable
