-- `sheet_reader::signed`: up, round and down again.
-- Assumes nothing.
use Rattle.sheet_reader.proofs.Twos.{wrapped_is}
use Rattle.sheet_reader.proofs.items.signed.Goals as goal

pub returns : goal.returns
returns c = wrapped_is c.args.base c.args.d c.requires.small c.requires.digit
