use Rattle.text.proofs.Writing.{puts_one}
use Rattle.text.proofs.Writer.put_byte.Goals as goal

pub returns : goal.returns
returns c = puts_one c.args.byte c.args.self.now c.requires
