use Rattle.basics.proofs.Kit.{refl}
use Rattle.text.proofs.Writing.{stored}
use Rattle.text.proofs.Writer.put_bytes.Goals as goal

pub returns : goal.returns
returns c = record { same_reference = refl; written = stored c.args.self.now.at c.args.text.now _ c.args.self.now.out.now c.requires.room c.copy_from_slice.ensures.after }
