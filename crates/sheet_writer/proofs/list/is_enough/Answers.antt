-- `sheet_writer::is_enough`: for the last question, and for another.
-- Assumes nothing.
use Rattle.basics.proofs.Kit.{sym}
use Rattle.sheet_writer.proofs.Lists.{fits_last, fits_more}
use Rattle.sheet_writer.proofs.list.is_enough.Goals as goal

pub returns-then-after-eq0 : goal.returns-then-after-eq0
returns-then-after-eq0 c = sym (fits_last c.args.after c.args.left c.args.needed c.if-after-eq0.true)

pub returns-else-after-eq0 : goal.returns-else-after-eq0
returns-else-after-eq0 c = sym (fits_more c.args.after c.args.left c.args.needed c.if-after-eq0.false)
