-- `code::shape::row_long_of` meets its contract.
-- Assumes nothing.
use Rattle.field.proofs.Tests.{not_three}
use Rattle.code.specs.Code.{long}
use Rattle.code.specs.Bits.{row_long}
use Rattle.code.proofs.shape.row_long_of.Statement.{statement}
use Rattle.code.proofs.shape.row_long_of.Tie as tie

returns : tie.Need-returns-then-m-eq3
unfolding long row_long
returns c = rw c.if-m-eq3.true

returns-2 : tie.Need-returns-else-m-eq3
unfolding long row_long
returns-2 c = rw (not_three c.before.args.m c.before.requires c.if-m-eq3.false)

pub row_long_of_spec : {M : Type 1} → statement M
row_long_of_spec = tie.close (tie.spec returns returns-2)
