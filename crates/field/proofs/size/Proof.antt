-- `field::size` meets its contract.
-- Assumes nothing.
use Rattle.field.proofs.Tests.{not_three}
use Rattle.field.proofs.size.Statement.{statement}
use Rattle.field.proofs.size.Tie as tie

returns-2 : tie.Need-returns-else-m-eq3
returns-2 c = rw (not_three c.before.args.m c.before.requires c.if-m-eq3.false)

pub size_spec : {M : Type 1} → statement M
size_spec = tie.close (tie.spec (λ c. rw c.if-m-eq3.true) returns-2)
