-- `field::power` meets its contract: the table's rule, and powers come round.
-- Assumes nothing.
use borrow.Author.Rules.{rules}
use Rattle.field.proofs.Tests.{not_three}
use Rattle.field.proofs.Tables.{power_3, power_4}
use Rattle.field.proofs.power.Statement.{statement}
use Rattle.field.proofs.power.Tie as tie

returns-2 : tie.Need-returns
returns-2 c = rw (not_three c.before.args.m c.before.requires c.if-m-eq3.false) (power_4 c.before.args.e)

pub power_spec : {M : Type 1} → statement M
power_spec =
    tie.close (tie.spec (λ c. search rules) (λ c. search rules) (λ c. rw c.if-m-eq3.true (power_3 c.before.args.e)) (λ c. search rules) (λ c. search rules) returns-2)
