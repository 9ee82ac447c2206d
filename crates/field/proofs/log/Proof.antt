-- `field::log` meets its contract: the table's rule.
-- Assumes nothing.
use Rattle.basics.proofs.Kit.{◌≡◌, ◌<◌, arith}
use Rattle.field.proofs.Tests.{not_three}
use Rattle.field.proofs.Tables.{exponent_3, exponent_4}
use Rattle.field.proofs.log.Statement.{statement}
use Rattle.field.proofs.log.Tie as tie

inside_3 : (c : tie.Then-m-eq3) → c.before.args.a < 8
inside_3 c = rw c.if-m-eq3.true at c.before.requires.inside

four : (c : tie.Else-m-eq3) → c.before.args.m ≡ 4
four c = not_three c.before.args.m c.before.requires.width c.if-m-eq3.false

inside_4 : (c : tie.Else-m-eq3) → c.before.args.a < 16
inside_4 c = rw (four c) at c.before.requires.inside

cast-result : tie.Need-overflow_cast-result
cast-result c = let b = c.before.before in omega (arith, (exponent_3 b.before.args.a b.before.requires.positive (inside_3 b)).small)

returns : tie.Need-returns-then-m-eq3
returns c = let b = c.before.before in rw b.if-m-eq3.true (exponent_3 b.before.args.a b.before.requires.positive (inside_3 b))

cast-result-2 : tie.Need-overflow_cast-result-2
cast-result-2 c = let b = c.before.before in omega (arith, (exponent_4 b.before.args.a b.before.requires.positive (inside_4 b)).small)

returns-2 : tie.Need-returns
returns-2 c = let b = c.before.before in rw (four b) (exponent_4 b.before.args.a b.before.requires.positive (inside_4 b))

pub log_spec : {M : Type 1} → statement M
log_spec =
    tie.close
    (tie.spec (λ c. inside_3 c.before) cast-result returns (λ c. inside_4 c.before) cast-result-2 returns-2)
