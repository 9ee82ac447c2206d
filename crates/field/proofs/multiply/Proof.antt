-- `field::multiply` meets its contract: exponents add.
-- Assumes nothing.
use Rattle.basics.proofs.Kit.{sym, ◌∙◌, arith, rules}
use Rattle.field.proofs.Field as F
use Rattle.field.proofs.Tables.{size, product_log}
use Rattle.field.proofs.multiply.Statement.{statement}
use Rattle.field.proofs.multiply.Tie as tie

returns : tie.Need-returns-then-a-eq0
returns c = let s = c.before in
    rw c.if-a-eq0.true (sym (F.times_zero_l s.args.m s.requires.width s.args.b s.requires.second))

returns-2 : tie.Need-returns-then-b-eq0
returns-2 c = let s = c.before.before in
    rw c.if-b-eq0.true (sym (F.times_zero_r s.args.m s.requires.width s.args.a s.requires.first))

add-power : tie.Need-overflow_add-log
add-power c = let s = c.before.before.before.before in
    omega (arith, size s.args.m s.requires.width, c.before.log.ensures.small, c.log-2.ensures.small)

returns-3 : tie.Need-returns
returns-3 c = let s = c.before.before.before.before.before in
    c.power.ensures ∙ product_log s.args.m s.requires.width s.args.a s.args.b _ _ c.before.before.log.ensures c.before.log-2.ensures

pub multiply_spec : {M : Type 1} → statement M
multiply_spec =
    tie.close
    (tie.spec returns returns-2 (λ c κs. search rules) (λ c κs. search rules) add-power (λ c κs. search rules) returns-3)
