-- `field::invert` meets its contract: the rest of a turn away from its exponent.
-- Assumes nothing.
use Rattle.basics.proofs.Kit.{sym, ◌∙◌, rules}
use Rattle.field.proofs.Field as F
use Rattle.field.proofs.Tables.{inverse_log}
use Rattle.field.proofs.invert.Statement.{statement}
use Rattle.field.proofs.invert.Tie as tie

returns-2 : tie.Need-returns
returns-2 c = let b = c.before.before.before.before in let s = c.before.before.size.ensures in
    c.power.ensures
    ∙ rw s (inverse_log b.args.m b.requires.width b.args.a c.before.log.result c.before.log.ensures)

pub invert_spec : {M : Type 1} → statement M
invert_spec =
    tie.close
    (tie.spec
    (λ c. let s = c.before in rw c.if-a-eq0.true (sym (F.inverse_zero s.args.m s.requires.width)))
    (λ c κs. search rules)
    (λ c. search rules)
    (λ c. search rules)
    (λ c κs. search rules)
    (λ c. search rules)
    (λ c κs. search rules)
    returns-2)
