-- `field::FieldTables::times_power`: exponents add, and come round.
-- Assumes nothing.
use Rattle.basics.proofs.Kit.{sym, arith}
use Rattle.field.specs.Field.{alpha}
use Rattle.field.proofs.Field as F
use Rattle.field.proofs.Tables.{short_of_turn, past_turn}
use Rattle.field.proofs.lookup.FieldTables.times_power.Goals as goal

pub returns-then-a-eq0 : goal.returns-then-a-eq0
returns-then-a-eq0 c =
    let s = c.args.self in
    let w = s.right.width in
    rw c.if-a-eq0.true (sym (F.times_zero_l s.m w (alpha s.m c.args.t) (F.alpha_lt s.m w c.args.t)))

pub returns-then-e-self : goal.returns-then-e-self
returns-then-e-self c = short_of_turn c.args.self.right c.args.a c.args.t (omega arith) c.requires c.if-e-self.true

pub returns : goal.returns
returns c = past_turn c.args.self.right c.args.a c.args.t (omega arith) c.requires c.if-e-self.false
