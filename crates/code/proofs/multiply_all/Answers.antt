-- What is left to show of `code::multiply_all`.
-- Assumes nothing.
use Rattle.basics.proofs.Kit.{◌≡◌, ap, ◌∙◌, ◌+◌, ◌-◌, arith}
use Rattle.field.specs.Field.{alpha}
use Rattle.field.proofs.Field as F
use Rattle.code.proofs.Roots.{multiplying_end, multiplying_turn}
use Rattle.code.proofs.multiply_all.Goals as goal

pub multiply_at-requires : goal.multiply_at-requires
multiply_at-requires c =
    let s = c.loop-t in
    let e : s.t ≡ s.t - 1 + 1 = omega arith in
    record {
      width = c.requires.width;
      point = rw c.power.ensures (F.alpha_lt c.args.m c.requires.width _);
      room = omega (arith, c.requires.room, s.invariant.long);
      symbols = rw e at s.invariant.symbols;
    }

pub loop-t-preserved : goal.loop-t-preserved
loop-t-preserved c =
    let s = c.loop-t in
    multiplying_turn c.args.m c.args.r c.args.out.now s.out c.multiply_at.new.out s.t (s.t - 1) c.power.result
    c.requires.width (omega arith) c.requires.room s.invariant (let e : s.t - 1 + 1 ≡ s.t = omega arith in c.power.ensures ∙ ap (alpha c.args.m) e) c.multiply_at.auto.out c.multiply_at.ensures

pub returns : goal.returns
returns c = let s = c.loop-t in multiplying_end c.args.m c.args.r c.args.out.now s.out s.t (omega arith) s.invariant
