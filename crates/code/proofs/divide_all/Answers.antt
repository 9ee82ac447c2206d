-- What is left to show of `code::divide_all`.
-- Assumes nothing.
use Rattle.basics.proofs.Kit.{arith}
use Rattle.field.proofs.Field as F
use Rattle.code.proofs.Roots.{dividing_start, dividing_turn}
use Rattle.code.proofs.divide_all.Goals as goal

pub loop-t-init : goal.loop-t-init
loop-t-init c = dividing_start c.args.m c.args.r c.args.part.now c.requires.symbols

pub divide_out-requires : goal.divide_out-requires
divide_out-requires c = record {
  width = c.requires.width;
  point = rw c.power.ensures (F.alpha_lt c.args.m c.requires.width _);
  symbols = c.loop-t.invariant.symbols;
}

pub loop-t-preserved : goal.loop-t-preserved
loop-t-preserved c =
    let s = c.loop-t in
    dividing_turn c.args.m c.args.r c.args.part.now s.part c.divide_out.new.part s.t c.power.result c.requires.width
    (omega arith) s.invariant c.power.ensures c.divide_out.auto.part c.divide_out.ensures
