-- What is left to show of `code::divide_out`.
-- Assumes nothing.
use Rattle.basics.proofs.Kit.{ap, ◌∙◌, ◌-◌, arith, get_or}
use Rattle.field.specs.Field.{xor}
use Rattle.code.proofs.Sweeps.{divide_start, divide_turn, divide_inside}
use Rattle.code.proofs.divide_out.Goals as goal

pub loop-i-init : goal.loop-i-init
loop-i-init c = divide_start c.args.m c.args.x c.args.part.now

pub multiply-requires : goal.multiply-requires
multiply-requires c =
    let s = c.loop-i in
    record {
      width = c.requires.width;
      first = c.requires.point;
      second = divide_inside c.args.m c.requires.width c.args.x c.requires.point c.args.part.now s.part s.v s.i c.requires.symbols s.invariant;
    }

pub loop-i-preserved : goal.loop-i-preserved
loop-i-preserved c =
    let s = c.loop-i in
    divide_turn c.args.m c.args.x c.args.part.now s.part s.v s.i (s.i - 1) c.add-v.result (omega arith) s.invariant
    (c.add-v.ensures ∙ ap (xor (get_or s.part (s.i - 1) 0)) c.multiply.ensures)
