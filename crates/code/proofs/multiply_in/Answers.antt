-- What is left to show of `code::multiply_in`.
-- Assumes nothing.
use Rattle.basics.proofs.Kit.{refl, ap, ◌∙◌, ◌-◌, arith, get_or}
use Rattle.field.specs.Field.{xor}
use Rattle.code.proofs.Sweeps.{spread_start, spread_turn, spread_inside}
use Rattle.code.proofs.multiply_in.Goals as goal

pub loop-i-init : goal.loop-i-init
loop-i-init c = spread_start c.args.m c.args.x c.args.part.now

pub multiply-requires : goal.multiply-requires
multiply-requires c =
    let s = c.loop-i in
    record {
      width = c.requires.width;
      first = c.requires.point;
      second = spread_inside c.args.m c.requires.width c.args.x c.requires.point c.args.part.now s.part s.next s.i c.requires.symbols s.invariant;
    }

pub loop-i-preserved : goal.loop-i-preserved
loop-i-preserved c =
    let s = c.loop-i in
    let d = get_or s.part (s.i - 1) 0 in
    spread_turn c.args.m c.requires.width c.args.x c.requires.point c.args.part.now s.part s.next s.i (s.i - 1) c.add.result d (omega arith)
    s.invariant refl (c.add.ensures ∙ ap (xor d) c.multiply.ensures)
