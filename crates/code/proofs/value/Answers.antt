-- What is left to show of `code::value`.
-- Assumes nothing.
use Rattle.basics.proofs.Kit.{◌-◌, arith}
use Rattle.code.specs.Code.{long}
use Rattle.code.proofs.Loops.{value_start, value_inside, value_turn, value_end}
use Rattle.code.proofs.value.Goals as goal

pub loop-i-init : goal.loop-i-init
loop-i-init c = value_start c.args.tables.m c.args.t c.args.word.now

pub times_power-requires : goal.times_power-requires
unfolding long
times_power-requires c = (value_inside c.requires c.loop-i.invariant, c.requires.few)

pub loop-i-preserved : goal.loop-i-preserved
loop-i-preserved c = rw (c.add-v.ensures, c.times_power.ensures) (value_turn c.requires c.loop-i.invariant (c.loop-i.i - 1) (omega arith))

pub returns : goal.returns
returns c = value_end c.requires c.loop-i.invariant (omega arith)
