use Rattle.basics.proofs.Kit.{arith}
use Rattle.field.specs.Field.{xor}
use Rattle.coset.proofs.Pairs.{pair_asks, run_more}
use Rattle.coset.proofs.run.Goals as goal

pub pair-requires : goal.pair-requires
unfolding xor
pair-requires g c = (omega (arith, c.well_formed), pair_asks c.requires c.loop-s.invariant c.loop-s-test.true)

pub loop-s-preserved : goal.loop-s-preserved
unfolding xor
loop-s-preserved g c = run_more c.requires c.loop-s.invariant c.loop-s-test.true c.pair.ensures
