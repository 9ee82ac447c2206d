use Rattle.field.specs.Field.{xor}
use Rattle.pass.proofs.Rows.{lowest_put}
use Rattle.pass.proofs.Advancing.{advance_asks, advance_more, advance_end, end_0, end_1}
use Rattle.pass.proofs.advance.Goals as goal

pub advance_rows-r-requires : goal.advance_rows-r-requires
unfolding xor
advance_rows-r-requires c = let t = c.top_of-top.ensures in advance_asks c.requires.advance t (c.loop-s.invariant t) c.loop-s-test.true

pub loop-s-preserved : goal.loop-s-preserved
unfolding xor
loop-s-preserved c t = advance_more c.requires.advance t (c.loop-s.invariant t) c.loop-s-test.true c.advance_rows-r.ensures

pub returns-clause-freed : goal.returns-clause-freed
returns-clause-freed c = advance_end (c.loop-s.invariant c.top_of-top.ensures) c.loop-s-test.false

pub returns-clause-zeros_after : goal.returns-clause-zeros_after
returns-clause-zeros_after c = lowest_put (end_0 (c.loop-s.invariant c.top_of-top.ensures) c.loop-s-test.false) _ _ c.store_least.ensures

pub returns-clause-ones_after : goal.returns-clause-ones_after
returns-clause-ones_after c = lowest_put (end_1 (c.loop-s.invariant c.top_of-top.ensures) c.loop-s-test.false) _ _ c.store_least-2.ensures
