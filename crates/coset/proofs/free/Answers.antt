use Rattle.basics.proofs.Kit.{sym, ◌∙◌, arith}
use Rattle.rows.proofs.Rows.{numbers_long}
use Rattle.coset.proofs.Pairs.{run_asks, blocks_more, freed_all}
use Rattle.coset.proofs.free.Goals as goal

pub run-requires : goal.run-requires
run-requires g c = (omega (arith, c.well_formed), run_asks c.requires c.top_of-step.ensures c.loop-base.invariant c.loop-base-test.true)

pub loop-base-preserved : goal.loop-base-preserved
loop-base-preserved g c =
    let each = g.met.C.Cost.one_by_one in
    let long = numbers_long each c.run.new.t ∙ c.run.auto.t ∙ sym (numbers_long each c.loop-base.t) in
    blocks_more c.requires c.top_of-step.ensures c.loop-base.invariant c.loop-base-test.true long c.run.ensures

pub returns : goal.returns
returns g c = freed_all c.loop-base.invariant (omega arith)

pub returns-2 : goal.returns-2
returns-2 g c =
    let each = g.met.C.Cost.one_by_one in
    let long = numbers_long each c.run.new.t ∙ c.run.auto.t ∙ sym (numbers_long each c.loop-base.t) in
    freed_all (blocks_more c.requires c.top_of-step.ensures c.loop-base.invariant c.loop-base-test.true long c.run.ensures) (omega arith)
