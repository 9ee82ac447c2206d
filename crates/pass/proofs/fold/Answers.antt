use Rattle.basics.proofs.Kit.{◌≡◌, arith}
use Rattle.pass.proofs.Rows.{lowest_put}
use Rattle.pass.proofs.Folding.{fold_start, fold_more}
use Rattle.pass.proofs.fold.Goals as goal

pub loop-s-init : goal.loop-s-init
loop-s-init c = fold_start c.args.half c.args.cap c.args.a.now

pub loop-s-preserved : goal.loop-s-preserved
loop-s-preserved c =
    let e = c.fold_rows-r.ensures in
    fold_more c.requires.fold c.loop-s.invariant c.loop-s-test.true e.a_after e.zero_value e.one_value

pub returns-clause-zeros_after : goal.returns-clause-zeros_after
returns-clause-zeros_after c =
    let e : c.loop-s.s ≡ c.args.half = omega arith in
    lowest_put (rw e at c.loop-s.invariant.with_0) _ _ c.store_least.ensures

pub returns-clause-ones_after : goal.returns-clause-ones_after
returns-clause-ones_after c =
    let e : c.loop-s.s ≡ c.args.half = omega arith in
    lowest_put (rw e at c.loop-s.invariant.with_1) _ _ c.store_least-2.ensures
