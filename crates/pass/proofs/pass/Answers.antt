use Rattle.pass.proofs.Passing.{narrow_asks, heads_start, head_in, head_asks, heads_more, add_asks, tails_more}
use native.Mathlib.Numerals.{add-one}
use Rattle.pass.proofs.pass.Goals as goal

pub loop-i-init : goal.loop-i-init
loop-i-init c = heads_start c.args.layers.fit c.requires

pub narrow-z-requires-clause-small : goal.narrow-z-requires-clause-small
narrow-z-requires-clause-small c =
    let y = c.args.layers.fit in
    (narrow_asks c.args.layers.fit c.requires c.args.layers.zs.now y.length_zs c.requires.cost_zs (head_in c.args.layers.fit c.requires c.loop-i.invariant c.loop-i-test.true)).1

pub narrow-o-requires-clause-small : goal.narrow-o-requires-clause-small
narrow-o-requires-clause-small c =
    let y = c.args.layers.fit in
    (narrow_asks c.args.layers.fit c.requires c.args.layers.os.now y.length_os c.requires.cost_os (head_in c.args.layers.fit c.requires c.loop-i.invariant c.loop-i-test.true)).1

pub advance-requires-clause-advance : goal.advance-requires-clause-advance
advance-requires-clause-advance c =
    let costs = rw (add-one c.loop-i.i) at c.behind.ensures in
    rw (c.narrow-z.ensures, c.narrow-o.ensures) (head_asks c.args.layers.fit c.requires c.loop-i.invariant c.loop-i-test.true costs)

pub loop-i-preserved : goal.loop-i-preserved
loop-i-preserved c =
    let costs = rw (add-one c.loop-i.i) at c.behind.ensures in
    let e = rw (c.narrow-z.ensures, c.narrow-o.ensures) at c.advance.ensures in
    heads_more c.args.layers.fit c.requires c.loop-i.invariant c.loop-i-test.true costs e.freed e.zeros_after e.ones_after

pub add-requires : goal.add-requires
add-requires c = add_asks c.args.layers.fit c.requires c.loop-i.invariant c.loop-i-test.false

pub loop-k-preserved : goal.loop-k-preserved
loop-k-preserved c =
    let e = c.fold.ensures in
    tails_more c.args.layers.fit c.requires c.loop-k.invariant c.loop-k-test.true e.made e.zeros_after e.ones_after
