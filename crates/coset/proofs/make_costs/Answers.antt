use Rattle.basics.proofs.Kit.{◌≡◌, suc, ◌+◌, ◌-◌, ◌<◌, arith, length}
use Rattle.coset.proofs.Tables.{zeros_fit, ones_fit, costs_asks, costs_more}
use Rattle.coset.proofs.Fitting.{layers_of}
use Rattle.coset.proofs.make_costs.Goals as goal

pub narrow-requires-clause-small : goal.narrow-requires-clause-small
narrow-requires-clause-small c = zeros_fit (layers_of c.args.layers.fit) (omega arith)

pub narrow-requires-in-loop-i-clause-small : goal.narrow-requires-in-loop-i-clause-small
narrow-requires-in-loop-i-clause-small c = ones_fit (layers_of c.args.layers.fit) (omega arith)

pub free-requires : goal.free-requires
free-requires c =
    let v = c.loop-i.invariant in
    let e : suc (c.loop-i.i - 1) ≡ c.loop-i.i = omega arith in
    let inside : c.loop-i.i - 1 + c.args.layers.q < length c.args.layers.hs.now = omega arith in
    (omega arith, rw (c.narrow.ensures, c.narrow-in-loop-i.ensures) (costs_asks (layers_of c.args.layers.fit) inside (rw e v.behind)))

pub loop-i-preserved : goal.loop-i-preserved
loop-i-preserved c =
    let v = c.loop-i.invariant in
    let e : suc (c.loop-i.i - 1) ≡ c.loop-i.i = omega arith in
    let inside : c.loop-i.i - 1 + c.args.layers.q < length c.args.layers.hs.now = omega arith in
    record { inside = omega arith; behind = costs_more (layers_of c.args.layers.fit) inside (rw e v.behind) (rw (c.narrow.ensures, c.narrow-in-loop-i.ensures) at c.free.ensures) }
