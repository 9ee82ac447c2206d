use Rattle.basics.proofs.Kit.{◌∙◌, arith}
use Rattle.coset.proofs.Tables.{some_column, tail_start, zeros_fit, ones_fit, li, double_asks, tail_next}
use Rattle.coset.proofs.Fitting.{layers_of}
use Rattle.coset.proofs.tail.Goals as goal

pub narrow-requires-clause-small : goal.narrow-requires-clause-small
narrow-requires-clause-small c = let a = (layers_of c.args.layers.fit) in zeros_fit a (omega (arith, some_column a))

pub narrow-requires-2-clause-small : goal.narrow-requires-2-clause-small
narrow-requires-2-clause-small c = let a = (layers_of c.args.layers.fit) in ones_fit a (omega (arith, some_column a))

pub loop-i-init : goal.loop-i-init
loop-i-init c =
    tail_start (layers_of c.args.layers.fit) c.args.g.now c.requires (c.store-2.ensures ∙ rw (c.store.ensures, c.narrow.ensures, c.narrow-2.ensures))

pub narrow-z-requires-clause-small : goal.narrow-z-requires-clause-small
narrow-z-requires-clause-small c = let a = (layers_of c.args.layers.fit) in zeros_fit a (li a c.loop-i.invariant (omega arith))

pub narrow-o-requires-clause-small : goal.narrow-o-requires-clause-small
narrow-o-requires-clause-small c = let a = (layers_of c.args.layers.fit) in ones_fit a (li a c.loop-i.invariant (omega arith))

pub double-requires : goal.double-requires
double-requires c = rw (c.narrow-z.ensures, c.narrow-o.ensures) (double_asks (layers_of c.args.layers.fit) c.loop-i.invariant (omega arith))

pub loop-i-preserved : goal.loop-i-preserved
loop-i-preserved c = tail_next (layers_of c.args.layers.fit) c.loop-i.invariant (omega arith) (rw (c.narrow-z.ensures, c.narrow-o.ensures) at c.double.ensures)
