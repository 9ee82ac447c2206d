use Rattle.basics.proofs.Kit.{arith}
use Rattle.coset.proofs.Tables.{tails_asks, tails_keys, make_start, make_next}
use Rattle.coset.proofs.Fitting.{layers_of}
use Rattle.coset.proofs.make.Goals as goal

pub key_tails-requires : goal.key_tails-requires
key_tails-requires c = tails_asks (layers_of c.args.layers.fit) c.tail.ensures c.requires.length_t

pub loop-i-init : goal.loop-i-init
loop-i-init c = make_start (layers_of c.args.layers.fit) (tails_keys (layers_of c.args.layers.fit) c.tail.ensures c.key_tails.ensures)

pub loop-i-preserved : goal.loop-i-preserved
loop-i-preserved c = make_next (layers_of c.args.layers.fit) c.loop-i.invariant (omega arith) c.free_at.ensures c.keep.ensures
