use Rattle.basics.proofs.Kit.{arith}
use Rattle.coset.proofs.Tables.{zeros_key, ones_key, free_asks, free_keys}
use Rattle.coset.proofs.Fitting.{layers_of}
use Rattle.coset.proofs.free_at.Goals as goal

pub key_row-z-requires : goal.key_row-z-requires
key_row-z-requires c = rw c.load.ensures (zeros_key (layers_of c.args.layers.fit) c.requires)

pub key_row-o-requires : goal.key_row-o-requires
key_row-o-requires c = rw c.load-2.ensures (ones_key (layers_of c.args.layers.fit) c.requires)

pub free-requires : goal.free-requires
free-requires c = (omega arith, rw (c.key_row-z.ensures, c.key_row-o.ensures, c.load.ensures, c.load-2.ensures) (free_asks (layers_of c.args.layers.fit) c.requires))

pub returns : goal.returns
returns c =
    free_keys (layers_of c.args.layers.fit) c.requires (rw (c.key_row-z.ensures, c.key_row-o.ensures, c.load.ensures, c.load-2.ensures) at c.free.ensures)
