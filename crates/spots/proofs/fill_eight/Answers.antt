-- Sixteen stores, one after the other.
-- Assumes nothing.
use Rattle.spots.specs.Filling.{eight_twice}
use Rattle.spots.proofs.Short.{all_stored}
use Rattle.spots.proofs.fill_eight.Goals as goal

pub returns : goal.returns
unfolding eight_twice
returns c = all_stored (eight_twice c.args.a c.args.b c.args.c c.args.x0) c.args.part.now c.requires
