-- `field::add` meets its contract.
-- Assumes nothing.
use mathlib.Core.Path.{refl}
use Rattle.field.specs.Field.{xor}
use Rattle.field.proofs.add.Statement.{statement}
use Rattle.field.proofs.add.Tie as tie

returns : tie.Need-returns
unfolding xor
returns c = refl

pub add_spec : {M : Type 1} → statement M
add_spec = tie.close (tie.spec returns)
