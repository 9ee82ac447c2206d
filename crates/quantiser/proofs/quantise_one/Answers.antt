-- The product is rounded as 32 times the sample is (proofs/Scaled.antt).
use mathlib.Core.Path.{◌∙◌}
use lib.Ieee.{of_bits}
use mir.Facts.{to_z-of_z}
use mir.Syntax.{w16}
use Rattle.field.proofs.Tests.{to_T}
use Rattle.quantiser.proofs.Scaled.{scales}
use Rattle.quantiser.proofs.quantise_one.Goals as goal

pub round_clipped-requires : goal.round_clipped-requires
unfolding of_bits
round_clipped-requires c = (scales c.args.x (to_T c.well_formed.0.1) c.requires).0

pub returns : goal.returns
unfolding of_bits
returns c =
    to_z-of_z {w = w16} (record { sfits = c.round_clipped.type_inv }) ∙ c.round_clipped.ensures ∙ (scales c.args.x (to_T c.well_formed.0.1) c.requires).1
