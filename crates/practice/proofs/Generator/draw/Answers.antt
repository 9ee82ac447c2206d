-- `practice::Generator::draw`: a remainder by 255 less 127 fits.
-- Assumes nothing.
use Rattle.basics.proofs.Kit.{◌≡◌, ℕ, ◌%◌, ◌<◌, arith, pos, ◌-ℤ◌}
use Rattle.std.proofs.Common.{to_z-of_z, w16, to_z, of_z}
use mir.Facts.{to_z_pos}
use Rattle.practice.specs.Practice.{advanced, draw, reliability}
use Rattle.practice.proofs.Draws.{less_fits}
use Rattle.practice.proofs.Generator.draw.Goals as goal

value : {d : ℕ} → d < 1000 → to_z w16 (of_z w16 (to_z w16 d -ℤ pos 127)) ≡ pos d -ℤ pos 127
value {d} h = let plain : to_z w16 d ≡ pos d = to_z_pos w16 {n = d} (omega arith) in rw plain (to_z-of_z (less_fits d h))

pub returns-clause-drawn : goal.returns-clause-drawn
unfolding reliability draw advanced
returns-clause-drawn c = value {d = draw (advanced c.args.self.now.state) % 255} (omega arith)
