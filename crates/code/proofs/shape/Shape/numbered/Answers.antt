-- `code::Shape::numbered`: m and r of any number may be chosen.
-- Assumes nothing.
use Rattle.code.proofs.Accepted.{number_accepted}
use Rattle.code.proofs.shape.Shape.numbered.Goals as goal

pub new-requires : goal.new-requires
new-requires c = rw (c.width_of.ensures, c.roots_of.ensures) (number_accepted c.args.code)
