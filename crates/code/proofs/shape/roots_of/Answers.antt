-- `code::shape::roots_of` meets its contract.
-- Assumes nothing.
use Rattle.std.proofs.Common.{arith, refl}
use borrow.Author.Tests.{ne_eqb}
use Rattle.code.specs.Code.{roots}
use Rattle.code.proofs.shape.roots_of.Goals as goal

pub returns-in-2 : goal.returns-in-2
unfolding roots
returns-in-2 c = rw c.in-2.is refl

pub returns-in-4 : goal.returns-in-4
unfolding roots
returns-in-4 c = rw c.in-4.is refl

pub returns-in-5 : goal.returns-in-5
unfolding roots
returns-in-5 c = rw c.in-5.is refl

pub returns-in_default : goal.returns-in_default
unfolding roots
returns-in_default c = rw (ne_eqb c.args.code 2 (omega arith), ne_eqb c.args.code 4 (omega arith), ne_eqb c.args.code 5 (omega arith)) refl
