-- `code::shape::width_of` meets its contract.
-- Assumes nothing.
use borrow.Author.Tests.{le-leb, lt-leb}
use Rattle.code.specs.Code.{width}
use Rattle.code.proofs.shape.width_of.Statement.{statement}
use Rattle.code.proofs.shape.width_of.Tie as tie

returns : tie.Need-returns-then-code-ge3
unfolding width
returns c = rw (le-leb _ _ c.if-code-ge3.true)

returns-2 : tie.Need-returns-else-code-ge3
unfolding width
returns-2 c = rw (lt-leb _ _ c.if-code-ge3.false)

pub width_of_spec : {M : Type 1} → statement M
width_of_spec = tie.close (tie.spec returns returns-2)
