-- What the loop of `code::value` keeps.
-- Assumes nothing.
use Rattle.code.proofs.Loops.{Valued}
use Rattle.code.proofs.value.Given as goal

abbrev pub invariant-loop-i : goal.invariant-loop-i
invariant-loop-i l = Valued l.tables.m l.t l.word l.v l.i
