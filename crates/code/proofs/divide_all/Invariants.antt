-- What the loop of `code::divide_all` keeps.
-- Assumes nothing.
use Rattle.code.proofs.Roots.{Dividing}
use Rattle.code.proofs.divide_all.Given as goal

abbrev pub invariant-loop-t : goal.invariant-loop-t
invariant-loop-t l = Dividing l.m l.r l.initial.part l.part l.t
