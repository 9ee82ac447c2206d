-- What the loop of `code::multiply_all` keeps.
-- Assumes nothing.
use Rattle.code.proofs.Roots.{Multiplying}
use Rattle.code.proofs.multiply_all.Given as goal

abbrev pub invariant-loop-t : goal.invariant-loop-t
invariant-loop-t l = Multiplying l.m l.r l.initial.out l.out l.t
