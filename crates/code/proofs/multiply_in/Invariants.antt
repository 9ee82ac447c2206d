-- What the loop of `code::multiply_in` keeps.
-- Assumes nothing.
use Rattle.code.proofs.Sweeps.{Spread}
use Rattle.code.proofs.multiply_in.Given as goal

abbrev pub invariant-loop-i : goal.invariant-loop-i
invariant-loop-i l = Spread l.m l.x l.initial.part l.part l.next l.i
