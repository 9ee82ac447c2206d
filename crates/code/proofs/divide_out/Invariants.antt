-- What the loop of `code::divide_out` keeps.
-- Assumes nothing.
use Rattle.code.proofs.Sweeps.{Divided}
use Rattle.code.proofs.divide_out.Given as goal

abbrev pub invariant-loop-i : goal.invariant-loop-i
invariant-loop-i l = Divided l.m l.x l.initial.part l.part l.v l.i
