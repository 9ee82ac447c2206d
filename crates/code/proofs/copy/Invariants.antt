-- What the loop of `code::copy` keeps.
-- Assumes nothing.
use Rattle.basics.proofs.Kit.{◌≡◌, ◌++◌, take, drop}
use Rattle.code.proofs.copy.Given as goal

abbrev pub invariant-loop-i : goal.invariant-loop-i
invariant-loop-i l = l.to ≡ take l.i l.from ++ drop l.i l.initial.to
