-- The positions before i are spread.
use Rattle.search.specs.Within.{Spread}
use Rattle.search.proofs.spread.Given as goal

abbrev pub invariant-loop-i : goal.invariant-loop-i
invariant-loop-i l = Spread l.m l.i l.row l.wide
