-- `sheet::scanned`: what stands above the digits that were passed, and whether they are good.
-- Assumes nothing.
use Rattle.basics.proofs.Kit.{◌-◌}
use Rattle.sheet.proofs.Turns.{Scanned}
use Rattle.sheet.proofs.judging.scanned.Given as goal

abbrev pub invariant-loop : goal.invariant-loop
invariant-loop l = Scanned l.v l.base l.n l.low l.high l.rest l.good (l.n - l.counter)
