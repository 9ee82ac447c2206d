-- What the loop of `code::is_codeword` keeps: the roots from α^t on are those that are left.
-- Assumes nothing.
use Rattle.basics.proofs.Kit.{◌≡◌, ◌+◌, ◌-◌}
use Rattle.code.specs.Code.{vanishes}
use Rattle.code.proofs.is_codeword.Given as goal

abbrev pub invariant-loop-t : goal.invariant-loop-t
invariant-loop-t l = vanishes l.r 1 l.m l.word ≡ vanishes (l.r + 1 - l.t) l.t l.m l.word
