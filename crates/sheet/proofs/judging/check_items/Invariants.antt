-- `sheet::check_items`: what is left to judge from a word on.
-- Assumes nothing.
use Rattle.basics.proofs.Kit.{◌≡◌, ◌-◌, drop}
use Rattle.refusal.specs.Refusal.{number}
use Rattle.sheet.specs.Sheet.{as_words, count, items_refusal}
use Rattle.sheet.specs.Within.{outside}
use Rattle.sheet.proofs.judging.check_items.Given as goal

abbrev pub invariant-loop-i : goal.invariant-loop-i
invariant-loop-i l =
    items_refusal l.f (number l.bad) (outside l.low l.high) (count l.f l.n) l.n (drop l.at (as_words l.sheet))
    ≡ items_refusal l.f (number l.bad) (outside l.low l.high) (l.i-end - l.i) l.left (drop l.i (as_words l.sheet))
