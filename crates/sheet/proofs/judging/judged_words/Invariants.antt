-- `sheet::judged_words`: what is left to judge from a word on, with so many questions seen.
-- Assumes nothing.
use Rattle.basics.proofs.Kit.{◌≡◌, ◌-◌, ◌≤◌, drop}
use Rattle.sheet.specs.Sheet.{as_words, most}
use Rattle.sheet.specs.Within.{judged_from}
use Rattle.sheet.proofs.judging.judged_words.Given as goal

abbrev pub invariant-loop-seen : goal.invariant-loop-seen
invariant-loop-seen l = record {
  few : l.seen ≤ 200;
  left : judged_from l.f most (as_words l.sheet) ≡ judged_from l.f (200 - l.seen) (drop l.at (as_words l.sheet));
}
