-- `sheet_reader::place_of`: what is left to pass from a place on.
-- Assumes nothing.
use Rattle.basics.proofs.Kit.{◌≡◌, ◌-◌}
use Rattle.sheet.specs.Sheet.{as_words}
use Rattle.sheet_reader.specs.Within.{skipped}
use Rattle.sheet_reader.proofs.place_of.Given as goal

abbrev pub invariant-loop : goal.invariant-loop
invariant-loop l = skipped l.f l.index (as_words l.sheet) 0 ≡ skipped l.f (l.index - l.counter) (as_words l.sheet) l.at
