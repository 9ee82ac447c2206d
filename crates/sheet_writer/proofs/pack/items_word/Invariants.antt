-- `sheet_writer::items_word`: the items from a place on are packed.
-- Assumes nothing.
use Rattle.basics.proofs.Kit.{◌≡◌, List, ℕ, length, take, drop}
use Rattle.sheet.specs.Sheet.{packed}
use Rattle.sheet_writer.specs.Within.{Items}
use Rattle.sheet_writer.proofs.pack.items_word.Given as goal

abbrev pub invariant-loop-i : goal.invariant-loop-i
invariant-loop-i g l =
    (ds : List ℕ) → Items (goal.I-pre g l.item) (goal.I-post g l.item) l.f.base ds → length (take l.f.each (drop l.from ds)) ≡ l.n →
    l.v ≡ packed l.f.base (drop l.i (take l.f.each (drop l.from ds)))
