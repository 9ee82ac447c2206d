-- `sheet_writer::pack::write_items`: the items before a place are written.
-- Assumes nothing.
use Rattle.basics.proofs.Kit.{◌≡◌, List, ℕ, ◌-◌, ◌≤◌, length}
use Rattle.sheet_writer.specs.Within.{Items}
use Rattle.sheet_writer.proofs.Words.{ItemsBegun}
use Rattle.sheet_writer.proofs.pack.write_items.Given as goal

abbrev pub invariant-loop-from : goal.invariant-loop-from
invariant-loop-from g l =
    (l.from ≤ l.n)
    × ((ds : List ℕ) → Items (goal.I-pre g l.item) (goal.I-post g l.item) l.f.base ds → length ds ≡ l.n → ItemsBegun l.f ds l.n l.at l.fn.output l.from l.to l.output)

abbrev pub decreases-loop-from : goal.decreases-loop-from
decreases-loop-from g l = l.n - l.from
