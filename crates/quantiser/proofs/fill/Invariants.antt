use Rattle.std.proofs.Common.{◌≡◌, ◌++◌, length, take, drop}
use mathlib.Core.List.{map}
use Rattle.quantiser.specs.Quantise.{quantised}
use Rattle.quantiser.proofs.fill.Given as goal

-- below i the row is the samples quantised, and from i on it is as it was
abbrev pub invariant-loop-i : goal.invariant-loop-i
invariant-loop-i l = (length l.row ≡ length l.samples) × (l.row ≡ take l.i (map quantised l.samples) ++ drop l.i l.initial.row)
