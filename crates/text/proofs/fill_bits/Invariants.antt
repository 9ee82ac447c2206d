use Rattle.std.proofs.Common.{◌≡◌, ◌++◌, length, take, drop}
use Rattle.text.specs.Text.{bits_field}
use Rattle.text.proofs.fill_bits.Given as goal

-- below i the part has the bits, and from i on it is as it was
abbrev pub invariant-loop-i : goal.invariant-loop-i
invariant-loop-i l = (length l.part ≡ length l.soft) × (l.part ≡ take l.i (bits_field l.soft) ++ drop l.i l.initial.part)
