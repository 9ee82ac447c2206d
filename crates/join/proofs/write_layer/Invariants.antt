-- So many symbols are written, and the rest of the leader's number has the bits of the others.
use Rattle.std.proofs.Common.{◌≡◌, ◌++◌, ◌-◌, length, take, drop}
use Rattle.code.specs.Bits.{bits_of}
use Rattle.split.specs.Split.{sum}
use Rattle.join.specs.Within.{with_layer}
use Rattle.join.proofs.Raising.{to}
use Rattle.join.proofs.write_layer.Given as goal

abbrev pub invariant-loop-i : goal.invariant-loop-i
invariant-loop-i l = record {
  written : l.word ≡ take l.i (to l.j l.leader l.bits l.fn.word) ++ drop l.i l.fn.word;
  left : drop l.i (to l.j l.leader l.bits l.fn.word)
      ≡ with_layer l.j (drop l.i l.fn.word) (sum (drop l.i l.bits) (bits_of (length l.bits - l.i) l.rest));
}
