-- So many positions are written, and the rest of the leader's number has the bits of the others.
use Rattle.std.proofs.Common.{◌≡◌, ◌++◌, ◌-◌, length, take, drop}
use Rattle.code.specs.Bits.{bits_of}
use Rattle.split.specs.Split.{layer, sum}
use Rattle.split.proofs.Steps.{with_leader}
use Rattle.split.proofs.write_layer.Given as goal

abbrev pub invariant-loop-i : goal.invariant-loop-i
invariant-loop-i l = record {
  written : l.out ≡ take l.i (with_leader l.j l.word l.leader) ++ drop l.i l.fn.out;
  left : drop l.i (with_leader l.j l.word l.leader) ≡ sum (layer l.j (drop l.i l.word)) (bits_of (length l.word - l.i) l.rest);
}
