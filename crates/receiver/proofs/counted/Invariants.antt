use Rattle.std.proofs.Common.{◌≡◌, ◌+◌, ◌*◌, ◌≤◌, drop}
use Rattle.receiver.specs.Receive.{taken, total}
use Rattle.receiver.specs.Calls.{kinds_good}
use Rattle.receiver.specs.Within.{bits}
use Rattle.receiver.proofs.counted.Given as goal

-- what is counted, with what is left to count, is all of it, and it is at most two a kind; the kinds so far are known
abbrev pub invariant-loop-kind : goal.invariant-loop-kind
invariant-loop-kind l = record {
  bits_few : l.bits ≤ 2 * l.kind-index;
  samples_few : l.samples ≤ 2 * l.kind-index;
  bits_left : l.bits + total bits (drop l.kind-index l.kinds) ≡ total bits l.kinds;
  samples_left : l.samples + total taken (drop l.kind-index l.kinds) ≡ total taken l.kinds;
  known : kinds_good l.kinds ≡ kinds_good (drop l.kind-index l.kinds);
}
