use Rattle.std.proofs.Common.{◌≡◌, length}
use Rattle.receiver.proofs.Filling.{Filled}
use Rattle.receiver.proofs.fill.Given as goal

abbrev pub invariant-loop-kind : goal.invariant-loop-kind
invariant-loop-kind l = (length l.row ≡ length l.initial.row) × Filled l.kinds l.samples l.row l.kind-index l.at l.b
