use Rattle.ties.specs.Turn.{Spans}
use Rattle.ties.proofs.slot_span.Given as goal

abbrev pub invariant-loop-p : goal.invariant-loop-p
invariant-loop-p l = Spans l.places l.g l.least l.a l.p l.low l.high
