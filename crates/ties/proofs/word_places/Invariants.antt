use Rattle.ties.proofs.Spans.{Written}
use Rattle.ties.proofs.word_places.Given as goal

abbrev pub invariant-loop-p : goal.invariant-loop-p
invariant-loop-p l = Written l.t l.fn.places l.places l.p
