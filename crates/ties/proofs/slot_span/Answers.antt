use Rattle.std.proofs.Common.{arith}
use Rattle.ties.proofs.Spans.{spans_more}
use Rattle.ties.proofs.slot_span.Goals as goal
use Rattle.ties.proofs.slot_span.Goals.{then-x-least, else-x-least, then-x-least-2, else-x-least-2}

pub loop-p-preserved : goal.loop-p-preserved
loop-p-preserved c =
    spans_more c.args.places.now c.args.g.now c.args.least c.args.a c.loop-p.p c.loop-p.low c.loop-p.high _ _ c.loop-p.invariant
    (elim c.if-x-least.branch [ then-x-least w ↦ λ _. w.low-is | else-x-least w ↦ λ e. absurd (omega arith) ])
    (elim c.if-x-least-2.branch [ then-x-least-2 w ↦ λ _. w.high-is | else-x-least-2 w ↦ λ e. absurd (omega arith) ])
