-- One lane more that does not count.
use Rattle.std.proofs.Common.{ℕ, sym, ap, ◌∙◌, ltb}
use borrow.Author.Tests.{ltb-true}
use Rattle.ties.specs.Ties.{number_of}
use Rattle.ties.specs.Turn.{words_at}
use Rattle.ties.proofs.Turns.{none_more, not_counted, one_by_one}
use Rattle.ties.proofs.any_counts.Goals as goal

pub loop-x-preserved : goal.loop-x-preserved
loop-x-preserved c =
    let v = number_of (words_at c.args.w.now c.args.a c.loop-x.x) in
    let e = c.comes_before.ensures ∙ ap (λ (w : ℕ). ltb w v) (one_by_one c.args.b) in
    none_more c.loop-x.invariant (not_counted (λ z. ltb-true _ _ (sym e ∙ z)))
