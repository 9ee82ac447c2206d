use Rattle.basics.proofs.Kit.{◌≡◌, sym, ap, ◌∙◌, arith}
use Rattle.test_tally.specs.Tally.{compared}
use Rattle.test_tally.proofs.Comparing.{next, none, stands}
use Rattle.test_tally.proofs.tally.Tally.places.Goals as goal
use Rattle.test_tally.proofs.tally.Tally.places.Goals.{then-not-layered, else-not-layered+else-i-eq0}

pub loop-i-preserved : goal.loop-i-preserved
loop-i-preserved c =
    let n = next c.args.layered c.args.found.now c.args.expected.now c.loop-i.i c.loop-i.t c.loop-i-test.true in
    elim c.if-not-layered.branch [
      | then-not-layered w ↦
          let e : w.eq.result ≡ _ = w.eq.ensures ∙ stands _ _ _ _ w.get.ensures.lookup.0 (w.get.ensures.lookup.4 (omega arith)) in
          grind (arith, n, e)
      | else-not-layered+else-i-eq0 w ↦ grind (arith, n)
    ]

pub returns : goal.returns
returns c = sym (none _ _ _ _ _ c.loop-i-test.false) ∙ c.loop-i.invariant ∙ ap (compared _ _ _ _) c.with-t.ensures
