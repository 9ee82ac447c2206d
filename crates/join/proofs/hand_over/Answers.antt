-- One symbol more, and all of them.
use Rattle.basics.proofs.Kit.{◌≡◌, ap₂, ◌∙◌, List, ℕ, ◌%◌, arith, get_or, set}
use Rattle.std.proofs.Math.Nat.{mod-eq_of_lt}
use Rattle.field.proofs.Tests.{to_T}
use Rattle.split.proofs.Layers.{below}
use Rattle.split.proofs.Steps.{copy_more, copied}
use Rattle.join.proofs.Joining.{place_below}
use Rattle.join.proofs.hand_over.Goals as goal

pub loop-i-preserved : goal.loop-i-preserved
loop-i-preserved c =
    let i = c.loop-i.i in
    let from = c.args.from.now in
    let v : get_or from i 0 % 16 ≡ get_or from i 0 = mod-eq_of_lt (place_below 16 from i (below 16 from (to_T c.requires.symbols)) c.loop-i-test.true) in
    ap₂ (λ (l : List ℕ) (x : ℕ). set l i x) c.loop-i.invariant v ∙ copy_more from c.args.to.now i (omega (arith, c.requires.room)) c.loop-i-test.true

pub returns : goal.returns
returns c = c.loop-i.invariant ∙ copied c.args.from.now c.args.to.now c.loop-i.i c.requires.room c.loop-i-test.false
