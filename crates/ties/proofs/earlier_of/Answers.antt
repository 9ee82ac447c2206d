use Rattle.std.proofs.Common.{sym, ap₂, ◌∙◌, arith, ltb}
use borrow.Author.Tests.{ltb-true, ltb-false}
use Rattle.ties.proofs.Turns.{one_by_one, keep, take_this}
use Rattle.ties.proofs.earlier_of.Goals as goal

pub returns-then-t-least : goal.returns-then-t-least
returns-then-t-least c = let a = c.args in sym (keep a.least a.t a.v a.b (λ e. absurd (omega arith)))

pub returns-then-comes_before : goal.returns-then-comes_before
returns-then-comes_before c =
    let a = c.args in
    let e = c.comes_before.ensures ∙ ap₂ ltb (one_by_one a.b) (one_by_one a.v) in
    sym (keep a.least a.t a.v a.b (λ _. ltb-true _ _ (sym e ∙ c.if-comes_before.true)))

pub returns : goal.returns
returns c =
    let a = c.args in
    let e = c.comes_before.ensures ∙ ap₂ ltb (one_by_one a.b) (one_by_one a.v) in
    sym (take_this a.least a.t a.v a.b (omega arith) (ltb-false _ _ (sym e ∙ c.if-comes_before.false)))
