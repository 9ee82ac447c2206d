use Rattle.basics.proofs.Kit.{◌-◌, ◌∙◌, sym, arith, rules, length, get_or, pos, take, drop}
use mir.Facts.{to_z-of_z}
use mir.Syntax.{w16}
use mir.Val.{SFits}
use Rattle.code.proofs.Parts.{tail_is}
use Rattle.text.proofs.Fields.{least_first, least_next, least_none, least_end}
use Rattle.text.proofs.least_of.Goals as goal

pub returns-in_default : goal.returns-in_default
returns-in_default c = least_none c.args.soft.now (omega (arith, c.in_default.ensures.item.3))

pub loop-s-init : goal.loop-s-init
loop-s-init c =
    let e = c.in-Some.ensures.item.3 in
    let f : SFits w16 c.in-Some.first.now = search rules in
    rw (tail_is c.args.soft.now 1) (least_first c.args.soft.now c.unsigned_abs-least.result e.0 (rw (to_z-of_z f, e.1 (pos 0)) at c.unsigned_abs-least.ensures.value))

pub loop-s-preserved : goal.loop-s-preserved
loop-s-preserved c =
    let so = c.args.soft.now in
    let f : SFits w16 (get_or (take (length so - 1) (drop 1 so)) c.loop-s.s-index (pos 0)) = search rules in
    rw c.min-least.ensures (least_next _ c.loop-s.s-index c.loop-s.least c.unsigned_abs.result c.loop-s-test.true (rw (to_z-of_z f) at c.unsigned_abs.ensures.value) ∙ c.loop-s.invariant)

pub returns : goal.returns
returns c = sym (least_end _ _ _ c.loop-s-test.false) ∙ c.loop-s.invariant
