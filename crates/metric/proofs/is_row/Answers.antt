use Rattle.std.proofs.Common.{◌≡◌, arith, rules, length, get_or, pos}
use mir.Facts.{to_z-of_z}
use mir.Syntax.{w16}
use mir.Val.{SFits}
use Rattle.metric.proofs.Rowing.{row_next, row_end}
use Rattle.metric.proofs.is_row.Goals as goal

pub loop-r-preserved : goal.loop-r-preserved
loop-r-preserved c =
    let f : SFits w16 (get_or c.args.row.now c.loop-r.r-index (pos 0)) = search rules in
    let e = rw (to_z-of_z f) at c.is_reliability-good.ensures in
    rw e (row_next c.args.bound c.args.row.now c.loop-r.r-index c.loop-r.good c.loop-r-test.true c.loop-r.invariant)

pub returns : goal.returns
returns c =
    let e : c.loop-r.r-index ≡ length c.args.row.now = omega arith in
    row_end c.args.bound c.args.row.now c.loop-r.good (rw e at c.loop-r.invariant)
