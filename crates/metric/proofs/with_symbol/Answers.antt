use Rattle.std.proofs.Common.{◌≡◌, ◌∙◌, ◌-◌, ◌/◌, ◌%◌, ◌^◌, arith, rules, get_or, pos}
use mir.Facts.{to_z-of_z}
use mir.Syntax.{w16, w32}
use mir.Val.{SFits, to_z}
use Rattle.code.specs.Bits.{bits_of}
use Rattle.metric.specs.Row.{row_bound}
use Rattle.metric.proofs.Bounds.{row_at}
use Rattle.metric.proofs.Counting.{bit_more, all_counted, counted_size}
use Rattle.metric.proofs.with_symbol.Goals as goal

pub loop-j-init : goal.loop-j-init
unfolding bits_of
loop-j-init c =
    let z : c.args.m - c.args.m ≡ 0 = omega arith in
    rw (z, to_z-of_z c.ranges.sum) (omega (arith, c.requires.small), λ bs e. e)

pub counted-s-requires-clause-reliability : goal.counted-s-requires-clause-reliability
counted-s-requires-clause-reliability c =
    let f : SFits w16 (get_or c.args.row.now (c.loop-j.j - 1) (pos 0)) = search rules in
    rw (to_z-of_z f) (row_at row_bound c.args.row.now (c.loop-j.j - 1) c.requires.good)

pub loop-j-preserved : goal.loop-j-preserved
loop-j-preserved c =
    let a = c.args in
    let t = c.loop-j in
    let row = a.row.now in
    let f : SFits w16 (get_or row (t.j - 1) (pos 0)) = search rules in
    let x = to_z-of_z {w = w32} {z = c.counted-s.result} (record { sfits = c.counted-s.type_inv }) in
    let e = rw (to_z-of_z f) at c.counted-s.ensures in
    let z = counted_size (to_z w32 t.s-bits) (get_or row (t.j - 1) (pos 0)) (omega (arith, c.requires.width, t.invariant.0))
    (row_at row_bound row (t.j - 1) c.requires.good) (a.c / 2 ^ (t.j - 1) % 2) in (
      rw (x, e) (omega (arith, z, t.invariant.0)),
      λ bs h. rw x
          (bit_more a.m (t.j - 1) t.j a.c row bs (to_z w32 t.s-bits) c.counted-s.result (omega arith) (omega arith) (omega (arith, c.requires.count)) (t.invariant.1 bs h) e),
    )

pub returns : goal.returns
returns c = λ bs h.
    all_counted c.args.m c.loop-j.j c.args.c c.args.row.now bs (to_z w32 c.loop-j.s-bits) (omega arith) (c.loop-j.invariant.1 bs (to_z-of_z c.ranges.sum ∙ h))
