use Rattle.basics.proofs.Kit.{◌≤◌, arith, rules, length, get_or, pos}
use mathlib.Core.List.{append-nil}
use native.Mathlib.Numerals.{add-one}
use lib.ListN.{length-set, drop_of_length-le}
use lib.Seq.{take_all}
use mir.Facts.{to_z-of_z}
use mir.Syntax.{w16}
use mir.Val.{SFits}
use Rattle.text.specs.Text.{bits_field}
use Rattle.text.proofs.Fields.{bits_length, bits_stored}
use Rattle.text.proofs.fill_bits.Goals as goal

pub loop-i-preserved : goal.loop-i-preserved
loop-i-preserved c =
    let l = c.loop-i in
    let so = c.args.soft.now in
    let f : SFits w16 (get_or so l.i (pos 0)) = search rules in
    let e = rw (to_z-of_z f) at c.bit_of.ensures in
    (rw length-set l.invariant.0, rw (l.invariant.1, e, add-one) (bits_stored so c.args.part.now l.i c.loop-i-test.true c.requires))

pub returns : goal.returns
returns c =
    let i = c.loop-i.i in
    let so = c.args.soft.now in
    let short : length c.args.part.now ≤ i = omega arith in
    let done : length (bits_field so) ≤ i = omega (arith, bits_length so) in
    rw (c.loop-i.invariant.1, drop_of_length-le _ short, append-nil) (take_all i (bits_field so) done)
