use Rattle.basics.proofs.Kit.{◌∙◌, ◌≤◌, arith, length}
use mathlib.Core.List.{map, append-nil}
use native.Mathlib.Numerals.{add-one}
use lib.ListN.{length-set, length-map, drop_of_length-le}
use lib.Seq.{take_all}
use lib.Ieee.{nan}
use mir.Facts.{to_z-of_z}
use mir.Syntax.{w16}
use Rattle.quantiser.specs.Quantise.{quantised}
use Rattle.quantiser.proofs.Samples.{number_at, stored}
use Rattle.quantiser.proofs.fill.Goals as goal

pub quantise_one-requires : goal.quantise_one-requires
quantise_one-requires c = number_at c.args.samples.now c.loop-i.i c.loop-i-test.true c.requires.numbers

pub loop-i-preserved : goal.loop-i-preserved
loop-i-preserved c =
    let l = c.loop-i in
    let e = to_z-of_z {w = w16} (record { sfits = c.quantise_one.type_inv }) ∙ c.quantise_one.ensures in (
      rw length-set l.invariant.0,
      rw (l.invariant.1, e, add-one) (stored quantised c.args.samples.now c.args.row.now l.i nan c.loop-i-test.true c.requires.length),
    )

pub returns : goal.returns
returns c =
    let i = c.loop-i.i in
    let xs = c.args.samples.now in
    let short : length c.args.row.now ≤ i = omega arith in
    let done : length (map quantised xs) ≤ i = rw length-map c.loop-i-test.false in
    rw (c.loop-i.invariant.1, drop_of_length-le _ short, append-nil) (take_all i (map quantised xs) done)
