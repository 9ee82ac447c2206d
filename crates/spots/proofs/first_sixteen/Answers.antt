-- One entry, and four doublings.
use Rattle.std.proofs.Common.{◌<◌, arith}
use Rattle.spots.proofs.Filled.{begun, begun_more, sixteen, doubles}
use Rattle.spots.proofs.first_sixteen.Goals as goal

pub double-requires : goal.double-requires
double-requires c =
    let r = c.requires in
    doubles r (begun c.args.columns.now c.args.j (omega (arith, sixteen r))) (omega (arith, r.some))

pub double-requires-2 : goal.double-requires-2
double-requires-2 c =
    let r = c.requires in
    let in_bits : 1 < r.bits = omega (arith, r.some) in
    let one = begun c.args.columns.now c.args.j (omega (arith, sixteen r)) in
    doubles r (begun_more one r.layer c.double.ensures) in_bits

pub double-requires-3 : goal.double-requires-3
double-requires-3 c =
    let r = c.requires in
    let in_bits : 2 < r.bits = omega (arith, r.some) in
    let one = begun c.args.columns.now c.args.j (omega (arith, sixteen r)) in
    let two = begun_more one r.layer c.double.ensures in
    doubles r (begun_more two r.layer c.double-2.ensures) in_bits

pub double-requires-4 : goal.double-requires-4
double-requires-4 c =
    let r = c.requires in
    let in_bits : 3 < r.bits = omega (arith, r.some) in
    let one = begun c.args.columns.now c.args.j (omega (arith, sixteen r)) in
    let two = begun_more one r.layer c.double.ensures in
    let four = begun_more two r.layer c.double-2.ensures in
    doubles r (begun_more four r.layer c.double-3.ensures) in_bits

pub returns : goal.returns
returns c =
    let r = c.requires in
    let one = begun c.args.columns.now c.args.j (omega (arith, sixteen r)) in
    let two = begun_more one r.layer c.double.ensures in
    let four = begun_more two r.layer c.double-2.ensures in
    let eight = begun_more four r.layer c.double-3.ensures in
    begun_more eight r.layer c.double-4.ensures
