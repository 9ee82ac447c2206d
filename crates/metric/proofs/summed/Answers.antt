use Rattle.std.proofs.Common.{◌≡◌, refl, ◌+◌, ◌-◌, ◌*◌, arith, drop}
use Rattle.std.proofs.Math.Nat.{mul-le-mul_right}
use mir.Facts.{to_z-of_z}
use mir.Syntax.{w32}
use mir.Val.{to_z}
use Rattle.code.specs.Bits.{all_bits}
use Rattle.code.proofs.Accepted.{width_small}
use Rattle.metric.proofs.Counting.{tail_is, place, none, symbol_more, rest_ok, whole}
use Rattle.metric.proofs.summed.Goals as goal

pub loop-i-init : goal.loop-i-init
loop-i-init c = rw (← c.requires.count) (none c.args.m c.args.row.now c.args.word.now)

pub with_symbol-sum-requires : goal.with_symbol-sum-requires
with_symbol-sum-requires c =
    let a = c.args in
    let t = c.loop-i in
    let at = (t.i - 1) * a.m in
    let e : at + a.m ≡ t.i * a.m = place t.i a.m c.loop-i-test.true in
    rw (tail_is at a.row.now)
    (rest_ok a.m at a.row.now (all_bits a.m (drop t.i a.word.now)) (to_z w32 t.sum-bits) (width_small a.m c.requires.width)
    (omega (arith, c.requires.count, mul-le-mul_right a.m c.loop-i.auto.i)) c.requires.few c.requires.good (rw e t.invariant))

pub loop-i-preserved : goal.loop-i-preserved
loop-i-preserved c =
    let a = c.args in
    let t = c.loop-i in
    let at = (t.i - 1) * a.m in
    let x = to_z-of_z {w = w32} {z = c.with_symbol-sum.result} (record { sfits = c.with_symbol-sum.type_inv }) in
    let e : at + a.m ≡ t.i * a.m = place t.i a.m c.loop-i-test.true in
    rw x (symbol_more a.m (t.i - 1) t.i at a.row.now a.word.now (to_z w32 t.sum-bits) c.with_symbol-sum.result (omega arith) (omega arith) (rw e t.invariant) (rw (tail_is at a.row.now) at c.with_symbol-sum.ensures))

pub returns : goal.returns
returns c =
    whole c.args.m c.loop-i.i (c.loop-i.i * c.args.m) c.args.row.now c.args.word.now (to_z w32 c.loop-i.sum-bits) (omega arith) refl c.loop-i.invariant
