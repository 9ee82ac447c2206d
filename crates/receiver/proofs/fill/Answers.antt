-- A turn is a symbol (proofs/Filling.antt).
use Rattle.basics.proofs.Kit.{◌≡◌, ◌∙◌, ◌-◌, arith, length, get_or}
use borrow.Rule.Slice.PartMut.{same_len_mid}
use Rattle.code.proofs.Parts.{tail_is}
use Rattle.receiver.specs.Kind.{kind_number}
use Rattle.receiver.proofs.Symbols.{known_at, decoded, number_is}
use Rattle.receiver.proofs.Filling.{ended, enough, samples_inside, put_fits, turned}
use Rattle.receiver.proofs.fill.Goals as goal
use Rattle.receiver.proofs.fill.Goals.{After-unwrap-kind}

pub unwrap-kind-requires : goal.unwrap-kind-requires
unwrap-kind-requires c = decoded _ c.try_from.result c.try_from.ensures (known_at c.args.kinds.now c.loop-kind.kind-index c.loop-kind-test.true c.requires.known)

kind_is : (c : After-unwrap-kind) → kind_number c.unwrap-kind.result ≡ get_or c.args.kinds.now c.loop-kind.kind-index 0
kind_is c = number_is _ c.try_from.result c.unwrap-kind.result c.try_from.ensures c.unwrap-kind.ensures

pub symbol-symbol-requires : goal.symbol-symbol-requires
symbol-symbol-requires c =
    rw (kind_is ((goal.at.symbol-symbol-requires c).After-unwrap-kind), tail_is c.args.samples.now c.loop-kind.at) (enough _ _ c.loop-kind.invariant.1 c.loop-kind-test.true)

pub overflow_add-at : goal.overflow_add-at
overflow_add-at c =
    let e = rw (kind_is ((goal.at.overflow_add-at c).After-unwrap-kind)) at c.samples-at.ensures in
    omega (arith, e, samples_inside _ _ c.loop-kind.invariant.1 c.loop-kind-test.true)

pub put-b-requires : goal.put-b-requires
put-b-requires c =
    let e = rw (kind_is ((goal.at.put-b-requires c).After-unwrap-kind)) at c.symbol-symbol.ensures in
    put_fits _ _ c.loop-kind.invariant.1 c.loop-kind-test.true e

pub loop-kind-preserved : goal.loop-kind-preserved
loop-kind-preserved c =
    let k = kind_is ((goal.at.loop-kind-preserved c).After-unwrap-kind) in
    let e = rw k at c.symbol-symbol.ensures in
    let n = rw k at c.samples-at.ensures in
    let l = c.loop-kind in (
      same_len_mid l.b (length l.row - l.b) l.row c.put-b.new.row c.put-b.auto.row ∙ l.invariant.0,
      turned _ _ l.invariant.1 c.loop-kind-test.true e n c.put-b.ensures,
    )

pub returns : goal.returns
returns c = ended _ _ c.loop-kind.invariant.1 c.loop-kind-test.false
