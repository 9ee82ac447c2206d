use Rattle.basics.proofs.Kit.{refl, arith, get_or}
use borrow.Author.Tests.{lt-leb, le-leb}
use lib.ListN.{drop_of_length-le}
use Rattle.refusal.specs.Refusal.{unless}
use Rattle.refusal.proofs.Results.{handed_on}
use Rattle.receiver.specs.Receive.{taken}
use Rattle.receiver.specs.Calls.{kinds_good}
use Rattle.receiver.specs.Within.{bits}
use Rattle.receiver.proofs.Symbols.{bits_few, taken_few, total_next, total_none, kinds_next, kind_few}
use Rattle.receiver.proofs.counted.Goals as goal

pub returns-in_err-kind-clause-refused : goal.returns-in_err-kind-clause-refused
unfolding unless
returns-in_err-kind-clause-refused c =
    rw (
      handed_on c.from_residual.result _ c.from_residual.ensures.1,
      c.in_err-kind.ensures.0,
      c.loop-kind.invariant.known,
      kinds_next _ _ c.loop-kind-test.true,
      lt-leb _ 3 c.in_err-kind.ensures.1,
    ) refl

pub overflow_add-bits : goal.overflow_add-bits
overflow_add-bits c = let e = rw c.in_ok-kind.ensures at c.bits-bits.ensures in omega (arith, e, (bits_few (get_or c.args.kinds.now c.loop-kind.kind-index 0)).1)

pub overflow_add-samples : goal.overflow_add-samples
overflow_add-samples c = let e = rw c.in_ok-kind.ensures at c.samples-samples.ensures in omega (arith, e, taken_few (get_or c.args.kinds.now c.loop-kind.kind-index 0))

pub loop-kind-preserved : goal.loop-kind-preserved
loop-kind-preserved c =
    let ks = c.args.kinds.now in
    let i = c.loop-kind.kind-index in
    let k = get_or ks i 0 in
    let e = c.in_ok-kind.ensures in
    let h = c.loop-kind-test.true in
    let b = rw e at c.bits-bits.ensures in
    let s = rw e at c.samples-samples.ensures in
    record {
      bits_few = omega (arith, b, (bits_few k).1);
      samples_few = omega (arith, s, taken_few k);
      bits_left = omega (arith, b, total_next bits ks i h);
      samples_left = omega (arith, s, total_next taken ks i h);
      known = rw (c.loop-kind.invariant.known, kinds_next ks i h, le-leb k 3 (omega (arith, e, kind_few c.in_ok-kind.kind))) refl;
    }

pub returns-clause-refused : goal.returns-clause-refused
unfolding unless kinds_good
returns-clause-refused c = rw (c.loop-kind.invariant.known, drop_of_length-le _ c.loop-kind-test.false) refl

pub returns-clause-bits : goal.returns-clause-bits
returns-clause-bits c = omega (arith, total_none bits c.args.kinds.now c.loop-kind.kind-index c.loop-kind-test.false, c.loop-kind.invariant.bits_left)

pub returns-clause-samples : goal.returns-clause-samples
returns-clause-samples c = omega (arith, total_none taken c.args.kinds.now c.loop-kind.kind-index c.loop-kind-test.false, c.loop-kind.invariant.samples_left)
