use Rattle.basics.proofs.Kit.{◌∙◌, arith}
use Rattle.coset.proofs.Doubling.{pair_in, double_sums, doubled_more}
use Rattle.coset.proofs.double.Goals as goal

pub raised-requires : goal.raised-requires
raised-requires c =
    let v = c.loop-s.invariant in
    rw c.load_two-r.ensures (double_sums c.requires v.done v.even c.loop-s-test.true c.args.z (λ s j ls lj. (c.requires.room s j ls lj).0))

pub raised-requires-in-loop-s : goal.raised-requires-in-loop-s
raised-requires-in-loop-s c =
    let v = c.loop-s.invariant in
    rw c.load_two-r.ensures (double_sums c.requires v.done v.even c.loop-s-test.true c.args.o (λ s j ls lj. (c.requires.room s j ls lj).1))

pub loop-s-preserved : goal.loop-s-preserved
loop-s-preserved c =
    let v = c.loop-s.invariant in
    record {
      inside = omega (arith, pair_in c.requires v.done v.even c.loop-s-test.true);
      even = omega arith;
      done = doubled_more c.requires v.done v.even c.loop-s-test.true
          (c.store_two-in-loop-s.ensures ∙ rw (c.store_two.ensures, c.raised.ensures, c.raised-in-loop-s.ensures, c.load_two-r.ensures));
    }
