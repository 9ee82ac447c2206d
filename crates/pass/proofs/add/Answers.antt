use Rattle.basics.proofs.Kit.{◌∙◌, arith}
use Rattle.pass.proofs.Folding.{add_in, add_sums, add_more}
use Rattle.pass.proofs.add.Goals as goal

pub plus-requires : goal.plus-requires
plus-requires c =
    let v = c.loop-s.invariant in
    rw (c.load_two.ensures, c.load_two-in-loop-s.ensures) (add_sums c.requires v.done v.even c.loop-s-test.true)

pub loop-s-preserved : goal.loop-s-preserved
loop-s-preserved c =
    let v = c.loop-s.invariant in
    record {
      inside = add_in c.requires v.done v.even c.loop-s-test.true;
      even = omega arith;
      done = add_more c.requires v.done v.even c.loop-s-test.true
          (c.store_two.ensures ∙ rw (c.plus.ensures, c.load_two.ensures, c.load_two-in-loop-s.ensures));
    }
