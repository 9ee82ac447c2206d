-- One position more, and all of them.
use Rattle.basics.proofs.Kit.{◌≡◌, refl, sym, ◌∙◌, ◌-◌, arith, length}
use Rattle.split.proofs.Steps.{with_leader, with_length, one_position, next, copy_more, copied}
use Rattle.split.proofs.write_layer.Goals as goal

pub loop-i-init : goal.loop-i-init
unfolding with_leader
loop-i-init c = let n : length c.args.word.now - 0 ≡ length c.args.word.now = omega arith in record { written = refl; left = rw n refl }

pub loop-i-preserved : goal.loop-i-preserved
loop-i-preserved c =
    let l = c.loop-i in
    let to = with_leader c.args.j c.args.word.now c.args.leader in
    let n = next to l.i _ _ (l.invariant.left ∙ one_position c.args.j c.args.word.now l.rest l.i c.loop-i-test.true) in
    let w = with_length c.args.j c.args.word.now c.args.leader in
    record {
      written = rw (l.invariant.written, c.add.ensures, c.bit.ensures, ← n.here) (copy_more to c.args.out.now l.i (omega (arith, c.requires.room)) (omega arith));
      left = n.more;
    }

pub returns : goal.returns
unfolding with_leader
returns c =
    let w = with_length c.args.j c.args.word.now c.args.leader in
    c.loop-i.invariant.written ∙ copied (with_leader c.args.j c.args.word.now c.args.leader) c.args.out.now c.loop-i.i (w ∙ sym c.requires.room) (omega arith)
