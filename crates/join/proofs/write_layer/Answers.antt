-- One symbol more, and all of them.
use Rattle.basics.proofs.Kit.{◌≡◌, refl, sym, ap, ap₂, ◌∙◌, List, ℕ, ◌-◌, ◌*◌, ◌%◌, ◌^◌, arith, length, get_or, set}
use Rattle.field.specs.Field.{xor}
use Rattle.split.proofs.Steps.{next, copy_more, copied}
use Rattle.join.proofs.Raising.{to, to_length, one_position, unwritten}
use Rattle.join.proofs.write_layer.Goals as goal

pub loop-i-init : goal.loop-i-init
unfolding to
loop-i-init c = let n : length c.args.bits.now - 0 ≡ length c.args.bits.now = omega arith in record { written = refl; left = rw n refl }

pub loop-i-preserved : goal.loop-i-preserved
loop-i-preserved c =
    let l = c.loop-i in
    let a = c.args in
    let w = to a.j a.leader a.bits.now a.word.now in
    let long = to_length a.j a.leader a.bits.now a.word.now c.requires.room in
    let u : get_or l.word l.i 0 ≡ get_or a.word.now l.i 0 = ap (λ (x : List ℕ). get_or x l.i 0) l.invariant.written ∙ unwritten w a.word.now l.i (omega (arith, long, c.requires.room)) in
    let n = next w l.i _ _ (l.invariant.left ∙ one_position a.j l.rest l.i a.bits.now a.word.now c.requires.room c.loop-i-test.true) in
    let v : c.add-in-loop-i.result ≡ get_or w l.i 0 =
    c.add-in-loop-i.ensures ∙ ap₂ (λ (x y : ℕ). xor x (y * 2 ^ a.j % 256)) u c.add.ensures ∙ sym n.here in
    record {
      written = ap₂ (λ (x : List ℕ) (y : ℕ). set x l.i y) l.invariant.written v ∙ copy_more w a.word.now l.i (omega (arith, c.requires.room)) (omega (arith, long, c.requires.room));
      left = n.more;
    }

pub returns : goal.returns
unfolding to
returns c =
    let a = c.args in
    let e = to_length a.j a.leader a.bits.now a.word.now c.requires.room in
    c.loop-i.invariant.written ∙ copied (to a.j a.leader a.bits.now a.word.now) a.word.now c.loop-i.i e (omega (arith, e, c.requires.room))
