-- One piece more, and all of them.
use Rattle.basics.proofs.Kit.{◌≡◌, refl, sym, ap, ◌∙◌, ℕ, ◌+◌, ◌*◌, ◌^◌, arith, length}
use Rattle.std.proofs.Math.ListN.{length-take, length-drop}
use Rattle.code.proofs.Promise.{row_small}
use Rattle.split.specs.Split.{cosets}
use Rattle.split.proofs.Layers.{width_small}
use Rattle.split.proofs.Steps.{copied}
use Rattle.split.proofs.Whole.{whole, whole_length, whole_right, its_coset, piece, turn, piece_room, whole_room, all_written}
use Rattle.split.proofs.write_layers.Goals as goal

pub overflow_mul-at : goal.overflow_mul-at
overflow_mul-at c =
    let s = c.args.shape in
    omega (arith, piece_room s.m c.loop-j.j c.args.word.now c.args.bch.now c.requires.count c.requires.room c.loop-j-test.true, row_small s.m s.numbers.width_is, c.requires.room)

pub bounds-configuration-j : goal.bounds-configuration-j
bounds-configuration-j c = omega (arith, width_small c.args.shape.m c.args.shape.numbers.width_is)

pub leader-lead-requires : goal.leader-lead-requires
unfolding cosets
leader-lead-requires c =
    let s = c.args.shape in
    let z = s.numbers in
    let h = its_coset s.m s.r c.args.word.now c.args.configuration z.accepted_is c.requires.count c.requires.tuple c.loop-j.j c.loop-j-test.true in
    omega (arith, z.size_is ∙ ap (λ (q : ℕ). 2 ^ q) z.q_is, h)

pub overflow_add-at : goal.overflow_add-at
overflow_add-at c =
    let s = c.args.shape in
    omega (arith, piece_room s.m c.loop-j.j c.args.word.now c.args.bch.now c.requires.count c.requires.room c.loop-j-test.true, row_small s.m s.numbers.width_is, c.requires.room)

pub slice_bounds-write_layer-end : goal.slice_bounds-write_layer-end
slice_bounds-write_layer-end c =
    piece_room c.args.shape.m c.loop-j.j c.args.word.now c.loop-j.bch c.requires.count (c.loop-j.auto.bch ∙ c.requires.room) c.loop-j-test.true

pub write_layer-requires-clause-layer : goal.write_layer-requires-clause-layer
write_layer-requires-clause-layer c = omega (arith, width_small c.args.shape.m c.args.shape.numbers.width_is)

pub write_layer-requires-clause-room : goal.write_layer-requires-clause-room
write_layer-requires-clause-room c =
    let h = piece_room c.args.shape.m c.loop-j.j c.args.word.now c.loop-j.bch c.requires.count (c.loop-j.auto.bch ∙ c.requires.room) c.loop-j-test.true in
    simp (length-take, length-drop) (omega (arith, h))

pub loop-j-preserved : goal.loop-j-preserved
loop-j-preserved c =
    let s = c.args.shape in
    let z = s.numbers in
    let ws = c.args.word.now in
    let j = c.loop-j.j in
    let to = whole s.m s.r ws in
    let long : length to ≡ s.m * length ws = whole_length s.m s.r ws c.args.configuration z.accepted_is c.requires.count c.requires.tuple in
    let room : length to ≡ length c.args.bch.now = whole_room s.m _ _ _ long c.requires.room c.requires.count in
    let h = piece_room s.m j ws c.args.bch.now c.requires.count c.requires.room c.loop-j-test.true in
    let p = piece s.m s.r ws c.args.configuration z.accepted_is c.requires.count c.requires.tuple j c.leader-lead.result c.loop-j-test.true c.leader-lead.ensures in
    let t = turn to c.args.bch.now c.loop-j.bch _ (j * length ws) (length ws) room (omega (arith, h, room)) c.loop-j.invariant (p ∙ sym c.write_layer.ensures) in
    let e : (j + 1) * length ws ≡ j * length ws + length ws = omega arith in
    rw e t.list

pub returns : goal.returns
returns c =
    let s = c.args.shape in
    let z = s.numbers in
    let ws = c.args.word.now in
    let to = whole s.m s.r ws in
    let long : length to ≡ s.m * length ws = whole_length s.m s.r ws c.args.configuration z.accepted_is c.requires.count c.requires.tuple in
    let room : length to ≡ length c.args.bch.now = whole_room s.m _ _ _ long c.requires.room c.requires.count in
    whole_right s.m s.r ws c.args.configuration z.accepted_is c.requires.count c.requires.tuple c.loop-j.bch
    (c.loop-j.invariant ∙ copied to c.args.bch.now (c.loop-j.j * length ws) room (all_written _ _ _ _ _ long c.loop-j-test.false refl))
