-- One layer more, and all of them.
use Rattle.basics.proofs.Kit.{◌≡◌, sym, ap, ◌∙◌, ℕ, ◌^◌, arith, rules, length}
use mathlib.Core.Path.{subst}
use native.Mathlib.Numerals.{add-one}
use Rattle.split.specs.Split.{cosets}
use Rattle.join.proofs.Parts.{part_length, part_at, next_inside, next_small}
use Rattle.join.proofs.Joining.{coset_of, Written, next_layer, all_written, none_written}
use Rattle.join.proofs.write_word.Goals as goal

pub loop-j-init : goal.loop-j-init
loop-j-init c = none_written _ _ _ _ _ c.requires.room c.requires.are_zero

pub overflow_mul-at : goal.overflow_mul-at
overflow_mul-at c = omega (arith, next_small c.args.shape c.args.bch.now c.loop-j.j c.requires.count c.loop-j-test.true)

pub bounds-configuration-j : goal.bounds-configuration-j
bounds-configuration-j c = omega (arith, next_small c.args.shape c.args.bch.now c.loop-j.j c.requires.count c.loop-j-test.true)

pub leader-leader-requires : goal.leader-leader-requires
unfolding cosets
leader-leader-requires c =
    let s = c.args.shape in
    let four : length c.args.configuration ≡ 4 = search rules in
    let h = coset_of s.m s.r c.args.configuration s.numbers.width_is four c.requires.inside c.loop-j.j c.loop-j-test.true in
    omega (arith, s.numbers.size_is ∙ ap (λ (q : ℕ). 2 ^ q) s.numbers.q_is, h)

pub overflow_add-at : goal.overflow_add-at
overflow_add-at c = omega (arith, next_small c.args.shape c.args.bch.now c.loop-j.j c.requires.count c.loop-j-test.true)

pub slice_bounds-write_layer-end : goal.slice_bounds-write_layer-end
slice_bounds-write_layer-end c = next_inside c.args.shape c.args.bch.now c.loop-j.j c.requires.count c.loop-j-test.true

pub write_layer-requires-clause-layer : goal.write_layer-requires-clause-layer
write_layer-requires-clause-layer c = omega (arith, next_small c.args.shape c.args.bch.now c.loop-j.j c.requires.count c.loop-j-test.true)

pub write_layer-requires-clause-room : goal.write_layer-requires-clause-room
write_layer-requires-clause-room c =
    let s = c.args.shape in
    c.loop-j.invariant.count ∙ sym (ap length (part_at s c.args.bch.now c.loop-j.j) ∙ part_length s.m c.loop-j.j c.args.bch.now c.requires.count c.loop-j-test.true)

pub loop-j-preserved : goal.loop-j-preserved
loop-j-preserved c =
    let s = c.args.shape in
    let p = c.requires in
    let four : length c.args.configuration ≡ 4 = search rules in
    let n = next_layer s.m s.r c.args.configuration c.args.bch.now s.numbers.accepted_is four p.inside p.count p.are_bch c.loop-j.word c.loop-j.j c.leader-leader.result c.loop-j-test.true c.loop-j.invariant c.leader-leader.ensures in
    rw (add-one c.loop-j.j, c.write_layer.ensures, part_at s c.args.bch.now c.loop-j.j) n

pub returns : goal.returns
returns c =
    let s = c.args.shape in
    let p = c.requires in
    let four : length c.args.configuration ≡ 4 = search rules in
    let e : c.loop-j.j ≡ s.m = omega arith in
    all_written s.m s.r c.args.configuration c.args.bch.now s.numbers.accepted_is four p.inside p.count p.are_bch
    c.loop-j.word (subst (λ (k : ℕ). Written s.m s.r c.args.configuration c.args.bch.now c.loop-j.word k) e c.loop-j.invariant)
