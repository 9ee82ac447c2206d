-- One place more, and all of them.
use Rattle.basics.proofs.Kit.{◌∙◌, ◌<◌, arith}
use Rattle.std.proofs.Common.{replicate}
use Rattle.split.specs.Split.{syndromes}
use Rattle.split.proofs.Layers.{width_small}
use Rattle.split.proofs.Syndromes.{place_at, places, all_places}
use Rattle.split.proofs.Steps.{copy_more}
use Rattle.split.proofs.syndromes_of.Goals as goal

pub bounds-to-j : goal.bounds-to-j
bounds-to-j c = omega (arith, width_small c.args.shape.m c.args.shape.numbers.width_is)

pub loop-j-preserved : goal.loop-j-preserved
loop-j-preserved c =
    let s = c.args.shape in
    let ws = c.args.word.now in
    let four : c.loop-j.j < 4 = omega (arith, width_small s.m s.numbers.width_is) in
    rw (c.loop-j.invariant, c.syndrome_of.ensures, ← place_at s.m s.r c.loop-j.j ws c.loop-j-test.true)
    (copy_more (syndromes s.m s.r ws) (replicate 4 0) c.loop-j.j four (rw (places s.m s.r ws) c.loop-j-test.true))

pub returns : goal.returns
returns c =
    let s = c.args.shape in
    c.loop-j.invariant ∙ all_places s.m s.r c.args.word.now s.numbers.width_is c.loop-j.j (omega arith)
