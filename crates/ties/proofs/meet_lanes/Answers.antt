use Rattle.std.proofs.Common.{refl, sym, ◌∙◌}
use Rattle.ties.specs.Turn.{meet}
use Rattle.ties.proofs.Turns.{meet_more}
use Rattle.ties.proofs.meet_lanes.Goals as goal

pub loop-x-init : goal.loop-x-init
unfolding meet
loop-x-init c = refl

pub loop-x-preserved : goal.loop-x-preserved
loop-x-preserved c =
    c.earlier_of-m.ensures ∙ rw (c.words_of-v.ensures, c.loop-x.invariant) (sym (meet_more _ _ _ _ _ c.loop-x.x))
