use Rattle.std.proofs.Common.{ℕ, refl, sym, ap, ◌∙◌, min, add-one}
use Rattle.lanes.specs.Lanes.{lane}
use Rattle.trellis.specs.Trellis.{least_of}
use Rattle.walk.proofs.least_lane.Goals as goal

pub loop-x-init : goal.loop-x-init
unfolding least_of
loop-x-init c = refl

pub loop-x-preserved : goal.loop-x-preserved
unfolding least_of
loop-x-preserved c =
    c.less_of-r.ensures ∙ ap (λ (r : ℕ). min r (lane c.args.m c.loop-x.x)) c.loop-x.invariant ∙ ap (least_of (lane c.args.m) c.args.cap) (sym (add-one c.loop-x.x))
