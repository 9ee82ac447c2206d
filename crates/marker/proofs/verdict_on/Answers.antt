-- `marker::verdict_on` meets its contract.
-- Assumes nothing.
use Rattle.basics.proofs.Kit.{sym, ap, ◌∙◌}
use mir.Facts.{to_z-of_z}
use mir.Syntax.{w32}
use mir.Val.{to_z, of_z}
use Rattle.marker.proofs.Marking.{verdict_best, verdict_short}
use Rattle.marker.proofs.verdict_on.Goals as goal

pub returns-then-shortfall-eq0 : goal.returns-then-shortfall-eq0
returns-then-shortfall-eq0 c m r row word l = verdict_best l (sym (to_z-of_z c.ranges.shortfall) ∙ ap (to_z w32) c.if-shortfall-eq0.true)

pub returns-else-shortfall-eq0 : goal.returns-else-shortfall-eq0
returns-else-shortfall-eq0 c m r row word l = verdict_short l (to_z-of_z c.ranges.shortfall) (λ e. c.if-shortfall-eq0.false (ap (of_z w32) e))
