use Rattle.basics.proofs.Kit.{◌∙◌}
use Rattle.pass.proofs.lowered.Goals as goal

pub returns : goal.returns
returns c = c.least-2.ensures ∙ rw (c.least.ensures, c.plus.ensures, c.plus-2.ensures)
