use Rattle.std.proofs.Common.{rules}
use Rattle.gather.proofs.gather.Goals as goal

pub returns : goal.returns
returns c = record { long = c.gather_by.ensures.long; costs = λ p h. let w = c.gather_by.ensures.answers p h in search rules }
