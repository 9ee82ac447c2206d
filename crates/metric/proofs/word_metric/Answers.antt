use Rattle.std.proofs.Common.{◌≡◌, rules}
use Rattle.field.proofs.Tests.{not_three}
use Rattle.metric.proofs.word_metric.Goals as goal
use Rattle.metric.proofs.word_metric.Goals.{Else-m-eq3}

four : (c : Else-m-eq3) → c.args.m ≡ 4
four c = not_three c.args.m c.requires.width c.if-m-eq3.false

pub summed-requires-else-m-eq3 : goal.summed-requires-else-m-eq3
summed-requires-else-m-eq3 c = rw (← four c) c.requires

pub returns-else-m-eq3 : goal.returns-else-m-eq3
returns-else-m-eq3 c = rw (four ((goal.at.returns-else-m-eq3 c).Else-m-eq3)) (search rules)
