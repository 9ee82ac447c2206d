-- What is left to show of `tugzeck::tugzeck_judge_sheet`.
-- Assumes nothing.
use Rattle.tugzeck.proofs.Judging.{judge}
use Rattle.tugzeck.proofs.tugzeck_judge_sheet.Goals as goal

pub returns : goal.returns
returns c = judge c.args.sheet.now c.judge_sheet.result c.into.result c.judge_sheet.ensures c.into.ensures.0 c.into.ensures.1
