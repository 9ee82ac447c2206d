-- What is left to show of `tugzeck::tugzeck_question`.
-- Assumes nothing.
use Rattle.tugzeck.specs.Calls.{QuestionSays}
use Rattle.tugzeck.proofs.tugzeck_question.Goals as goal

pub returns : goal.returns
unfolding QuestionSays
returns c = (c.question_of.result, c.into.ensures, c.question_of.ensures)
