-- What is left to show of `tugzeck::tugzeck_check_word_by`.
-- Assumes nothing.
use Rattle.basics.proofs.Kit.{◌∙◌}
use Rattle.tugzeck.proofs.Testing.{check_number}
use Rattle.tugzeck.proofs.tugzeck_check_word_by.Goals as goal

pub returns : goal.returns
returns c = c.number_of_test.ensures ∙ check_number _ _ _ _ c.check_word.result c.check_word.ensures
