use Rattle.std.proofs.Common.{rules, tests, ◌∙◌}
use Rattle.std.proofs.lemmas.Iterator.{YieldsList-from_slice}
use Rattle.std.proofs.lemmas.Iterator.Search.{any_from_yields_List}
use lib.Ieee.{is_nan}
use Rattle.quantiser.proofs.Samples.{has_nan_is}
use Rattle.quantiser.proofs.any_nan.Goals as goal

pub returns : goal.returns
returns c =
    any_from_yields_List is_nan _ _ _ c.any.ensures.ran (YieldsList-from_slice c.args.samples.now cc) (λ x b q k. search (rules, tests)) ∙ has_nan_is c.args.samples.now
