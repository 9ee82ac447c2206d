-- `search::words_of` meets its contract.
-- Assumes nothing.
use Rattle.search.proofs.Laying.{agreed, tied, slots_ok}
use Rattle.search.proofs.words_of.Goals as goal

pub returns-in-Some-clause-first : goal.returns-in-Some-clause-first
returns-in-Some-clause-first c = let p = c.requires.cheap in
    agreed c.args.shape p.2 c.args.t.now c.args.g.now _ _ c.requires.marginals.1 c.requires.least c.in-Some.ensures (rw (← c.requires.least) at (tied c.args.shape p.2 p.0 p.1))

pub first_words-requires-clause-slots : goal.first_words-requires-clause-slots
first_words-requires-clause-slots c = let p = c.requires.cheap in slots_ok c.args.shape p.2 p.0 p.1

pub first_words-requires-clause-tied : goal.first_words-requires-clause-tied
first_words-requires-clause-tied c = let p = c.requires.cheap in rw (← c.requires.least) at (tied c.args.shape p.2 p.0 p.1)
