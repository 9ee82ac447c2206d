-- `search::first_words` meets its contract.
-- Assumes nothing.
use Rattle.spots.proofs.Entries.{placed_same}
use Rattle.search.proofs.Laying.{from_words}
use Rattle.search.proofs.first_words.Goals as goal

pub returns-clause-first : goal.returns-clause-first
returns-clause-first c =
    from_words c.args.shape c.requires.laid.1 c.word_places.ensures.1 (rw (c.turns.ensures, c.slots-sl.ensures, c.steps-st.ensures) at c.first_tied-words.ensures)

pub returns-clause-same_places : goal.returns-clause-same_places
returns-clause-same_places c = placed_same _ _ c.args.shape.numbers.accepted_is c.fill.ensures c.requires.laid.1.placed
