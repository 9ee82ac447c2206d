-- `decoding::find_word` meets its contract.
-- Assumes nothing.
use Rattle.basics.proofs.Kit.{sym, ap, ◌∙◌, ℕ}
use Rattle.lanes.specs.Lanes.{lane}
use Rattle.trellis.specs.Rows.{weave}
use Rattle.search.specs.Within.{leading}
use Rattle.decoding.proofs.Finding.{cheap_ok, found}
use Rattle.decoding.proofs.find_word.Goals as goal

pub walk_over-best-requires-clause-cheap : goal.walk_over-best-requires-clause-cheap
walk_over-best-requires-clause-cheap c = cheap_ok c.requires.input c.tabulate.ensures

pub returns : goal.returns
returns c =
    found c.requires.input c.tabulate.ensures (rw (sym c.walk_over-best.auto.places) at c.walk_over-best.ensures)
    (c.write_word.ensures ∙ ap (λ (n : ℕ). weave (λ j. leading n (lane c.walk_over-best.result.words j))) c.requires.rooms.1)
