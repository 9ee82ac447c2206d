-- `marker::excess_with` meets its contract.
-- Assumes nothing.
use Rattle.marker.proofs.Marking.{own_ok, cheap_ok, excess_fits, excess_ok}
use Rattle.marker.proofs.excess_with.Goals as goal

pub least_of-least-requires-clause-cheap : goal.least_of-least-requires-clause-cheap
least_of-least-requires-clause-cheap c = let e = c.costs_of_row.ensures in (cheap_ok c.requires.judged e.layered e.costs, e.costs.long)

pub word_cost-own-requires : goal.word_cost-own-requires
word_cost-own-requires c = own_ok c.requires.judged c.costs_of_row.ensures.layered

pub overflow_sub-result : goal.overflow_sub-result
overflow_sub-result c = let e = c.costs_of_row.ensures in
    excess_fits c.requires.judged e.layered e.costs c.least_of-least.ensures c.word_cost-own.ensures

pub returns : goal.returns
returns c = let e = c.costs_of_row.ensures in
    excess_ok c.requires.judged e.layered e.costs c.least_of-least.ensures c.word_cost-own.ensures
