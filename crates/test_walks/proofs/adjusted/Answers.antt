-- `test_walks::adjusted` meets its contract.
-- Assumes nothing.
use Rattle.test_walks.proofs.Zeros.{zeros_long, short, asked, answered}
use Rattle.test_walks.proofs.adjusted.Goals as goal

pub slice_bounds-f-end : goal.slice_bounds-f-end
slice_bounds-f-end c = let s = c.args.shape in rw c.slots-sl.ensures (short s.m s.r s.numbers.accepted_is)

pub slice_bounds-least_of-end : goal.slice_bounds-least_of-end
slice_bounds-least_of-end c = let s = c.args.shape in zeros_long _ 4096 (rw c.slots-sl.ensures (short s.m s.r s.numbers.accepted_is))

pub least_of-requires-clause-slots : goal.least_of-requires-clause-slots
least_of-requires-clause-slots c = let s = c.args.shape in
    asked s.m s.r s.numbers.accepted_is _ _ _ _ c.slots-sl.ensures c.steps-st.ensures c.turns-n.ensures c.round-round.ensures

pub returns-clause-as_many_a_step : goal.returns-clause-as_many_a_step
returns-clause-as_many_a_step c = let s = c.args.shape in
    (answered s.m s.r s.numbers.accepted_is _ _ _ _ c.slots-sl.ensures c.steps-st.ensures c.turns-n.ensures c.least_of.ensures.adjusted_value).1
