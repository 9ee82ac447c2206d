-- `search::costs_of_row` meets its contract.
-- Assumes nothing.
use Rattle.basics.proofs.Kit.{◌∙◌}
use Rattle.coset.proofs.Fitting.{fit_of}
use Rattle.search.proofs.Tabling.{costs_ok, layers_ok, layered}
use Rattle.search.proofs.costs_of_row.Goals as goal

pub cost_rows-requires : goal.cost_rows-requires
cost_rows-requires c = costs_ok c.requires.input c.requires.rooms.0 c.requires.rooms.1

pub invariant_of-layers : goal.invariant_of-layers
invariant_of-layers c = let u = c.requires.rooms in
    record { fit = fit_of (layers_ok c.requires.input (c.cost_rows.auto.zs ∙ u.0) (c.cost_rows.auto.os ∙ u.1) c.requires.columns c.cost_rows.ensures) }

pub returns-clause-layered : goal.returns-clause-layered
returns-clause-layered c = let u = c.requires.rooms in
    layered c.requires.input (c.cost_rows.auto.zs ∙ u.0) (c.cost_rows.auto.os ∙ u.1) c.requires.columns c.cost_rows.ensures
