-- `search::of_row` meets its contract.
-- Assumes nothing.
use Rattle.basics.proofs.Kit.{◌∙◌}
use Rattle.coset.proofs.Fitting.{fit_of}
use Rattle.search.proofs.Tabling.{costs_ok, layers_ok, layered, room_ok}
use Rattle.search.proofs.of_row.Goals as goal

pub cost_rows-requires : goal.cost_rows-requires
cost_rows-requires c = costs_ok c.requires.input c.requires.buffers.length_zs c.requires.buffers.length_os

pub invariant_of-layers : goal.invariant_of-layers
invariant_of-layers c = let u = c.requires.buffers in
    record { fit = fit_of (layers_ok c.requires.input (c.cost_rows.auto.zs ∙ u.length_zs) (c.cost_rows.auto.os ∙ u.length_os) c.requires.columns c.cost_rows.ensures) }

pub make-requires : goal.make-requires
make-requires c = let u = c.requires.buffers in
    room_ok c.requires.input (c.cost_rows.auto.zs ∙ u.length_zs) (c.cost_rows.auto.os ∙ u.length_os) c.requires.columns c.cost_rows.ensures u.length_t u.length_g u.length_kept

pub returns-clause-tabled : goal.returns-clause-tabled
returns-clause-tabled c = let u = c.requires.buffers in record {
  layered = layered c.requires.input (c.cost_rows.auto.zs ∙ u.length_zs) (c.cost_rows.auto.os ∙ u.length_os) c.requires.columns c.cost_rows.ensures;
  keys = c.make.ensures.keys;
  tables = c.make.ensures.kept;
}
