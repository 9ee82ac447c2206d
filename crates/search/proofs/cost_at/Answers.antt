-- `search::cost_at` meets its contract.
-- Assumes nothing.
use Rattle.basics.proofs.Kit.{◌∙◌, get_or}
use Rattle.search.proofs.Sums.{symbol_ok, from_rows}
use Rattle.search.proofs.cost_at.Goals as goal

pub symbol_cost-requires : goal.symbol_cost-requires
symbol_cost-requires c = rw (c.load.ensures, c.load-2.ensures) (symbol_ok c.requires.own c.args.i c.requires.i_in_bounds)

pub returns : goal.returns
returns c = let a = c.args in
    let e = rw (c.load.ensures, c.load-2.ensures) at c.symbol_cost.ensures.0 in
    (e ∙ from_rows a.zs.now a.os.now a.i (get_or a.word.now a.i 0), c.symbol_cost.ensures.1)
