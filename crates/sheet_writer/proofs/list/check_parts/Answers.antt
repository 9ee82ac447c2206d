-- `sheet_writer::check_parts`: what is tested is there.
-- Assumes nothing.
use Rattle.basics.proofs.Kit.{sym, ◌∙◌}
use lib.Seq.{length-take-le}
use Rattle.code.proofs.Accepted.{narrow}
use Rattle.sheet.proofs.Checks.{held}
use Rattle.sheet_writer.proofs.Lists.{enough}
use Rattle.sheet_writer.proofs.list.check_parts.Goals as goal

pub slice_bounds-is_row-end : goal.slice_bounds-is_row-end
slice_bounds-is_row-end c =
    sym (length-take-le _ _ (enough _ _ _ (sym c.is_enough.ensures ∙ held _ _ c.ensure.result c.ensure.ensures _ c.in_ok-ensure.was)))

pub slice_bounds-symbols_good-end : goal.slice_bounds-symbols_good-end
slice_bounds-symbols_good-end c =
    sym (length-take-le _ _ (enough _ _ _ (sym c.is_enough-2.ensures ∙ held _ _ c.ensure-2.result c.ensure-2.ensures _ c.in_ok-ensure-2.was)))

pub symbols_good-requires : goal.symbols_good-requires
symbols_good-requires c = narrow c.args.shape.numbers.width_is
