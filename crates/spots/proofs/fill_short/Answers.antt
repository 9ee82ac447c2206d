-- Four slots, one after the other.
-- Assumes nothing.
use Rattle.spots.proofs.Short.{with_columns, all_put}
use Rattle.spots.proofs.fill_short.Goals as goal

pub returns : goal.returns
returns c =
    all_put c.args.w c.args.places.now c.requires
    (with_columns 0 c.fill_eight.ensures c.short_column.ensures c.short_column-2.ensures c.short_column-3.ensures)
    (with_columns 1 c.fill_eight-2.ensures c.short_column-4.ensures c.short_column-5.ensures c.short_column-6.ensures)
    (with_columns 2 c.fill_eight-3.ensures c.short_column-7.ensures c.short_column-8.ensures c.short_column-9.ensures)
    c.fill_eight-4.ensures
