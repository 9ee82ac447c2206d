-- `sheet_reader::read_item`: what was taken, at its place.
-- Assumes nothing.
use Rattle.basics.proofs.Kit.{ap, ◌∙◌, set}
use mir.Syntax.{w16}
use mir.Facts.{to_z-of_z}
use Rattle.sheet_reader.proofs.items.read_item.Goals as goal

pub returns-clause-row_after : goal.returns-clause-row_after
returns-clause-row_after c = ap (set c.args.row.now c.args.i) (to_z-of_z {w = w16} (record { sfits = c.signed.type_inv }) ∙ c.signed.ensures)
