-- `sheet_writer::write_sheet`: refused, or written.
-- Assumes nothing.
use Rattle.basics.proofs.Kit.{refl}
use Rattle.refusal.proofs.Outcomes.{outcome_done}
use Rattle.refusal.proofs.Results.{handed_on, refused, taken}
use Rattle.sheet.proofs.Forms.{row_form, rows_here}
use Rattle.sheet.specs.Sheet.{reliabilities}
use Rattle.sheet_writer.specs.Calls.{WriteSays}
use Rattle.sheet_writer.proofs.Writing.{accepted}
use Rattle.sheet_writer.proofs.write_sheet.Goals as goal

pub returns-in_err-check_write : goal.returns-in_err-check_write
unfolding WriteSays
returns-in_err-check_write c =
    rw (handed_on c.from_residual.result _ c.from_residual.ensures.1) (refused c.check_write.result _ (rw (rows_here _) at c.check_write.ensures) _ _ _ c.in_err-check_write.was refl)

pub write_list-requires : goal.write_list-requires
write_list-requires c = rw (rows_here _) (accepted reliabilities row_form _ _ _ _ _ (taken c.check_write.result _ (rw (rows_here _) at c.check_write.ensures) _ c.in_ok-check_write.was))

pub returns : goal.returns
unfolding WriteSays
returns c = outcome_done _ _ _ _ (taken c.check_write.result _ (rw (rows_here _) at c.check_write.ensures) _ c.in_ok-check_write.was) refl (rw (rows_here _) at c.write_list.ensures)
