-- `sheet_reader::question_of`: a refused sheet, or the place of the question in an accepted one.
-- Assumes nothing.
use Rattle.basics.proofs.Kit.{arith}
use Rattle.refusal.proofs.Results.{handed_on}
use Rattle.sheet.proofs.Forms.{rows_here}
use Rattle.sheet_reader.proofs.Places.{judged_large, number_small}
use Rattle.sheet_reader.proofs.Choice.{place_there, refused, choice}
use Rattle.sheet_reader.proofs.question_of.Goals as goal

pub returns-in_err-judge_sheet : goal.returns-in_err-judge_sheet
returns-in_err-judge_sheet c =
    rw (handed_on c.from_residual.result _ c.from_residual.ensures.1)
    (refused c.args.sheet.now c.args.index _ c.args.row.now c.args.word.now c.in_err-judge_sheet.ensures (number_small _))

pub question_at-requires : goal.question_at-requires
question_at-requires c =
    let bs = c.args.sheet.now in (c.args.index, rw (rw (rows_here _) at c.place_of-at.ensures) (place_there bs c.args.index (judged_large bs (omega (arith, c.in_ok-judge_sheet.ensures)))))

pub returns : goal.returns
returns c =
    let bs = c.args.sheet.now in
    choice (rw (rw (rows_here _) at c.place_of-at.ensures) (place_there bs c.args.index (judged_large bs (omega (arith, c.in_ok-judge_sheet.ensures))))) c.question_at.ensures
