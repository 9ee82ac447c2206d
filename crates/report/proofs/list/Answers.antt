-- `report::list`: a refused sheet has its one line, any other the header, the lines and the count, and each finds room.
-- Assumes nothing.
use Rattle.basics.proofs.Kit.{sym, ◌∙◌, rules}
use Rattle.refusal.proofs.Results.{handed_on}
use Rattle.report.proofs.Whole.{wrong_length, starts, refused_room, refused, counted, handed_back, header_room, lines_room, count_room, accepted}
use Rattle.report.proofs.list.Goals as goal
use Rattle.report.proofs.list.Goals.{in-Err, in-Ok}

pub returns-in_err-ensure : goal.returns-in_err-ensure
returns-in_err-ensure c =
    rw (handed_on c.from_residual.result _ c.from_residual.ensures.1) (wrong_length c.args.sheet.now c.args.out.now _ (sym c.ensure.ensures ∙ c.in_err-ensure.was))

pub put_refused-requires : goal.put_refused-requires
put_refused-requires c =
    let s = starts (sym c.ensure.ensures ∙ c.in_ok-ensure.was) c.new-writer.ensures.same_buffer c.new-writer.ensures.start in
    rw c.number.ensures (refused_room s c.in-Err.refusal)

pub put_header-requires : goal.put_header-requires
put_header-requires c = header_room (starts (sym c.ensure.ensures ∙ c.in_ok-ensure.was) c.new-writer.ensures.same_buffer c.new-writer.ensures.start)

pub put_lines-requires-clause-sheet_taken : goal.put_lines-requires-clause-sheet_taken
put_lines-requires-clause-sheet_taken c = counted (λ i _. (c.type_inv.sheet i).fits) c.in-Ok.ensures

pub put_lines-requires-clause-line_most_in_bounds : goal.put_lines-requires-clause-line_most_in_bounds
put_lines-requires-clause-line_most_in_bounds c =
    let s = starts (sym c.ensure.ensures ∙ c.in_ok-ensure.was) c.new-writer.ensures.same_buffer c.new-writer.ensures.start in
    lines_room (counted (λ i _. (c.type_inv.sheet i).fits) c.in-Ok.ensures) s c.put_header.ensures

pub put_count-requires : goal.put_count-requires
put_count-requires c =
    let s = starts (sym c.ensure.ensures ∙ c.in_ok-ensure.was) c.new-writer.ensures.same_buffer c.new-writer.ensures.start in
    count_room (counted (λ i _. (c.type_inv.sheet i).fits) c.in-Ok.ensures) s c.put_header.ensures c.put_lines.ensures

pub returns : goal.returns
returns c =
    let s = starts {w = c.new-writer.result} (sym c.ensure.ensures ∙ c.in_ok-ensure.was) c.new-writer.ensures.same_buffer c.new-writer.ensures.start in
    elim c.match-judge_sheet.branch [
      | in-Err w ↦ handed_back _ _ c.match-judge_sheet.writer _ (search rules) (rw w.writer-is (refused s w.in-Err.refusal c.args.sheet.now w.in-Err.ensures (rw w.number.ensures at w.put_refused.ensures)))
      | in-Ok w ↦
          handed_back _ _ c.match-judge_sheet.writer _ (search rules)
          (rw w.writer-is (accepted (counted (λ i _. (c.type_inv.sheet i).fits) w.in-Ok.ensures) s w.put_header.ensures w.put_lines.ensures w.put_count.ensures))
    ]
