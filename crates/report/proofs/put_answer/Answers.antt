-- `report::put_answer`: the decoder takes the row, the marker the best metric that it found, and their answers make the line.
-- Assumes nothing.
use Rattle.basics.proofs.Kit.{sym}
use mir.Syntax.{w32}
use mir.Val.{SFits}
use mir.Facts.{to_z-of_z}
use lib.Seq.{length-take-le}
use Rattle.sheet.proofs.Forms.{bits_le, n_le}
use Rattle.report.proofs.Answering.{accepted, taken, line, room, put_line}
use Rattle.report.proofs.put_answer.Goals as goal

pub slice_bounds-best_room-end : goal.slice_bounds-best_room-end
slice_bounds-best_room-end c = n_le c.numbered-shape.result

pub slice_bounds-best-end : goal.slice_bounds-best-end
slice_bounds-best-end c = sym (length-take-le _ _ (n_le c.numbered-shape.result))

pub slice_bounds-soft_room-end : goal.slice_bounds-soft_room-end
slice_bounds-soft_room-end c = bits_le c.numbered-shape.result

pub slice_bounds-soft-end : goal.slice_bounds-soft-end
slice_bounds-soft-end c = sym (length-take-le _ _ (bits_le c.numbered-shape.result))

pub decode_accepted-metric-requires : goal.decode_accepted-metric-requires
decode_accepted-metric-requires c =
    let s = c.numbered-shape.result in
    accepted _ c.requires.good c.numbered-shape.result c.numbered-shape.ensures.m c.numbered-shape.ensures.r
    (length-take-le _ _ (n_le s)) (length-take-le _ _ (bits_le s)) c.requires.scratch_len

pub verdict_on_word-verdict-requires-clause-accepted : goal.verdict_on_word-verdict-requires-clause-accepted
verdict_on_word-verdict-requires-clause-accepted c =
    taken _ c.requires.good c.numbered-shape.result c.numbered-shape.ensures.m c.numbered-shape.ensures.r

pub put_question-requires : goal.put_question-requires
put_question-requires c =
    let d = c.decode_accepted-metric in
    let f : SFits w32 c.shortfall-shortfall.result = record { sfits = c.shortfall-shortfall.type_inv } in
    rw (c.number.ensures, to_z-of_z f, c.shortfall-shortfall.ensures)
    (room _ c.requires.good c.args.writer.now
    (line _ c.requires.good c.numbered-shape.result c.numbered-shape.ensures.m c.numbered-shape.ensures.r c.verdict_on_word-verdict.result
    (to_z-of_z {w = w32} (record { sfits = d.type_inv })) d.ensures c.verdict_on_word-verdict.ensures)
    c.requires.line_most_in_bounds)

pub returns : goal.returns
returns c =
    let d = c.decode_accepted-metric in
    let f : SFits w32 c.shortfall-shortfall.result = record { sfits = c.shortfall-shortfall.type_inv } in
    put_line _ c.requires.good
    (line _ c.requires.good c.numbered-shape.result c.numbered-shape.ensures.m c.numbered-shape.ensures.r c.verdict_on_word-verdict.result
    (to_z-of_z {w = w32} (record { sfits = d.type_inv })) d.ensures c.verdict_on_word-verdict.ensures)
    (rw (c.number.ensures, to_z-of_z f, c.shortfall-shortfall.ensures) at c.put_question.ensures)
