-- `report::put_next`: what is read at the place is the question that stands there.
-- Assumes nothing.
use Rattle.basics.proofs.Kit.{sym, ap, ◌∙◌}
use lib.Seq.{length-take-le}
use Rattle.sheet.proofs.Forms.{bits_le, n_le}
use Rattle.std.specs.Prelude.{Ok}
use Rattle.report.proofs.Passing.{code_is, found, good, passed}
use Rattle.report.proofs.put_next.Goals as goal

pub slice_bounds-row_room-end : goal.slice_bounds-row_room-end
slice_bounds-row_room-end c = bits_le c.numbered-shape.result

pub slice_bounds-row-end : goal.slice_bounds-row-end
slice_bounds-row-end c = sym (length-take-le _ _ (bits_le c.numbered-shape.result))

pub slice_bounds-word_room-end : goal.slice_bounds-word_room-end
slice_bounds-word_room-end c = n_le c.numbered-shape.result

pub slice_bounds-word-end : goal.slice_bounds-word-end
slice_bounds-word-end c = sym (length-take-le _ _ (n_le c.numbered-shape.result))

pub put_answer-requires-clause-good : goal.put_answer-requires-clause-good
put_answer-requires-clause-good c =
    let s = c.numbered-shape.result in
    good s c.requires.begins.1 (code_is c.args.sheet.now c.args.at.now c.numbered-shape.ensures.m c.head_code_of.ensures c.word_at.ensures)
    (length-take-le _ _ (bits_le s)) (length-take-le _ _ (n_le s)) c.question_at.ensures (c.in-Ok-Some.is ∙ ap Ok c.in-Ok-Some.field-0-is)

pub returns-in-Ok-Some : goal.returns-in-Ok-Some
returns-in-Ok-Some c =
    let s = c.numbered-shape.result in
    passed s c.requires.begins.1 (code_is c.args.sheet.now c.args.at.now c.numbered-shape.ensures.m c.head_code_of.ensures c.word_at.ensures)
    (length-take-le _ _ (bits_le s)) (length-take-le _ _ (n_le s)) c.question_at.ensures (c.in-Ok-Some.is ∙ ap Ok c.in-Ok-Some.field-0-is) c.put_answer.ensures

pub returns : goal.returns
returns c =
    let s = c.numbered-shape.result in
    let f =
    found s c.requires.begins.1 (code_is c.args.sheet.now c.args.at.now c.numbered-shape.ensures.m c.head_code_of.ensures c.word_at.ensures)
    (length-take-le _ _ (bits_le s)) (length-take-le _ _ (n_le s)) c.question_at.ensures in
    absurd (cc f)

pub returns-2 : goal.returns-2
returns-2 c =
    let s = c.numbered-shape.result in
    let f =
    found s c.requires.begins.1 (code_is c.args.sheet.now c.args.at.now c.numbered-shape.ensures.m c.head_code_of.ensures c.word_at.ensures)
    (length-take-le _ _ (bits_le s)) (length-take-le _ _ (n_le s)) c.question_at.ensures in
    absurd (cc f)
