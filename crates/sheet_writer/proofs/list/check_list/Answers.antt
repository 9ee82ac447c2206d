-- `sheet_writer::check_list`: a question, then the rest; at the end nothing is left over.
-- Assumes nothing.
use Rattle.basics.proofs.Kit.{refl, sym, ap, ◌∙◌, arith}
use Rattle.refusal.specs.Refusal.{unless, number_of}
use Rattle.refusal.proofs.Results.{taken}
use Rattle.sheet.proofs.Checks.{stopped, passed_on, failed, held}
use Rattle.sheet_writer.proofs.Lists.{row_of_code, word_of_code, list_step, list_end, tested}
use Rattle.sheet_writer.proofs.Writing.{room}
use Rattle.sheet_writer.proofs.list.check_list.Goals as goal

pub returns-in_err-check_question : goal.returns-in_err-check_question
returns-in_err-check_question c =
    let q = c.args.questions in
    stopped c.check_question.result _ _ c.check_question.ensures _ _ c.in_err-check_question.was c.from_residual.ensures.1
    ∙ sym (c.loop-i.invariant ∙ list_step c.args.f q.codes.now q.numbers.now c.loop-i.i c.loop-i.rows.now c.loop-i.symbols.now c.loop-i-test.true (omega arith))

pub split_at-requires : goal.split_at-requires
split_at-requires c =
    let e = taken c.check_question.result _ c.check_question.ensures _ c.in_ok-check_question.was in
    rw (row_of_code _ c.numbered-shape.result c.numbered-shape.ensures.m) (room c.args.f _ _ _ _ _ e).0

pub split_at-requires-in-loop-i : goal.split_at-requires-in-loop-i
split_at-requires-in-loop-i c =
    let e = taken c.check_question.result _ c.check_question.ensures _ c.in_ok-check_question.was in
    rw (word_of_code _ c.numbered-shape.result c.numbered-shape.ensures.m) (room c.args.f _ _ _ _ _ e).1

pub loop-i-preserved : goal.loop-i-preserved
loop-i-preserved c =
    let q = c.args.questions in
    let s = list_step c.args.f q.codes.now q.numbers.now c.loop-i.i c.loop-i.rows.now c.loop-i.symbols.now c.loop-i-test.true (omega arith) in
    let m = c.numbered-shape.ensures.m in
    rw (
      c.split_at.ensures.back,
      c.split_at-in-loop-i.ensures.back,
      row_of_code _ c.numbered-shape.result m,
      word_of_code _ c.numbered-shape.result m,
    )
    (c.loop-i.invariant ∙ s ∙ sym (passed_on c.check_question.result _ _ c.check_question.ensures _ c.in_ok-check_question.was))

pub returns-in_err-ensure : goal.returns-in_err-ensure
unfolding unless
returns-in_err-ensure c =
    let q = c.args.questions in
    let e = c.from_residual-in_err-ensure in
    let t = failed _ _ c.ensure.result c.ensure.ensures _ e.result c.in_err-ensure.was e.ensures.1 in
    ap number_of t.1 ∙ sym (c.loop-i.invariant ∙ list_end c.args.f q.codes.now q.numbers.now c.loop-i.i c.loop-i.rows.now c.loop-i.symbols.now c.loop-i-test.false ∙ rw t.0 refl)

pub returns : goal.returns
unfolding unless
returns c =
    let q = c.args.questions in
    let t = held _ _ c.ensure.result c.ensure.ensures _ c.in_ok-ensure.was in
    tested _ _ c.ensure-2.result c.ensure-2.ensures
    ∙ sym (c.loop-i.invariant ∙ list_end c.args.f q.codes.now q.numbers.now c.loop-i.i c.loop-i.rows.now c.loop-i.symbols.now c.loop-i-test.false ∙ rw t refl)
