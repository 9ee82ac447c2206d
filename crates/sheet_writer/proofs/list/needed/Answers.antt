-- `sheet_writer::needed`: one question's words more.
-- Assumes nothing.
use Rattle.basics.proofs.Kit.{arith, get_or}
use Rattle.sheet.proofs.Forms.{question_long_le}
use Rattle.sheet_writer.proofs.Lists.{needed_step, needed_none, needed_le}
use Rattle.sheet_writer.proofs.list.needed.Goals as goal

pub overflow_add-total : goal.overflow_add-total
overflow_add-total c = omega (arith, c.question_words_of.ensures, question_long_le c.args.f (get_or c.args.codes.now c.loop-code.code-index 0))

pub overflow_add-total-in-loop-code : goal.overflow_add-total-in-loop-code
overflow_add-total-in-loop-code c =
    omega (
      arith,
      c.question_words_of.ensures,
      c.loop-code.invariant,
      needed_step c.args.f c.args.codes.now c.loop-code.code-index c.loop-code-test.true,
      needed_le c.args.f c.args.codes.now,
    )

pub loop-code-preserved : goal.loop-code-preserved
loop-code-preserved c =
    omega (arith, c.question_words_of.ensures, c.loop-code.invariant, needed_step c.args.f c.args.codes.now c.loop-code.code-index c.loop-code-test.true)

pub returns : goal.returns
returns c = omega (arith, c.loop-code.invariant, needed_none c.args.f c.args.codes.now c.loop-code.code-index c.loop-code-test.false)
