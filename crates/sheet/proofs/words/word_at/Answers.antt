-- `sheet::word_at`: four bytes, or past the last word.
-- Assumes nothing.
use Rattle.basics.proofs.Kit.{sym, arith}
use Rattle.sheet.proofs.Bytes.{no_word, word_at}
use Rattle.sheet.proofs.words.word_at.Goals as goal

pub returns-then-sheet-i : goal.returns-then-sheet-i
returns-then-sheet-i c = sym (no_word c.args.sheet.now c.args.i c.if-sheet-i.true)

pub returns : goal.returns
returns c = omega (arith, word_at c.args.sheet.now c.args.i c.if-sheet-i.false, c.from_le_bytes.ensures)
