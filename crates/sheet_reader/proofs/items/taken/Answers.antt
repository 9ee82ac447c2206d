-- `sheet_reader::taken`: of the next word, or of the one that was begun.
-- Assumes nothing.
use Rattle.basics.proofs.Kit.{ap, ◌∙◌}
use Rattle.sheet.specs.Sheet.{body}
use Rattle.sheet_reader.proofs.Reading.{taken_new, taken_on}
use Rattle.sheet_reader.proofs.items.taken.Goals as goal

pub returns-then-s-eq0 : goal.returns-then-s-eq0
returns-then-s-eq0 c = taken_new _ _ _ _ c.if-s-eq0.true (c.body_of-v.ensures ∙ ap body c.word_at.ensures)

pub returns : goal.returns
returns c = taken_on _ _ _ c.if-s-eq0.false
