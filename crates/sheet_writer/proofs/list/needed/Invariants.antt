-- `sheet_writer::needed`: the words of the codes so far, and of those that are left.
-- Assumes nothing.
use Rattle.basics.proofs.Kit.{◌≡◌, ◌+◌, drop}
use Rattle.sheet_writer.specs.Within.{words_needed}
use Rattle.sheet_writer.proofs.list.needed.Given as goal

abbrev pub invariant-loop-code : goal.invariant-loop-code
invariant-loop-code l = l.total + words_needed l.f (drop l.code-index l.codes) ≡ words_needed l.f l.codes
