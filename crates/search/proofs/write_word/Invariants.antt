-- The symbols before position i are written.
use Rattle.search.proofs.Wording.{Writing}
use Rattle.search.proofs.write_word.Given as goal

abbrev pub invariant-loop-i : goal.invariant-loop-i
invariant-loop-i l = Writing l.last l.words l.word l.i
