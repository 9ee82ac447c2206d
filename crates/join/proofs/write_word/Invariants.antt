-- So many layers are written.
use Rattle.join.proofs.Joining.{Written}
use Rattle.join.proofs.write_word.Given as goal

abbrev pub invariant-loop-j : goal.invariant-loop-j
invariant-loop-j l = Written l.shape.m l.shape.r l.configuration l.bch l.word l.j
