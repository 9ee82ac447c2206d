use Rattle.coset.specs.Runs.{Numbered}
use Rattle.coset.proofs.key_tails.Given as goal

abbrev pub invariant-loop-s : goal.invariant-loop-s
invariant-loop-s l = Numbered l.g l.s l.t
