use Rattle.coset.specs.Runs.{Copied}
use Rattle.coset.proofs.copy.Given as goal

abbrev pub invariant-loop-k : goal.invariant-loop-k
invariant-loop-k l = Copied l.t l.at l.k l.fn.kept l.kept
