use Rattle.coset.specs.Runs.{Restored}
use Rattle.coset.proofs.restore.Given as goal

abbrev pub invariant-loop-k : goal.invariant-loop-k
invariant-loop-k l = Restored l.kept l.k l.fn.g l.g
