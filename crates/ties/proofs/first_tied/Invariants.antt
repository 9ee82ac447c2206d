use Rattle.std.proofs.Common.{◌*◌, ◌<◌, ◌-◌}
use Rattle.walk.specs.Turns.{Standing}
use Rattle.ties.proofs.Firsts.{Tied}
use Rattle.ties.proofs.first_tied.Given as goal

abbrev pub invariant-loop-k : goal.invariant-loop-k
invariant-loop-k l = record {
  within : l.k < l.n;
  standing : Standing l.f l.sl l.st l.k l.a;
  tied : Tied l.n l.f l.sl l.st l.w l.least (l.k * 16) l.best;
}

abbrev pub decreases-loop-k : goal.decreases-loop-k
decreases-loop-k l = l.n - l.k
