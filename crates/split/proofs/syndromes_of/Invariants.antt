-- So many places of the tuple, and zeros behind them.
use Rattle.std.proofs.Common.{◌≡◌, ◌++◌, take, drop, replicate}
use Rattle.split.specs.Split.{syndromes}
use Rattle.split.proofs.syndromes_of.Given as goal

abbrev pub invariant-loop-j : goal.invariant-loop-j
invariant-loop-j l = l.to ≡ take l.j (syndromes l.shape.m l.shape.r l.word) ++ drop l.j (replicate 4 0)
