-- So many pieces are written, and the output behind them is as it was.
use Rattle.std.proofs.Common.{◌≡◌, ◌++◌, ◌*◌, length, take, drop}
use Rattle.split.proofs.Whole.{whole}
use Rattle.split.proofs.write_layers.Given as goal

abbrev pub invariant-loop-j : goal.invariant-loop-j
invariant-loop-j l = l.bch ≡ take (l.j * length l.word) (whole l.shape.m l.shape.r l.word) ++ drop (l.j * length l.word) l.fn.bch
