-- The sum so far and the columns of the rest of the layer make the sum of all of them.
use Rattle.std.proofs.Common.{◌≡◌, length, drop}
use Rattle.field.specs.Field.{xor}
use Rattle.split.specs.Split.{layer, columns_from}
use Rattle.split.proofs.syndrome_of.Given as goal

abbrev pub invariant-loop-symbol : goal.invariant-loop-symbol
invariant-loop-symbol l =
    (goal.iterator-loop-symbol).can_next l.symbol-iterator × (goal.iterator-loop-symbol).is_finite l.symbol-iterator
    × (xor l.sum (columns_from l.shape.m 6 (length l.yielded) (drop (length l.yielded) (layer l.j l.word)))
    ≡ columns_from l.shape.m 6 0 (layer l.j l.word))
