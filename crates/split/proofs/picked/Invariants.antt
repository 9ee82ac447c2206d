-- The sum so far, and that of the rest of the table at the rest of the bits.
use Rattle.std.proofs.Common.{◌≡◌, drop}
use Rattle.field.specs.Field.{xor}
use Rattle.split.specs.Members.{picked}
use Rattle.split.proofs.picked.Given as goal

abbrev pub invariant-loop-number : goal.invariant-loop-number
invariant-loop-number l = xor l.sum (picked (drop l.number-index l.table) l.rest) ≡ picked l.table l.k
