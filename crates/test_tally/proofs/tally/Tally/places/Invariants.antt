-- What is counted, with the comparisons that are left, is all of them.
use Rattle.std.proofs.Common.{◌≡◌, drop}
use Rattle.test_tally.specs.Tally.{compared}
use Rattle.test_tally.proofs.tally.Tally.places.Given as goal

abbrev pub invariant-loop-i : goal.invariant-loop-i
invariant-loop-i l = compared l.layered l.i (drop l.i l.found) l.expected l.t ≡ compared l.layered 0 l.found l.expected l.initial.t
