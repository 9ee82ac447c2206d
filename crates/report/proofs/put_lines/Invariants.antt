-- `report::put_lines`: the lines so far, and the place of the next question.
-- Assumes nothing.
use Rattle.basics.proofs.Kit.{◌≡◌, length}
use Rattle.metric.specs.Scratch.{scratch_long}
use Rattle.report.proofs.Passing.{WalkedSheet}
use Rattle.report.proofs.put_lines.Given as goal

abbrev pub invariant-loop : goal.invariant-loop
invariant-loop l = record { walked : WalkedSheet l.sheet l.initial.writer l.writer l.at l.counter; scratch_len : length l.scratch ≡ scratch_long }
