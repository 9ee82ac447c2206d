-- `practice::Generator::draw_questions`: after so many questions the state that is left, the questions still to draw, and the output so far.
-- Assumes nothing.
use Rattle.basics.proofs.Kit.{◌≡◌, ◌+◌, ◌-◌, ◌*◌, drop}
use Rattle.code.specs.Code.{width}
use Rattle.code.specs.Bits.{row_long}
use Rattle.sheet.specs.Sheet.{reliabilities}
use Rattle.sheet_writer.proofs.Writing.{Begun}
use Rattle.practice.specs.Practice.{after, drawn_from, drawn}
use Rattle.practice.proofs.Generator.draw_questions.Given as goal

abbrev pub invariant-loop-i : goal.invariant-loop-i
invariant-loop-i l = record {
  state : l.self.state ≡ after (l.i * row_long (width l.code)) l.initial.self.state;
  left : drop l.i (drawn l.code l.count l.initial.self.state) ≡ drawn_from (l.i + 1) l.code (l.count - l.i) l.self.state;
  written : Begun reliabilities (drawn l.code l.count l.initial.self.state) l.initial.output l.i l.at l.output;
}
