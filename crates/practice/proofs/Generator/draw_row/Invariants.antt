-- `practice::Generator::draw_row`: the state after so many draws, and what was drawn.
-- Assumes nothing.
use Rattle.basics.proofs.Kit.{◌≡◌, take}
use Rattle.practice.specs.Practice.{row_drawn, after}
use Rattle.practice.proofs.Generator.draw_row.Given as goal

abbrev pub invariant-loop-place : goal.invariant-loop-place
invariant-loop-place l = record {
  state : l.self.state ≡ after l.place-index l.initial.self.state;
  drawn : take l.place-index l.row ≡ row_drawn l.place-index l.initial.self.state;
}
