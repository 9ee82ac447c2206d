-- `report::put_lines`: so many questions are passed, and their lines stand in the output.
-- Assumes nothing.
use Rattle.basics.proofs.Kit.{◌∙◌}
use Rattle.report.proofs.Passing.{walk_first, walk_asked, walk_room, walk_more}
use Rattle.report.proofs.put_lines.Goals as goal

pub loop-init : goal.loop-init
loop-init c = record { walked = walk_first c.requires.sheet_taken c.requires.line_most_in_bounds; scratch_len = c.requires.scratch_len }

pub put_next-requires-clause-begins : goal.put_next-requires-clause-begins
put_next-requires-clause-begins c =
    (c.loop.counter, walk_asked c.requires.sheet_taken c.requires.line_most_in_bounds c.loop.invariant.walked c.loop-test.true)

pub put_next-requires-clause-line_most_in_bounds : goal.put_next-requires-clause-line_most_in_bounds
put_next-requires-clause-line_most_in_bounds c = walk_room c.requires.sheet_taken c.requires.line_most_in_bounds c.loop.invariant.walked c.loop-test.true

pub loop-preserved : goal.loop-preserved
loop-preserved c = record {
  walked = walk_more c.requires.sheet_taken c.requires.line_most_in_bounds c.loop.invariant.walked c.loop-test.true c.put_next.ensures;
  scratch_len = c.put_next.auto.scratch ∙ c.loop.invariant.scratch_len;
}
