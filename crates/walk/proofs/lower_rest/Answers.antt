-- The other two rows, or the last one.
use Rattle.std.proofs.Common.{◌≡◌, List, ℕ, ap, ◌∙◌, arith, rules}
use Rattle.lanes.specs.Lanes.{lane}
use Rattle.walk.specs.Turns.{low, lows}
use Rattle.walk.proofs.Rows.{asked_rows}
use Rattle.walk.proofs.lower_rest.Goals as goal

pub returns-then-w-eq3 : goal.returns-then-w-eq3
unfolding lows
returns-then-w-eq3 g c =
    let count : c.args.w ≡ 3 = omega arith in
    rw count (asked_rows c.args.g.now c.args.a c.args.t 3 1 c.lower.ensures (search rules))

pub returns-else-w-eq3 : goal.returns-else-w-eq3
unfolding lows
returns-else-w-eq3 g c =
    let two = c.lower-else-w-eq3-2.ensures ∙ ap (λ (g : List ℕ). low g (lane c.args.a 3) c.args.t) c.lower-else-w-eq3.ensures in
    let count : c.args.w ≡ 2 = omega arith in
    rw count (asked_rows c.args.g.now c.args.a c.args.t 2 2 two (search rules))
