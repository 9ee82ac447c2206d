-- Two rows or three, lowered one after the other.
use Rattle.std.proofs.Common.{◌≡◌, List, ℕ, ap, ◌∙◌, arith, rules}
use Rattle.lanes.specs.Lanes.{lane}
use Rattle.walk.specs.Turns.{low, lows}
use Rattle.walk.proofs.Rows.{asked_rows}
use Rattle.walk.proofs.lower_first.Goals as goal

pub returns-then-w-eq3 : goal.returns-then-w-eq3
unfolding lows
returns-then-w-eq3 g c =
    let two = c.lower-then-this-ne0.ensures ∙ ap (λ (g : List ℕ). low g (lane c.args.a 1) c.args.t) c.lower.ensures in
    let three = c.lower-then-w-eq3.ensures ∙ ap (λ (g : List ℕ). low g (lane c.args.a 2) c.args.t) two in
    let count : c.args.w ≡ 3 = omega arith in
    rw count (asked_rows c.args.g.now c.args.a c.args.t 0 3 three (search rules))

pub returns-else-w-eq3 : goal.returns-else-w-eq3
unfolding lows
returns-else-w-eq3 g c =
    let two = c.lower-then-this-ne0.ensures ∙ ap (λ (g : List ℕ). low g (lane c.args.a 1) c.args.t) c.lower.ensures in
    let count : c.args.w ≡ 2 = omega arith in
    rw count (asked_rows c.args.g.now c.args.a c.args.t 0 2 two (search rules))
