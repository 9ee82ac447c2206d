-- Round by round: what the turns of a round ask and leave, and what the rounds leave.
use Rattle.std.proofs.Common.{◌≡◌, refl, ◌∙◌, ◌+◌, ◌*◌, ◌/◌, arith}
use Rattle.walk.proofs.Turns.{begins, movable, arrives, stands, movers_few}
use Rattle.walk.proofs.Blocks.{block_least}
use Rattle.walk.proofs.Rounds.{starts, fits, turn_below, all_turns, some_turns, as_one, round_start, places_in, lowered_first, first_least, least_more, turn_over, round_more, last_places, lowered_rest, round_end, all_marginals}
use Rattle.walk.proofs.walk_any.Goals as goal

pub first-a-requires : goal.first-a-requires
first-a-requires g c = begins c.requires.slots.0

pub loop-r-init : goal.loop-r-init
loop-r-init g c =
    let r = c.requires in
    starts r.slots.0 r.slots.1 (omega arith) r.small_cap r.blank (c.first-a.ensures c.args.st.now)

pub at_turn-b-requires : goal.at_turn-b-requires
at_turn-b-requires g c some = movable c.requires.slots.0 some (turn_below c.requires.slots.0 c.requires.slots.1 c.loop-r.r refl c.loop-r-test.true) c.loop-r.invariant.standing

pub lower_first-requires-clause-two_or_three : goal.lower_first-requires-clause-two_or_three
lower_first-requires-clause-two_or_three g c =
    let few = movers_few c.args.st.now in (omega (arith, c.movers_of-w.ensures, few.0), omega (arith, c.movers_of-w.ensures, few.1))

pub lower_first-requires-clause-rows_inside : goal.lower_first-requires-clause-rows_inside
lower_first-requires-clause-rows_inside g c =
    let w = c.requires.slots.0 in
    let r = c.requires.slots.1 in
    let k = c.loop-r.invariant in
    let t = round_start w r c.loop-r.r refl c.loop-r-test.true k (arrives w k.standing c.at_turn-b.ensures.value c.at_turn-b.ensures.moved) in
    places_in w r c.loop-r.r refl c.loop-r-test.true t

pub loop-i-init : goal.loop-i-init
loop-i-init g c =
    let w = c.requires.slots.0 in
    let r = c.requires.slots.1 in
    let k = c.loop-r.invariant in
    let t = round_start w r c.loop-r.r refl c.loop-r-test.true k (arrives w k.standing c.at_turn-b.ensures.value c.at_turn-b.ensures.moved) in
    turn_over w r c.loop-r.r refl c.loop-r-test.true t (λ s. lowered_first w r c.loop-r.r refl c.loop-r-test.true t s (rw c.movers_of-w.ensures at c.lower_first.ensures)) (first_least w r c.loop-r.r refl c.loop-r-test.true t refl)

pub turn-b-requires-clause-movable : goal.turn-b-requires-clause-movable
turn-b-requires-clause-movable g c =
    let w = c.requires.slots.0 in
    let r = c.requires.slots.1 in
    let k = c.loop-r.invariant in
    let i = c.loop-i.invariant in
    movable w (omega (arith, i.from)) (omega (arith, fits w r c.loop-r.r refl c.loop-r-test.true)) i.standing

pub turn-b-requires-clause-together : goal.turn-b-requires-clause-together
turn-b-requires-clause-together g c =
    let w = c.requires.slots.0 in
    let r = c.requires.slots.1 in
    let k = c.loop-r.invariant in
    let i = c.loop-i.invariant in
    rw c.movers_of-w.ensures (as_one w r c.loop-r.r refl c.loop-r-test.true c.loop-i.i (omega (arith, i.from)) c.loop-i-test.true)

pub lower_first-requires-in-loop-i-clause-rows_inside : goal.lower_first-requires-in-loop-i-clause-rows_inside
lower_first-requires-in-loop-i-clause-rows_inside g c =
    let w = c.requires.slots.0 in
    let r = c.requires.slots.1 in
    let k = c.loop-r.invariant in
    let i = c.loop-i.invariant in
    let t = round_more w r c.loop-r.r refl c.loop-r-test.true i c.loop-i-test.true (stands c.loop-i.i (omega (arith, i.from)) i.standing c.turn-b.ensures) in
    places_in w r c.loop-r.r refl c.loop-r-test.true t

pub loop-i-preserved : goal.loop-i-preserved
loop-i-preserved g c =
    let w = c.requires.slots.0 in
    let r = c.requires.slots.1 in
    let k = c.loop-r.invariant in
    let i = c.loop-i.invariant in
    let t = round_more w r c.loop-r.r refl c.loop-r-test.true i c.loop-i-test.true (stands c.loop-i.i (omega (arith, i.from)) i.standing c.turn-b.ensures) in
    turn_over w r c.loop-r.r refl c.loop-r-test.true t (λ s. lowered_first w r c.loop-r.r refl c.loop-r-test.true t s (rw c.movers_of-w.ensures at c.lower_first-in-loop-i.ensures)) (least_more w r c.loop-r.r refl c.loop-r-test.true t i.least c.lesser-d.ensures)

pub lower_rest-requires-clause-rows_inside : goal.lower_rest-requires-clause-rows_inside
lower_rest-requires-clause-rows_inside g c =
    let w = c.requires.slots.0 in
    let r = c.requires.slots.1 in
    let k = c.loop-r.invariant in
    let i = c.loop-i.invariant in
    let end : c.loop-i.i ≡ c.loop-r.r * c.args.round + c.args.round = omega (arith, i.till) in
    last_places w r c.loop-r.r refl c.loop-r-test.true i end

pub loop-r-preserved : goal.loop-r-preserved
loop-r-preserved g c =
    let w = c.requires.slots.0 in
    let r = c.requires.slots.1 in
    let i = c.loop-i.invariant in
    let end : c.loop-i.i ≡ c.loop-r.r * c.args.round + c.args.round = omega (arith, i.till) in
    let next : (c.loop-r.r + 1) * c.args.round ≡ c.loop-i.i = omega arith in
    rw next (round_end w r c.loop-r.r refl c.loop-r-test.true i end (λ s. lowered_rest w r c.loop-r.r refl c.loop-r-test.true i end s (rw c.movers_of-w.ensures at c.lower_rest.ensures)) c.loop-r.invariant.least c.lesser-d-in-loop-r.ensures)

pub returns-clause-least_value : goal.returns-clause-least_value
returns-clause-least_value g c =
    let end : c.loop-r.r ≡ c.args.n / c.args.round = omega arith in
    let all = all_turns c.requires.slots.0 c.requires.slots.1 in
    c.least_lane.ensures ∙ block_least (rw (end, all) at c.loop-r.invariant.least)

pub returns-clause-adjusted_value : goal.returns-clause-adjusted_value
returns-clause-adjusted_value g c =
    let end : c.loop-r.r ≡ c.args.n / c.args.round = omega arith in
    let all = all_turns c.requires.slots.0 c.requires.slots.1 in
    rw (end, all) at c.loop-r.invariant.standing.count

pub returns-clause-marginals : goal.returns-clause-marginals
returns-clause-marginals g c s =
    let end : c.loop-r.r ≡ c.args.n / c.args.round = omega arith in
    let all = all_turns c.requires.slots.0 c.requires.slots.1 in
    all_marginals (rw (end, all) at (c.loop-r.invariant.marks s))

pub nonzero_div-r-end : goal.nonzero_div-r-end
nonzero_div-r-end g c = some_turns c.requires.slots.0 c.requires.slots.1

pub overflow_mul-k : goal.overflow_mul-k
overflow_mul-k g c =
    let r = c.requires.slots in
    record { fits = omega (arith, r.0.few, turn_below r.0 r.1 c.loop-r.r refl c.loop-r-test.true) }
