-- The columns and the slots of the code, and the places filled by them.
-- Assumes nothing.
use Rattle.basics.proofs.Kit.{◌≡◌, arith}
use Rattle.tails.specs.Tails.{turns}
use Rattle.spots.specs.Spots.{slots}
use Rattle.spots.specs.Filling.{all_place_columns, SlotsFilled}
use Rattle.spots.proofs.Data.{some_turns}
use Rattle.spots.proofs.Entries.{asked, placed}
use Rattle.spots.proofs.Short.{width, sixty_four, short_filled}
use Rattle.spots.proofs.fill.Goals as goal

-- a walk of one turn
pub short_columns-requires : goal.short_columns-requires
short_columns-requires c =
    let one : turns c.args.m c.args.r ≡ 1 = omega arith in
    let e = width c.args.m c.args.r c.requires.code_accepted one in
    rw e (c.requires.code_accepted, one)

pub fill_short-requires : goal.fill_short-requires
fill_short-requires c =
    let one : turns c.args.m c.args.r ≡ 1 = omega arith in
    omega (arith, sixty_four c.args.m c.args.r c.requires.code_accepted one)

pub returns-then-turns-eq1 : goal.returns-then-turns-eq1
returns-then-turns-eq1 c =
    let one : turns c.args.m c.args.r ≡ 1 = omega arith in
    placed c.args.m c.args.r c.requires.code_accepted c.args.size c.args.places.now c.fill_short.new.places c.requires.room_of_code.0 c.requires.room_of_code.1
    (rw (c.fill_short.ensures, c.short_columns.ensures) (short_filled c.args.m c.args.r c.requires.code_accepted one c.args.places.now c.requires.room_of_code.1))

-- and any other
pub place_columns-columns-requires : goal.place_columns-columns-requires
place_columns-columns-requires c = (c.requires.code_accepted, omega (arith, c.turns.ensures, some_turns c.args.m c.args.r c.requires.code_accepted))

pub fill_slots-requires : goal.fill_slots-requires
fill_slots-requires c =
    rw (c.place_columns-columns.ensures, c.slots-slots.ensures) (asked c.args.m c.args.r c.requires.code_accepted c.args.places.now c.requires.room_of_code.1)

pub returns : goal.returns
returns c =
    let f : SlotsFilled 4 (all_place_columns c.args.m c.args.r) (slots c.args.m c.args.r) c.args.places.now c.fill_slots.new.places =
    rw (c.place_columns-columns.ensures, c.slots-slots.ensures) at c.fill_slots.ensures in
    placed c.args.m c.args.r c.requires.code_accepted c.args.size c.args.places.now c.fill_slots.new.places c.requires.room_of_code.0 c.requires.room_of_code.1 f
