-- What the data of the ten codes have in common: tests at each of them.
-- Assumes nothing.
use Rattle.basics.proofs.Kit.{◌≡◌, refl, Bool, true, false, ◌&&◌, cond, ℕ, ◌+◌, ◌*◌, ◌%◌, ◌^◌, ◌≤◌, ◌<◌, arith, eqb, leb, ltb, length, get_or}
use mathlib.Core.Logic.{◌⊎◌, inl, inr}
use lib.Dec.{T, eqb→eq, leb→le, ltb→lt}
use lib.ListN.{get_or-eq_default}
use lib.Pow.{pow_pos}
use Rattle.field.proofs.Tests.{all, at, and_l, and_r}
use Rattle.code.specs.Code.{accepted, long, message_long, bch_dimension, configuration_long, syndrome_long}
use Rattle.tails.specs.Tails.{place_columns, steps, step, turns, step_count}
use Rattle.tails.proofs.Accepted.{ten, tested, le_or_lt}
use Rattle.walk.specs.Walk.{start}
use Rattle.spots.specs.Spots.{slot_bits, room_from, room_bits, slots_from, slots, all_steps}
use Rattle.spots.specs.Filling.{ten_columns, all_place_columns, ten_of}
use Rattle.spots.proofs.Cases.{alike, alike_same}

-- the bits of the cosets of layer j: a layer that is not there has none
abbrev pub deep : (m r j : ℕ) → ℕ
deep m r j = cond (ltb j m) (syndrome_long m r) 0

pub deep_few : (m r j : ℕ) → deep m r j ≤ syndrome_long m r
deep_few m r j = go (ltb j m)
  where
    go : (b : Bool) → cond b (syndrome_long m r) 0 ≤ syndrome_long m r
    go true = omega arith
    go false = omega arith

-- a test of each of the four slots
slot_test : (f : (m r j : ℕ) → Bool) → T (ten (λ m r. all 4 (f m r))) → (m r j : ℕ) → accepted m r ≡ true → j < 4 → T (f m r j)
slot_test f t m r j a h = at 4 (f m r) (tested (λ m r. all 4 (f m r)) t m r a) j h

module _ (m r : ℕ) (a : accepted m r ≡ true) where
  pub few_turns : turns m r ≤ 2 ^ 12
  unfolding turns step_count configuration_long message_long bch_dimension long
  few_turns = leb→le (turns m r) 4096 (tested (λ m r. leb (turns m r) 4096) tt m r a)

  pub some_turns : 0 < turns m r
  unfolding turns
  some_turns = pow_pos (step_count m r)

  pub steps_count : length (all_steps m r) ≡ 48
  unfolding all_steps steps
  steps_count = eqb→eq (length (all_steps m r)) 48 (tested (λ m r. eqb (length (all_steps m r)) 48) tt m r a)

  pub places_count : start (slots m r) 4 ≤ 4096
  unfolding slots slots_from room_from slot_bits place_columns
  places_count = leb→le (start (slots m r) 4) 4096 (tested (λ m r. leb (start (slots m r) 4) 4096) tt m r a)

  pub places_sixteens : start (slots m r) 4 % 16 ≡ 0
  unfolding slots slots_from room_from slot_bits place_columns
  places_sixteens = eqb→eq (start (slots m r) 4 % 16) 0 (tested (λ m r. eqb (start (slots m r) 4 % 16) 0) tt m r a)

  pub columns_count : length (all_place_columns m r) ≡ 40
  unfolding all_place_columns ten_columns place_columns
  columns_count = eqb→eq (length (all_place_columns m r)) 40 (tested (λ m r. eqb (length (all_place_columns m r)) 40) tt m r a)

  pub syndrome_few : syndrome_long m r ≤ 10
  syndrome_few = leb→le (syndrome_long m r) 10 (tested (λ m r. leb (syndrome_long m r) 10) tt m r a)

  -- columns and steps behind the last are 0
  pub all_small : (b : ℕ) → get_or (all_place_columns m r) b 0 < 2 ^ syndrome_long m r
  unfolding all_place_columns ten_columns place_columns
  all_small b = go (le_or_lt 40 b)
    where
      go : (40 ≤ b) ⊎ (b < 40) → get_or (all_place_columns m r) b 0 < 2 ^ syndrome_long m r
      go (inl h) = rw (get_or-eq_default (all_place_columns m r) 0 {n = b} (omega (arith, columns_count))) (pow_pos (syndrome_long m r))
      go (inr h) =
          ltb→lt (get_or (all_place_columns m r) b 0) (2 ^ syndrome_long m r)
          (at 40 (λ b. ltb (get_or (all_place_columns m r) b 0) (2 ^ syndrome_long m r))
          (tested (λ m r. all 40 (λ b. ltb (get_or (all_place_columns m r) b 0) (2 ^ syndrome_long m r))) tt m r a) b h)

  module _ (j : ℕ) (h : j < 4) where
    sized : (m r j : ℕ) → Bool
    sized m r j = leb (slot_bits m r j) (room_bits m r j) && (eqb (2 ^ slot_bits m r j % 16) 0 && eqb (start (slots m r) j % 2 ^ slot_bits m r j) 0)

    sizes : T ((leb 4 (room_bits m r j) && leb (room_bits m r j) 10) && sized m r j)
    unfolding sized slots slots_from room_from slot_bits place_columns
    sizes = slot_test (λ m r j. (leb 4 (room_bits m r j) && leb (room_bits m r j) 10) && sized m r j) tt m r j a h

    pub room_some : 4 ≤ room_bits m r j
    room_some = leb→le 4 (room_bits m r j) (and_l (leb 4 (room_bits m r j)) _ (and_l (leb 4 (room_bits m r j) && leb (room_bits m r j) 10) _ sizes))

    pub room_few : room_bits m r j ≤ 10
    room_few = leb→le (room_bits m r j) 10 (and_r (leb 4 (room_bits m r j)) _ (and_l (leb 4 (room_bits m r j) && leb (room_bits m r j) 10) _ sizes))

    rest : T (sized m r j)
    rest = and_r (leb 4 (room_bits m r j) && leb (room_bits m r j) 10) _ sizes

    pub bits_room : slot_bits m r j ≤ room_bits m r j
    unfolding sized
    bits_room = leb→le (slot_bits m r j) (room_bits m r j) (and_l (leb (slot_bits m r j) (room_bits m r j)) _ rest)

    last : T (eqb (2 ^ slot_bits m r j % 16) 0 && eqb (start (slots m r) j % 2 ^ slot_bits m r j) 0)
    unfolding sized
    last = and_r (leb (slot_bits m r j) (room_bits m r j)) _ rest

    pub bits_sixteen : 2 ^ slot_bits m r j % 16 ≡ 0
    bits_sixteen = eqb→eq (2 ^ slot_bits m r j % 16) 0 (and_l (eqb (2 ^ slot_bits m r j % 16) 0) _ last)

    -- a slot begins at a multiple of its length
    pub begins : start (slots m r) j % 2 ^ slot_bits m r j ≡ 0
    begins = eqb→eq (start (slots m r) j % 2 ^ slot_bits m r j) 0 (and_r (eqb (2 ^ slot_bits m r j % 16) 0) _ last)

    pub ten_right : ten_of (all_place_columns m r) j ≡ ten_columns m r j
    unfolding all_place_columns ten_columns place_columns
    ten_right =
        alike_same (ten_of (all_place_columns m r) j) (ten_columns m r j)
        (slot_test (λ m r j. alike (ten_of (all_place_columns m r) j) (ten_columns m r j)) tt m r j a h)

    pub column_small : (b : ℕ) → get_or (place_columns m r j) b 0 < 2 ^ deep m r j
    unfolding place_columns slot_bits
    column_small b = go (le_or_lt 10 b)
      where
        go : (10 ≤ b) ⊎ (b < 10) → get_or (place_columns m r j) b 0 < 2 ^ deep m r j
        go (inl k) =
            let short : length (place_columns m r j) ≤ b = omega (arith, bits_room, room_few) in
            rw (get_or-eq_default (place_columns m r j) 0 {n = b} short) (pow_pos (deep m r j))
        go (inr k) =
            ltb→lt (get_or (place_columns m r j) b 0) (2 ^ deep m r j)
            (at 10 (λ b. ltb (get_or (place_columns m r j) b 0) (2 ^ deep m r j))
            (slot_test (λ m r j. all 10 (λ b. ltb (get_or (place_columns m r j) b 0) (2 ^ deep m r j))) tt m r j a h) b k)

    -- a step stays in its slot, and moves by rows of sixteen
    pub record Row (x : ℕ) : Type 0 where
      pub below : x < 2 ^ slot_bits m r j
      pub row : x % 16 ≡ 0

    pub step_row : (b : ℕ) → Row (step (all_steps m r) b j)
    unfolding all_steps steps slot_bits place_columns
    step_row b = go (le_or_lt 12 b)
      where
        go : (12 ≤ b) ⊎ (b < 12) → Row (step (all_steps m r) b j)
        go (inl k) =
            let long : length (all_steps m r) ≤ b * 4 + j = omega (arith, steps_count) in
            rw (get_or-eq_default (all_steps m r) 0 {n = b * 4 + j} long) (record { below = pow_pos (slot_bits m r j); row = refl })
        go (inr k) =
            let t = at 12 (λ b. ltb (step (all_steps m r) b j) (2 ^ slot_bits m r j) && eqb (step (all_steps m r) b j % 16) 0)
            (slot_test (λ m r j. all 12 (λ b. ltb (step (all_steps m r) b j) (2 ^ slot_bits m r j) && eqb (step (all_steps m r) b j % 16) 0)) tt m r j a h) b k in
            record {
              below = ltb→lt (step (all_steps m r) b j) (2 ^ slot_bits m r j) (and_l (ltb (step (all_steps m r) b j) (2 ^ slot_bits m r j)) _ t);
              row = eqb→eq (step (all_steps m r) b j % 16) 0 (and_r (ltb (step (all_steps m r) b j) (2 ^ slot_bits m r j)) _ t);
            }
