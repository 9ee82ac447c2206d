-- Where the walk of a code goes: its slots and its steps as the walk takes them, and for each place the entry of a table that it stands for: coset s of
-- layer j is entry s * 4 + j. A reader need not believe these definitions. Assumes nothing.
use Rattle.std.specs.Prelude.{◌≡◌, ◌&&◌, ◌||◌, cond, List, [], ◌∷◌, ◌++◌, ℕ, zero, suc, ◌+◌, ◌-◌, ◌*◌, ◌%◌, ◌^◌, ◌<◌, max, eqb, length, get_or, replicate}
use Rattle.tails.specs.Tails.{place_columns, marked, steps, visited}
use Rattle.walk.specs.Walk.{sum4, start}

-- how many bits number the places of slot j
unfoldable pub slot_bits : (m r j : ℕ) → ℕ
slot_bits m r j = length (place_columns m r j)

-- and of its room, which is no shorter than the slots behind it: so each begins at a multiple of its length
unfoldable pub room_from : (left j : ℕ) → (m r : ℕ) → ℕ
room_from zero j m r = 0
room_from (suc k) j m r = max (slot_bits m r j) (room_from k (suc j) m r)

abbrev pub room_bits : (m r j : ℕ) → ℕ
room_bits m r j = room_from (4 - j) j m r

-- so many slots, one behind the other: where each begins, and where the last one ends
unfoldable pub slots_from : (left j at : ℕ) → (m r : ℕ) → List ℕ
slots_from zero j a m r = a ∷ []
slots_from (suc k) j a m r = a ∷ slots_from k (suc j) (a + 2 ^ room_bits m r j) m r

unfoldable pub slots : (m r : ℕ) → List ℕ
slots m r = slots_from 4 0 0 m r

-- the steps, in twelve rows of four
unfoldable pub all_steps : (m r : ℕ) → List ℕ
all_steps m r = steps m r ++ replicate (48 - length (steps m r)) 0

-- how many turns a round of the walk has
unfoldable pub round : (m r : ℕ) → ℕ
round m r =
    cond (eqb m 3)
    (cond (eqb r 3) 8 (cond (eqb r 1 || eqb r 4) 4 1))
    (cond (eqb r 2) 4 (cond (eqb r 6) 64 16))

-- lane x: how many layers are in another coset than at the turn before, over the turns up to k
unfoldable pub layers_changed : (m r x k : ℕ) → ℕ
layers_changed m r x zero = 0
layers_changed m r x (suc k) = layers_changed m r x k + sum4 (λ j. cond (eqb (visited m r (suc k * 16 + x) j) (visited m r (k * 16 + x) j)) 0 1)

-- how many they are at each turn: three where m is 4 and r is 2 or 6, else two
unfoldable pub layers_a_step : (m r : ℕ) → ℕ
layers_a_step m r = cond (eqb m 4 && eqb (r % 4) 2) 3 2

-- the entry of each place
pub record Placed (m r size : ℕ) (places : List ℕ) : Type 0 where
  pub long : length places ≡ start (slots m r) 4
  pub entries : (j p : ℕ) → j < 4 → start (slots m r) j + p < start (slots m r) (suc j) → get_or places (start (slots m r) j + p) 0 ≡ marked m r j p * 4 + j
  pub inside : (p : ℕ) → p < length places → get_or places p 0 < size * 4
