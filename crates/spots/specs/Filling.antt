-- What the functions that fill the places promise each other. They know columns and slots, and no code.
-- Assumes nothing: these are definitions.
use Rattle.std.specs.Prelude.{◌≡◌, List, [], ◌∷◌, ◌++◌, map, ℕ, suc, ◌+◌, ◌*◌, ◌/◌, ◌%◌, ◌^◌, ◌≤◌, ◌<◌, length, get_or, take, drop, replicate}
use Rattle.std.specs.Int.Bits.{bit_xor}
use Rattle.split.specs.Members.{picked}
use Rattle.tails.specs.Tails.{place_columns}
use Rattle.walk.specs.Walk.{start}

-- the columns of the bits of a slot's places, ten to a slot: 0 where it has fewer
unfoldable pub ten_columns : (m r j : ℕ) → List ℕ
ten_columns m r j = take 10 (place_columns m r j ++ replicate 10 0)

unfoldable pub all_place_columns : (m r : ℕ) → List ℕ
all_place_columns m r = ten_columns m r 0 ++ ten_columns m r 1 ++ ten_columns m r 2 ++ ten_columns m r 3

-- those of slot j
abbrev pub ten_of : (all : List ℕ) → (j : ℕ) → List ℕ
ten_of cs j = take 10 (drop (j * 10) cs)

-- the entry of place p of slot j
abbrev pub entry : (columns : List ℕ) → (j p : ℕ) → ℕ
entry cs j p = picked cs p * 4 + j

-- the first s numbers, which are to be doubled with column b
pub record Doubles (columns : List ℕ) (b s : ℕ) (part : List ℕ) : Type 0 where
  pub bit : b < length columns
  pub small : get_or columns b 0 < 2 ^ 10
  pub room : s + s ≤ length part

-- the first s numbers, and n of them again, xored with h
pub record Doubled (s n h : ℕ) (before after : List ℕ) : Type 0 where
  pub long : length after ≡ length before
  pub kept : (p : ℕ) → p < s → get_or after p 0 ≡ get_or before p 0
  pub again : (p : ℕ) → p < n → get_or after (s + p) 0 ≡ bit_xor (get_or before p 0) h

-- a slot of 2^bits places
pub record Slot (columns : List ℕ) (j : ℕ) (part : List ℕ) : Type 0 where
  pub bits : ℕ
  pub some : 4 ≤ bits
  pub few : bits ≤ 10
  pub long : length part ≡ 2 ^ bits
  pub columns_long : length columns ≡ 10
  pub small : (b : ℕ) → get_or columns b 0 < 2 ^ 10
  pub layer : j < 4

-- the first s = 2^b of them
pub record Begun (columns : List ℕ) (j b s : ℕ) (before after : List ℕ) : Type 0 where
  pub power : s ≡ 2 ^ b
  pub long : length after ≡ length before
  pub entries : (p : ℕ) → p < s → get_or after p 0 ≡ entry columns j p

-- all of them
pub record SlotFilled (columns : List ℕ) (j : ℕ) (before after : List ℕ) : Type 0 where
  pub long : length after ≡ length before
  pub entries : (p : ℕ) → p < length before → get_or after p 0 ≡ entry columns j p

-- one slot after the other
pub record Apart (from to : ℕ) : Type 0 where
  pub bits : ℕ
  pub some : 4 ≤ bits
  pub few : bits ≤ 10
  pub ends : to ≡ from + 2 ^ bits

pub record Slots (columns sl places : List ℕ) : Type 0 where
  pub columns_long : length columns ≡ 40
  pub slots_long : length sl ≡ 5
  pub small : (b : ℕ) → get_or columns b 0 < 2 ^ 10
  pub apart : (j : ℕ) → j < 4 → Apart (start sl j) (start sl (suc j))
  pub ends : start sl 4 ≡ length places

-- n of them are filled
pub record SlotsFilled (n : ℕ) (columns sl before after : List ℕ) : Type 0 where
  pub long : length after ≡ length before
  pub entries : (j p : ℕ) → j < n → start sl j + p < start sl (suc j) → get_or after (start sl j + p) 0 ≡ entry (ten_of columns j) j p

-- A WALK OF ONE TURN has four slots of sixteen places, and these columns that may be other than 0: three of slots 0, 1 and 2 each
unfoldable pub nine_columns : (r : ℕ) → List ℕ
nine_columns r = take 3 (place_columns 3 r 0) ++ take 3 (place_columns 3 r 1) ++ take 3 (place_columns 3 r 2)

-- numbers below 64 as one
unfoldable pub packed : (columns : List ℕ) → ℕ
packed [] = 0
packed (c ∷ cs) = c + 64 * packed cs

-- number k of them, times 4
abbrev pub short_column : (w k : ℕ) → ℕ
short_column w k = w / 2 ^ (6 * k) % 64 * 4

-- the numbers, and each again xored with h
abbrev pub and_with : (h : ℕ) → List ℕ → List ℕ
and_with h xs = xs ++ map (λ x. bit_xor x h) xs

-- the entries of a slot, x the first
unfoldable pub eight_twice : (a b c x : ℕ) → List ℕ
eight_twice a b c x = and_with c (and_with b (and_with a (x ∷ []))) ++ and_with c (and_with b (and_with a (x ∷ [])))

-- and of all four
unfoldable pub short_places : (w : ℕ) → List ℕ
short_places w =
    eight_twice (short_column w 0) (short_column w 1) (short_column w 2) 0
    ++ eight_twice (short_column w 3) (short_column w 4) (short_column w 5) 1
    ++ eight_twice (short_column w 6) (short_column w 7) (short_column w 8) 2
    ++ eight_twice 0 0 0 3
