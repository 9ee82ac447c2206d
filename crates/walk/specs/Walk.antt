-- The walk over tuples of four places, sixteen tuples side by side: the order, what a tuple costs, the least of them and, for each place, the least of
-- those that have it. It knows places and costs, and no code. Assumes nothing: these are definitions.
use Rattle.std.specs.Prelude.{◌≡◌, cond, List, ℕ, zero, suc, ◌+◌, ◌*◌, ◌/◌, ◌%◌, ◌^◌, ◌≤◌, ◌<◌, eqb, length, get_or}
use Rattle.std.specs.Int.Bits.{bit_xor}
use Rattle.std.specs.Int.Count.{count_trailing_zeros}
use Rattle.trellis.specs.Trellis.{least_of}

-- f 0 + f 1 + f 2 + f 3
abbrev pub sum4 : (ℕ → ℕ) → ℕ
sum4 f = f 0 + f 1 + f 2 + f 3

-- THE SLOTS, one to a layer: where slot j begins, and slot 4, where the last one ends
abbrev pub start : (sl : List ℕ) → (j : ℕ) → ℕ
start sl j = get_or sl j 0

-- THE ORDER: the bit that changes at turn k is that of its trailing zeros (the Gray code); then the place of slot j is xored with a step
abbrev pub changed_bit : ℕ → ℕ
changed_bit k = count_trailing_zeros 64 k

abbrev pub step : (st : List ℕ) → (b j : ℕ) → ℕ
step st b j = get_or st (b * 4 + j) 0

unfoldable pub place : (sl st : List ℕ) → (k j : ℕ) → ℕ
place sl st zero j = start sl j
place sl st (suc k) j = bit_xor (place sl st k j) (step st (changed_bit (suc k)) j)

-- tuple i, sixteen to a turn: its place in slot j, and what it costs
abbrev pub spot : (sl st : List ℕ) → (i j : ℕ) → ℕ
spot sl st i j = place sl st (i / 16) j + i % 16

unfoldable pub total : (f sl st : List ℕ) → (i : ℕ) → ℕ
total f sl st i = sum4 (λ j. get_or f (spot sl st i j) 0)

-- THE CHANGES: whether slot j is at another place at turn k + 1 than at turn k, and how many slots were so up to turn k
abbrev pub change : (sl st : List ℕ) → (k j : ℕ) → ℕ
change sl st k j = cond (eqb (place sl st (suc k) j) (place sl st k j)) 0 1

unfoldable pub changes : (sl st : List ℕ) → (k : ℕ) → ℕ
changes sl st zero = 0
changes sl st (suc k) = changes sl st k + sum4 (change sl st k)

-- the least of n turns, and the least of those tuples that have place p in slot j
abbrev pub least_total : (cap : ℕ) → (f sl st : List ℕ) → (n : ℕ) → ℕ
least_total cap f sl st n = least_of (total f sl st) cap (n * 16)

abbrev pub least_at : (cap : ℕ) → (f sl st : List ℕ) → (n j p : ℕ) → ℕ
least_at cap f sl st n j p = least_of (λ i. cond (eqb (spot sl st i j) p) (total f sl st i) cap) cap (n * 16)

-- what a walk of n turns asks: the row of sixteen places of each turn lies in its slot, and totals stay below 2^15
pub record Slots (n : ℕ) (f sl st : List ℕ) : Type 0 where
  pub some : 0 < n
  pub few : n ≤ 2 ^ 12
  pub slots : length sl ≡ 5
  pub steps : length st ≡ 48
  pub ends : start sl 4 ≡ length f
  pub above : (k j : ℕ) → k < n → j < 4 → start sl j ≤ place sl st k j
  pub below : (k j : ℕ) → k < n → j < 4 → place sl st k j + 16 ≤ start sl (suc j)
  pub room : (i : ℕ) → i < n * 16 → total f sl st i < 2 ^ 15

-- how many slots change at a turn within a round: the third does where it takes part in the first step
abbrev pub movers : (st : List ℕ) → ℕ
movers st = cond (eqb (step st 0 2) 0) 2 3

-- ROUNDS of 2^bits turns: within a round the first two or three slots change at every turn, by the same step, and the others stand still
pub record Rounds (n round : ℕ) (st : List ℕ) : Type 0 where
  pub bits : ℕ
  pub few : bits ≤ 12
  pub power : round ≡ 2 ^ bits
  pub whole : n % round ≡ 0
  pub changed : (b : ℕ) → b < bits → 0 < step st b 0
  pub same : (b j : ℕ) → b < bits → j < movers st → step st b j ≡ step st b 0
  pub still : (b j : ℕ) → b < bits → movers st ≤ j → j < 4 → step st b j ≡ 0

-- g has the least total of each place
abbrev pub Marginals : (n cap : ℕ) → (f sl st g : List ℕ) → Type 0
Marginals n cap f sl st g = (j p : ℕ) → j < 4 → start sl j ≤ p → p < start sl (suc j) → get_or g p 0 ≡ least_at cap f sl st n j p
