-- What is promised of the places of the walk. A statement is a type. Assumes nothing.
use Rattle.std.specs.Prelude.{◌≡◌, true, List, ℕ, suc, ◌+◌, ◌*◌, ◌%◌, ◌^◌, ◌≤◌, ◌<◌, length, get_or}
use Rattle.code.specs.Code.{accepted, syndrome_long}
use Rattle.tails.specs.Tails.{turns, visited}
use Rattle.walk.specs.Walk.{start, place, spot, changes, Rounds}
use Rattle.spots.specs.Spots.{slots, all_steps, round, layers_changed, layers_a_step, Placed}

-- what the walk asks of slots and steps
pub record Walkable (m r : ℕ) : Type 0 where
  pub some : 0 < turns m r
  pub few : turns m r ≤ 2 ^ 12
  pub slots_long : length (slots m r) ≡ 5
  pub steps_long : length (all_steps m r) ≡ 48
  pub short : start (slots m r) 4 ≤ 4096
  pub sixteens : start (slots m r) 4 % 16 ≡ 0
  pub above : (k j : ℕ) → k < turns m r → j < 4 → start (slots m r) j ≤ place (slots m r) (all_steps m r) k j
  pub below : (k j : ℕ) → k < turns m r → j < 4 → place (slots m r) (all_steps m r) k j + 16 ≤ start (slots m r) (suc j)

unfoldable pub Walks : Type 0
Walks = (m r : ℕ) → accepted m r ≡ true → Walkable m r

-- and its turns make whole rounds
unfoldable pub WalksInRounds : Type 0
WalksInRounds = (m r : ℕ) → accepted m r ≡ true → Rounds (turns m r) (round m r) (all_steps m r)

-- the slots that change are as many as the layers that go to another coset, in every lane
unfoldable pub ChangesAreLayers : Type 0
ChangesAreLayers = (m r x k : ℕ) → accepted m r ≡ true → x < 16 → k < turns m r → changes (slots m r) (all_steps m r) k ≡ layers_changed m r x k

-- and as many at every turn
unfoldable pub Adjustments : Type 0
Adjustments = (m r k : ℕ) → accepted m r ≡ true → k < turns m r → changes (slots m r) (all_steps m r) k ≡ k * layers_a_step m r

-- the place of tuple i in slot j stands for its coset in layer j
unfoldable pub SpotVisited : Type 0
SpotVisited =
    (m r size i j : ℕ) (places : List ℕ) → accepted m r ≡ true → Placed m r size places → i < turns m r * 16 → j < 4 →
    get_or places (spot (slots m r) (all_steps m r) i j) 0 ≡ visited m r i j * 4 + j

-- a coset's number is below the number of cosets, and a layer that a width of 3 has not got has coset 0
unfoldable pub VisitedInside : Type 0
VisitedInside = (m r i j : ℕ) → accepted m r ≡ true → j < 4 → visited m r i j < 2 ^ syndrome_long m r

unfoldable pub VisitedHigh : Type 0
VisitedHigh = (m r i j : ℕ) → accepted m r ≡ true → m ≤ j → j < 4 → visited m r i j ≡ 0
