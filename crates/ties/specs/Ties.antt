-- Of the tuples that cost the least, the one whose word comes first. A word of a layer is a number, position 0 its leading bit; the four of a tuple are
-- compared symbol by symbol from position 0. Assumes nothing: these are definitions.
use Rattle.std.specs.Prelude.{◌≡◌, List, ℕ, zero, suc, ◌+◌, ◌*◌, ◌/◌, ◌%◌, ◌^◌, ◌≤◌, ◌<◌, get_or}
use Rattle.lanes.specs.Lanes.{lane, lanes}
use Rattle.walk.specs.Walk.{sum4, start, spot, total}

-- a word's bits as digits to base 16, so that the words of four layers, weighed 1, 2, 4 and 8, make a number of symbols
unfoldable pub spaced : (n w : ℕ) → ℕ
spaced zero w = 0
spaced (suc k) w = w % 2 + 16 * spaced k (w / 2)

unfoldable pub number_of : (words : List ℕ) → ℕ
number_of ws = sum4 (λ j. 2 ^ j * spaced 16 (lane ws j))

-- the words of tuple i, where w has a word for each place
abbrev pub words : (w sl st : List ℕ) → (i : ℕ) → List ℕ
words w sl st i = lanes (λ j. get_or w (spot sl st i j) 0)

-- a tuple costs r
abbrev pub Costs : (n : ℕ) → (f sl st : List ℕ) → (r i : ℕ) → Type 0
Costs n f sl st r i = (i < n * 16) × (total f sl st i ≡ r)

-- the words of a tuple that costs r, of which none comes before
pub record FirstTied (n : ℕ) (f sl st w : List ℕ) (r : ℕ) (best : List ℕ) : Type 0 where
  pub found : (i : ℕ) × Costs n f sl st r i × (best ≡ words w sl st i)
  pub first : (i : ℕ) → Costs n f sl st r i → number_of best ≤ number_of (words w sl st i)

-- the word of each place, from a table of keys (a cost times 2^16, and a word)
abbrev pub word_at : (t places : List ℕ) → (p : ℕ) → ℕ
word_at t places p = get_or t (get_or places p 0) 0 % 65536

-- in each slot all places whose number in g is r have one word
abbrev pub Agree : (sl t places g : List ℕ) → (r : ℕ) → (best : List ℕ) → Type 0
Agree sl t places g r best = (j p : ℕ) → j < 4 → start sl j ≤ p → p < start sl (suc j) → get_or g p 0 ≡ r → word_at t places p ≡ lane best j
