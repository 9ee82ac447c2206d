-- From a table to the places of the walk and back: what each place costs, and for each entry of a table the least of the places that stand for it. It knows
-- places and costs, and no walk. Assumes nothing: these are definitions.
use Rattle.std.specs.Prelude.{◌≡◌, cond, List, ℕ, ◌-◌, ◌/◌, ◌%◌, ◌≤◌, ◌<◌, eqb, length, get_or}
use Rattle.trellis.specs.Trellis.{least_of}

-- what entry x of a table of keys costs: a key is a cost times 2^16, and a word
abbrev pub key_cost : (t : List ℕ) → (x : ℕ) → ℕ
key_cost t x = get_or t x 0 / 65536

-- what each of the first n places costs, by what an entry costs; gathered where these are all of them
pub record Priced (cost : ℕ → ℕ) (places : List ℕ) (n : ℕ) (f : List ℕ) : Type 0 where
  pub long : length f ≡ length places
  pub costs : (p : ℕ) → p < n → get_or f p 0 ≡ cost (get_or places p 0)

-- what `answer` allows at the entry of each of the first n places
pub record Answered (answer : ℕ → ℕ → Type 0) (places : List ℕ) (n : ℕ) (f : List ℕ) : Type 0 where
  pub long : length f ≡ length places
  pub answers : (p : ℕ) → p < n → answer (get_or places p 0) (get_or f p 0)

abbrev pub Gathered : (cost : ℕ → ℕ) → (places f : List ℕ) → Type 0
Gathered cost places f = Priced cost places (length places) f

-- the least that the other layers cost, over those of the first n places that stand for entry x of a table; the table of these, and that over all places
abbrev pub others : (cap : ℕ) → (f g places : List ℕ) → (n x : ℕ) → ℕ
others cap f g places n x = least_of (λ p. cond (eqb (get_or places p 0) x) (get_or g p 0 - get_or f p 0) cap) cap n

pub record Lowered (cap : ℕ) (f g places : List ℕ) (n : ℕ) (a : List ℕ) : Type 0 where
  pub others : (x : ℕ) → x < length a → get_or a x 0 ≡ others cap f g places n x

abbrev pub Scattered : (cap : ℕ) → (f g places a : List ℕ) → Type 0
Scattered cap f g places a = Lowered cap f g places (length places) a

-- what the first n places cost themselves is taken off
pub record LessOwn (f g : List ℕ) (n : ℕ) (d : List ℕ) : Type 0 where
  pub long : length d ≡ length g
  pub less : (p : ℕ) → p < n → get_or d p 0 ≡ get_or g p 0 - get_or f p 0
  pub left : (p : ℕ) → n ≤ p → get_or d p 0 ≡ get_or g p 0

-- places whose numbers are to be taken sixteen at a time, which stand for entries of a table of so many
pub record Sixteens (size : ℕ) (places : List ℕ) : Type 0 where
  pub sixteens : length places % 16 ≡ 0
  pub inside : (p : ℕ) → p < length places → get_or places p 0 < size

-- what `scatter` asks: the costs of the places stand in the first part of a room, in which there is place for the entries
pub record Scatter (states : ℕ) (room g places : List ℕ) : Type 0 where
  pub places_in : Sixteens states places
  pub count : length places ≤ length room
  pub states_in : states ≤ length room
  pub length_g : length g ≡ length places
  pub own : (p : ℕ) → p < length places → get_or room p 0 ≤ get_or g p 0
