-- What the functions of the search ask and leave: costs, the tables of an accepted row, and what the walk finds over them. A reader need not believe these
-- definitions: proofs/ ties them to codewords and metrics. Assumes nothing: these are definitions.
use Rattle.std.specs.Prelude.{◌≡◌, true, List, [], ◌∷◌, ℕ, zero, suc, ◌+◌, ◌*◌, ◌/◌, ◌%◌, ◌^◌, ◌≤◌, ◌<◌, length, get_or, ℤ, pos}
use Rattle.field.specs.Field.{width_good}
use Rattle.code.specs.declared.shape.Shape.{Shape}
use Rattle.code.specs.Code.{long}
use Rattle.code.specs.Bits.{row_long}
use Rattle.metric.specs.Row.{row_bound, row_good}
use Rattle.metric.specs.Cost.{cost_zero, cost_one}
use Rattle.metric.specs.Scratch.{scratch_long}
use Rattle.trellis.specs.Trellis.{pick}
use Rattle.lanes.specs.Lanes.{entry, lane, lanes}
use Rattle.tails.specs.Tails.{columns, turns}
use Rattle.coset.specs.Coset.{least, Layers, Keys, Kept}
use Rattle.gather.specs.Gather.{key_cost, Gathered}
use Rattle.walk.specs.Walk.{sum4, start, spot, least_total, Marginals}
use Rattle.ties.specs.Ties.{Costs, number_of, word_at}
use Rattle.spots.specs.Spots.{slots, all_steps, Placed}
use Rattle.bridge.specs.Bridge.{reliability, Costed}

-- a number above the cost of every word, and of a layer besides
abbrev pub cap : ℕ
cap = 9526

-- no cost of a word reaches it
abbrev pub bound : ℕ
bound = 7621

-- the first n positions of a row, four places each
abbrev pub Spread : (m n : ℕ) → (row wide : List ℤ) → Type 0
Spread m n row wide = (i j : ℕ) → i < n → j < 4 → get_or wide (i * 4 + j) (pos 0) ≡ reliability m row i j

-- the costs of the first n places
pub record CostsTo (n : ℕ) (wide : List ℤ) (zs os : List ℕ) : Type 0 where
  pub zeros : (b : ℕ) → b < n → get_or zs b 0 ≡ cost_zero (get_or wide b (pos 0))
  pub ones : (b : ℕ) → b < n → get_or os b 0 ≡ cost_one (get_or wide b (pos 0))

-- what `cost_rows` asks
pub record CostsWithin (m n : ℕ) (row : List ℤ) (zs os : List ℕ) : Type 0 where
  pub width : width_good m ≡ true
  pub few : n ≤ 15
  pub length_row : length row ≡ n * m
  pub length_zs : length zs ≡ n * 4
  pub length_os : length os ≡ n * 4

-- what a word's symbols cost by themselves, from position i on
abbrev pub symbol_cost : (zs os : List ℕ) → (i c : ℕ) → ℕ
symbol_cost zs os i c = sum4 (λ j. pick (c / 2 ^ j % 2) (entry zs i j) (entry os i j))

unfoldable pub word_cost : (zs os : List ℕ) → (i : ℕ) → (word : List ℕ) → ℕ
word_cost zs os i [] = 0
word_cost zs os i (c ∷ cs) = symbol_cost zs os i c + word_cost zs os (suc i) cs

-- what `word_cost` asks: a row of costs for each symbol, each at most top
pub record Own (top : ℕ) (zs os word : List ℕ) : Type 0 where
  pub length_zs : length zs ≡ length word * 4
  pub length_os : length os ≡ length word * 4
  pub cost_zs : (i j : ℕ) → i < length word → j < 4 → entry zs i j ≤ top
  pub cost_os : (i j : ℕ) → i < length word → j < 4 → entry os i j ≤ top
  pub room : length word * (top * 4) < 2 ^ 32

-- rows of costs that may be added up
pub record Symbol (top : ℕ) (z o : List ℕ) : Type 0 where
  pub cost_z : (j : ℕ) → j < 4 → lane z j ≤ top
  pub cost_o : (j : ℕ) → j < 4 → lane o j ≤ top
  pub room : top * 4 < 2 ^ 32

-- an accepted row of a code
pub record Input (s : Shape) (row : List ℤ) : Type 0 where
  pub length_row : length row ≡ row_long s.m
  pub good_row : row_good row_bound row ≡ true

-- buffers of the lengths that the search wants
pub record Buffers (s : Shape) (zs os t g : List ℕ) (kept : List ℤ) : Type 0 where
  pub length_zs : length zs ≡ s.n * 4
  pub length_os : length os ≡ s.n * 4
  pub length_t : length t ≡ s.size * 4
  pub length_g : length g ≡ s.size * 4
  pub length_kept : length kept ≡ scratch_long

-- what the tables are made of: the columns of a code and the costs of a row
pub record Layered (s : Shape) (row : List ℤ) (hs zs os : List ℕ) : Type 0 where
  pub headed : hs ≡ columns s.m s.r
  pub costs : Costed s.m (long s.m) row zs os
  pub layers : Layers s.q s.size hs zs os
  pub top_is : layers.top ≡ row_bound

-- and the tables: the keys, and those behind the columns
pub record Tabled (s : Shape) (row : List ℤ) (hs zs os t : List ℕ) (kept : List ℤ) : Type 0 where
  pub layered : Layered s row hs zs os
  pub keys : Keys s.size hs zs os 0 t
  pub tables : Kept s.q s.size hs zs os kept

-- entry x * 4 + j costs what coset x of layer j costs at the least
pub record Costing (s : Shape) (hs zs os : List ℕ) (cost : ℕ → ℕ) : Type 0 where
  pub entries : (x j : ℕ) → x < s.size → j < 4 → cost (x * 4 + j) ≡ least hs zs os 0 j x

-- the slots and the steps of a code's walk
abbrev pub slots_of : Shape → List ℕ
slots_of s = slots s.m s.r

abbrev pub steps_of : Shape → List ℕ
steps_of s = all_steps s.m s.r

abbrev pub turns_of : Shape → ℕ
turns_of s = turns s.m s.r

-- the places of a walk, with what they stand for and what they cost, by what the entries of a table do
pub record Laid (s : Shape) (cost : ℕ → ℕ) (places f : List ℕ) : Type 0 where
  pub placed : Placed s.m s.r s.size places
  pub gathered : Gathered cost places f

-- rooms that are long enough for the tables and the places of the walk, and for their costs, marginals and tables by turns
pub record Roomy (s : Shape) (t places f g : List ℕ) : Type 0 where
  pub states_t : s.size * 4 ≤ length t
  pub count_places : start (slots_of s) 4 ≤ length places
  pub states_f : s.size * 4 ≤ length f
  pub count_f : start (slots_of s) 4 ≤ length f
  pub states_g : s.size * 4 ≤ length g
  pub count_g : start (slots_of s) 4 ≤ length g

-- room for the tables and the places of a code, in a number of entries and of places
pub record Sizes (s : Shape) (states places : ℕ) : Type 0 where
  pub states_in : s.size * 4 ≤ states
  pub count_in : start (slots_of s) 4 ≤ places
  pub turns : states ≤ places
  pub few : places ≤ 4096

-- a tuple costs x
abbrev pub Ties : (s : Shape) → (f : List ℕ) → (x i : ℕ) → Type 0
Ties s f x i = Costs (turns_of s) f (slots_of s) (steps_of s) x i

-- the words of tuple i
abbrev pub words_of : (s : Shape) → (t places : List ℕ) → (i : ℕ) → List ℕ
words_of s t places i = lanes (λ j. word_at t places (spot (slots_of s) (steps_of s) i j))

-- THE FIRST OF THE TIED: the words of a tuple that costs x, of which none comes before
pub record FirstWords (s : Shape) (t places f : List ℕ) (x : ℕ) (best : List ℕ) : Type 0 where
  pub found : (i : ℕ) × Ties s f x i × ((j : ℕ) → j < 4 → lane best j ≡ word_at t places (spot (slots_of s) (steps_of s) i j))
  pub first : (i : ℕ) → Ties s f x i → number_of best ≤ number_of (words_of s t places i)

-- the bits of a word of n, position 0 its leading bit
unfoldable pub leading : (n w : ℕ) → List ℕ
leading zero w = []
leading (suc k) w = (w / 2 ^ k % 2) ∷ leading k w

-- the first n entries cost no more than a word of a layer may
abbrev pub Cheap : (cost : ℕ → ℕ) → (n : ℕ) → Type 0
Cheap cost n = (x : ℕ) → x < n → cost x ≤ 1905

-- what the walk leaves: its places and costs, the least total, its first words, and the least with each place
pub record Walked (s : Shape) (t places f g : List ℕ) (x : ℕ) (best : List ℕ) : Type 0 where
  pub laid : Laid s (key_cost t) places f
  pub least : x ≡ least_total cap f (slots_of s) (steps_of s) (turns_of s)
  pub words : FirstWords s t places f x best
  pub marginals : Marginals (turns_of s) cap f (slots_of s) (steps_of s) g
  pub long_g : length g ≡ length places

pub record LeastLaid (s : Shape) (cost : ℕ → ℕ) (places f : List ℕ) (x : ℕ) : Type 0 where
  pub laid : Laid s cost places f
  pub least : x ≡ least_total cap f (slots_of s) (steps_of s) (turns_of s)
