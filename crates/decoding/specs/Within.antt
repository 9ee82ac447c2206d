-- What the decoder's functions ask of their buffers, and leave in them. A reader need not believe these definitions. Assumes nothing.
use Rattle.std.specs.Prelude.{◌≡◌, true, List, ℕ, ◌+◌, ◌*◌, ◌<◌, ◌≤◌, length, take, ℤ}
use Rattle.code.specs.declared.shape.Shape.{Shape}
use Rattle.code.specs.Code.{is_codeword}
use Rattle.order.specs.Order.{not_after}
use Rattle.metric.specs.Cost.{cost, Least, LeastWith}
use Rattle.metric.specs.Scratch.{scratch_long}
use Rattle.lanes.specs.Lanes.{entry}
use Rattle.gather.specs.Gather.{key_cost, Scatter}
use Rattle.walk.specs.Walk.{start, Marginals}
use Rattle.search.specs.Within.{cap, bound, slots_of, steps_of, turns_of, Input, Tabled, Laid}

-- the least costs with a 0 and with a 1 at each bit
abbrev pub Softs : Shape → (row : List ℤ) → (zero one : List ℕ) → Type 0
Softs s row zs os =
    (i j : ℕ) → i < s.n → j < s.m →
    LeastWith s.m (is_codeword s.m s.r) row (i * s.m + j) 0 (entry zs i j)
    × LeastWith s.m (is_codeword s.m s.r) row (i * s.m + j) 1 (entry os i j)
    × (entry zs i j < bound) × (entry os i j < bound)

-- room for the tables and the places of the walk, and for their costs, marginals and tables by turns
pub record Rooms (s : Shape) (t places f g : List ℕ) : Type 0 where
  pub length_t : length t ≡ s.size * 4
  pub length_places : length places ≡ start (slots_of s) 4
  pub states_f : s.size * 4 ≤ length f
  pub places_f : length places ≤ length f
  pub states_g : s.size * 4 ≤ length g
  pub places_g : length places ≤ length g

-- room for costs, for the least costs with a bit held, and the outputs
pub record Outputs (s : Shape) (zs os zero one word : List ℕ) (soft scratch : List ℤ) : Type 0 where
  pub length_zs : length zs ≡ s.n * 4
  pub length_os : length os ≡ s.n * 4
  pub length_zero : length zero ≡ s.n * 4
  pub length_one : length one ≡ s.n * 4
  pub length_word : length word ≡ s.n
  pub length_soft : length soft ≡ s.n * s.m
  pub length_scratch : length scratch ≡ scratch_long

-- an accepted call
pub record Accepted (s : Shape) (row : List ℤ) (word soft scratch : ℕ) : Type 0 where
  pub input : Input s row
  pub long_word : word ≡ s.n
  pub long_soft : soft ≡ s.n * s.m
  pub long_scratch : scratch ≡ scratch_long

-- room for costs, for the tables and for the tails
pub record TablesRoom (s : Shape) (zs os t g : List ℕ) (scratch : List ℤ) : Type 0 where
  pub length_zs : length zs ≡ s.n * 4
  pub length_os : length os ≡ s.n * 4
  pub length_t : length t ≡ s.size * 4
  pub states_g : s.size * 4 ≤ length g
  pub length_scratch : length scratch ≡ scratch_long

-- the places of a walk with their costs and marginals, which stand for so many entries of a table
pub record OthersRoom (states : ℕ) (places f g : List ℕ) : Type 0 where
  pub count_g : length places ≤ length g
  pub scatter : Scatter states f (take (length places) g) places

-- the first codeword of least cost
pub record BestWord (s : Shape) (row : List ℤ) (word : List ℕ) (least : ℕ) : Type 0 where
  pub codeword : is_codeword s.m s.r word ≡ true
  pub costs : cost s.m row word ≡ least
  pub is_least : Least s.m (is_codeword s.m s.r) row least
  pub first : (vs : List ℕ) → is_codeword s.m s.r vs ≡ true → cost s.m row vs ≡ least → not_after word vs ≡ true

-- what the search leaves: the tables, the places of the walk with their costs and marginals, and the word
pub record Found (s : Shape) (row : List ℤ) (hs zs os t places f g : List ℕ) (scratch : List ℤ) (word : List ℕ) (least : ℕ) : Type 0 where
  pub tabled : Tabled s row hs zs os t scratch
  pub laid : Laid s (key_cost t) places (take (length places) f)
  pub best : BestWord s row word least
  pub marginals : Marginals (turns_of s) cap (take (length places) f) (slots_of s) (steps_of s) (take (length places) g)

-- room for the soft outputs
pub record SoftenRoom (s : Shape) (places f g : List ℕ) (scratch : List ℤ) (zero one : List ℕ) (soft : List ℤ) : Type 0 where
  pub states_f : s.size * 4 ≤ length f
  pub places_f : length places ≤ length f
  pub states_g : s.size * 4 ≤ length g
  pub places_g : length places ≤ length g
  pub length_scratch : length scratch ≡ scratch_long
  pub length_zero : length zero ≡ s.n * 4
  pub length_one : length one ≡ s.n * 4
  pub length_soft : length soft ≡ s.n * s.m
