-- A trellis over syndromes, in costs: what bits with a given sum of column syndromes cost at the least. It knows columns and xor, and no code.
-- A table gives each syndrome a cost. Assumes nothing: these are definitions.
use Rattle.std.specs.Prelude.{◌≡◌, Bool, true, false, cond, List, [], ◌∷◌, ℕ, zero, suc, ◌+◌, ◌≤◌, ◌<◌, min, leb, eqb, length}
use Rattle.order.specs.Order.{not_after}
use Rattle.field.specs.Field.{xor}

-- a bit that is to be chosen: the syndrome that a 1 adds, the cost of a 0, the cost of a 1
pub record Column : Type 0 where
  pub h : ℕ
  pub c0 : ℕ
  pub c1 : ℕ

-- the column at each position
abbrev pub Columns : Type 0
Columns = ℕ → Column

-- a for a 0, b for a 1 (for any number but 0)
abbrev pub pick : ℕ → ℕ → ℕ → ℕ
pick zero a b = a
pick (suc n) a b = b

-- what may stand at a position: either bit, or a given one
pub data Choice : Type 0 where
  either : Choice
  only : ℕ → Choice

abbrev pub May : Choice → ℕ → Type 0
May either b = b < 2
May (only v) b = b ≡ v

-- the least with one column more
unfoldable pub step : Choice → Column → (ℕ → ℕ) → ℕ → ℕ
step either c v s = min (v s + c.c0) (v (xor s c.h) + c.c1)
step (only b) c v s = v (xor s (pick b 0 c.h)) + pick b c.c0 c.c1

-- from the back: so many columns from position i on, behind which v is the table
unfoldable pub back : (hold : ℕ → Choice) → Columns → (v : ℕ → ℕ) → (i left : ℕ) → ℕ → ℕ
back hold col v i zero = v
back hold col v i (suc k) = step (hold i) (col i) (back hold col v (suc i) k)

-- from the front: the columns below position i, before which g is the table
unfoldable pub fore : Columns → (g : ℕ → ℕ) → (i : ℕ) → ℕ → ℕ
fore col g zero = g
fore col g (suc i) = step either (col i) (fore col g i)

-- what bits add up to, and what they cost, from position i on
unfoldable pub syn : Columns → (i : ℕ) → (bits : List ℕ) → ℕ
syn col i [] = 0
syn col i (b ∷ bs) = xor (pick b 0 (col i).h) (syn col (suc i) bs)

unfoldable pub cost : Columns → (i : ℕ) → (bits : List ℕ) → ℕ
cost col i [] = 0
cost col i (b ∷ bs) = pick b (col i).c0 (col i).c1 + cost col (suc i) bs

abbrev pub Held : (ℕ → Choice) → (i : ℕ) → (bits : List ℕ) → Type 0
Held hold i [] = Unit {0}
Held hold i (b ∷ bs) = May (hold i) b × Held hold (suc i) bs

-- no bit is held
abbrev pub free : ℕ → Choice
free i = either

-- behind the last column: nothing is left to reach, or there is no way
abbrev pub final : (big : ℕ) → ℕ → ℕ
final big s = pick s 0 big

-- the bit that attains `step either`: 0 where the two tie
abbrev pub bit : Bool → ℕ
bit true = 0
bit false = 1

unfoldable pub choice : Column → (ℕ → ℕ) → ℕ → ℕ
choice c v s = bit (leb (v s + c.c0) (v (xor s c.h) + c.c1))

-- the bits that attain `back free` at s, from the front
unfoldable pub trace : Columns → (v : ℕ → ℕ) → (i left : ℕ) → ℕ → List ℕ
trace col v i zero s = []
trace col v i (suc k) s =
    let b = choice (col i) (back free col v (suc i) k) s in
    b ∷ trace col v (suc i) k (xor s (pick b 0 (col i).h))

-- bits for n columns that add up to s
pub record Adds (col : Columns) (n s : ℕ) (bits : List ℕ) : Type 0 where
  pub count : length bits ≡ n
  pub held : Held free 0 bits
  pub sum : syn col 0 bits ≡ s

-- THE FIRST OF THE CHEAPEST: none of them costs less, and of those that cost as little none comes before
pub record First (col : Columns) (n s : ℕ) (bits : List ℕ) : Type 0 where
  pub adds : Adds col n s bits
  pub least : (bs : List ℕ) → Adds col n s bs → cost col 0 bits ≤ cost col 0 bs
  pub first : (bs : List ℕ) → Adds col n s bs → cost col 0 bs ≡ cost col 0 bits → not_after bits bs ≡ true

-- what the trace finds; where there are such bits and they cost less than big, it is the first of the cheapest
abbrev pub first_word : Columns → (big n s : ℕ) → List ℕ
first_word col big n s = trace col (final big) 0 n s

abbrev pub NamesFirst : Columns → (big n s : ℕ) → Type 0
NamesFirst col big n s = back free col (final big) 0 n s < big → First col n s (first_word col big n s)

-- the least of f 0, .., f (n - 1) and cap
unfoldable pub least_of : (ℕ → ℕ) → (cap n : ℕ) → ℕ
least_of f cap zero = cap
least_of f cap (suc n) = min (least_of f cap n) (f n)

-- the bit at position i is held at v
abbrev pub holding : (i v : ℕ) → ℕ → Choice
holding i v p = cond (eqb p i) (only v) either

-- the least over the syndromes where two tables meet
abbrev pub meet : (cap size : ℕ) → (g u : ℕ → ℕ) → ℕ
meet cap size g u = least_of (λ s. g s + u s) cap size
