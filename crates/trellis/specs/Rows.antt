-- Four layers at once, in rows: their columns, and the word of four layers. Assumes nothing: these are definitions.
use Rattle.std.specs.Prelude.{List, [], ◌∷◌, ℕ, ◌+◌, ◌*◌, ◌^◌, length, get_or}
use Rattle.lanes.specs.Lanes.{entry, lane}
use Rattle.order.specs.Number.{number}
use Rattle.trellis.specs.Trellis.{Column, Columns, first_word, NamesFirst}

-- the column of layer j: h, and lane j of what a 0 and a 1 cost
abbrev pub column : (h : ℕ) → (z o : List ℕ) → (j : ℕ) → Column
column h z o j = record { h = h; c0 = lane z j; c1 = lane o j }

-- layer j of a table
abbrev pub front : List ℕ → (j : ℕ) → ℕ → ℕ
front p j s = entry p s j

-- the columns of layer j: a syndrome for each column, and four costs of a 0 and of a 1
abbrev pub layer : (hs zs os : List ℕ) → (j : ℕ) → Columns
layer hs zs os j i = record { h = get_or hs i 0; c0 = entry zs i j; c1 = entry os i j }

-- four bits in one symbol
abbrev pub symbol : (ℕ → ℕ) → ℕ
symbol f = f 0 + 2 * f 1 + 4 * f 2 + 8 * f 3

-- the word of four layers: that whose lowest layer is bs and whose others are those of cs
unfoldable pub merge : (lowest : List ℕ) → (others : List ℕ) → List ℕ
merge [] cs = []
merge (b ∷ bs) [] = []
merge (b ∷ bs) (c ∷ cs) = (b + 2 * c) ∷ merge bs cs

unfoldable pub weave : (layers : ℕ → List ℕ) → List ℕ
weave b = merge (b 0) (merge (b 1) (merge (b 2) (b 3)))

-- the first of the cheapest words of each layer, and the word of four of them
abbrev pub first_words : (big : ℕ) → (hs zs os s : List ℕ) → List ℕ
first_words big hs zs os s = weave (λ j. first_word (layer hs zs os j) big (length hs) (lane s j))

abbrev pub Firsts : (big : ℕ) → (hs zs os : List ℕ) → Type 0
Firsts big hs zs os = (s j : ℕ) → NamesFirst (layer hs zs os j) big (length hs) s

-- what layer j's bits weigh in the number of a word
unfoldable pub weighed : (j : ℕ) → (bits : List ℕ) → ℕ
weighed j bits = 2 ^ j * number 16 bits
