-- Rows of four numbers, one to a layer, which one vector register holds: what is done lane by lane. Assumes nothing: these are definitions.
use Rattle.std.specs.Prelude.{List, ℕ, ◌+◌, ◌^◌, ◌<◌, min}
use Rattle.lanes.specs.Lanes.{lane, lanes}

-- lane by lane, the sum and the less
unfoldable pub sum : List ℕ → List ℕ → List ℕ
sum a b = lanes (λ j. lane a j + lane b j)

unfoldable pub less : List ℕ → List ℕ → List ℕ
less a b = lanes (λ j. min (lane a j) (lane b j))

-- every number and every sum of numbers stays below a limit: this one for numbers of 32 bits, that of lanes for 16
abbrev pub limit : ℕ
limit = 2 ^ 31

abbrev pub Small : (l : ℕ) → List ℕ → Type 0
Small l r = (j : ℕ) → j < 4 → lane r j < l

-- no sum of two rows reaches the limit
abbrev pub Sums : (l : ℕ) → List ℕ → List ℕ → Type 0
Sums l a b = (j : ℕ) → j < 4 → lane a j + lane b j < l
