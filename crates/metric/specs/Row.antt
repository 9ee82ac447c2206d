-- Reliabilities (document 01, 'Metric and soft output'). Assumes nothing: these are definitions.
use Rattle.std.specs.Prelude.{Bool, true, ◌&&◌, List, [], ◌∷◌, ℕ, leb, ℤ, nat_abs}

-- a reliability of at most this size
unfoldable pub reliability_good : (bound : ℕ) → ℤ → Bool
reliability_good b r = leb (nat_abs r) b

unfoldable pub row_good : (bound : ℕ) → (row : List ℤ) → Bool
row_good b [] = true
row_good b (r ∷ rs) = reliability_good b r && row_good b rs

-- the greatest size in a row that is decoded or marked: from -127 to 127
abbrev pub row_bound : ℕ
row_bound = 127
