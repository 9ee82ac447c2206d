-- Costs: what a word's bits contradict of a row (the field's term is the correlation discrepancy), in natural numbers, for the crates that search.
-- A reader need not believe them: proofs/Costs.antt shows that the metric of Metric.antt is the row's weight less twice the cost.
-- Assumes nothing: these are definitions.
use Rattle.std.specs.Prelude.{◌≡◌, Bool, true, List, [], ◌∷◌, ℕ, zero, suc, ◌+◌, ◌*◌, ◌≤◌, ℤ, pos, negsuc, ◌-ℤ◌}
use Rattle.code.specs.Bits.{all_bits, bit_at}

-- what a 0 bit contradicts of a reliability, and what a 1 bit does
abbrev pub cost_zero : (reliability : ℤ) → ℕ
cost_zero (pos n) = 0
cost_zero (negsuc n) = suc n

abbrev pub cost_one : (reliability : ℤ) → ℕ
cost_one (pos n) = n
cost_one (negsuc n) = 0

-- by the bit: as in Metric.antt, any number but 0 counts as 1
abbrev pub choose : (bit : ℕ) → (zero one : ℕ) → ℕ
choose zero a b = a
choose (suc n) a b = b

-- the size of what the bits contradict of a row
unfoldable pub discrepancy : (row : List ℤ) → (bits : List ℕ) → ℕ
discrepancy [] bs = 0
discrepancy (r ∷ rs) [] = 0
discrepancy (r ∷ rs) (b ∷ bs) = choose b (cost_zero r) (cost_one r) + discrepancy rs bs

-- the sum of the sizes of the reliabilities
unfoldable pub weight_of : (row : List ℤ) → ℕ
weight_of [] = 0
weight_of (r ∷ rs) = (cost_zero r + cost_one r) + weight_of rs

-- the cost of a word
unfoldable pub cost : (m : ℕ) → (row : List ℤ) → (word : List ℕ) → ℕ
cost m rs ws = discrepancy rs (all_bits m ws)

-- the metric at a cost
unfoldable pub top : (row : List ℤ) → (cost : ℕ) → ℤ
top rs d = pos (weight_of rs) -ℤ pos (2 * d)

-- the least cost of a word of a set, and of those with v at bit number b
pub record Least (m : ℕ) (among : List ℕ → Bool) (rs : List ℤ) (d : ℕ) : Type 0 where
  pub met : (ws : List ℕ) × (among ws ≡ true) × (cost m rs ws ≡ d)
  pub all : (ws : List ℕ) → among ws ≡ true → d ≤ cost m rs ws

pub record LeastWith (m : ℕ) (among : List ℕ → Bool) (rs : List ℤ) (b v d : ℕ) : Type 0 where
  pub met : (ws : List ℕ) × (among ws ≡ true) × (bit_at m b ws ≡ v) × (cost m rs ws ≡ d)
  pub all : (ws : List ℕ) → among ws ≡ true → bit_at m b ws ≡ v → d ≤ cost m rs ws
