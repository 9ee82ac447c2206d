-- Metrics, the greatest among the words of a set, soft outputs and marks (document 01, 'Metric and soft output' and 'Marker'). The set is
-- given by its test, `among`: of the codewords it is `is_codeword m r`. They speak of all its words and of no search.
-- Assumes nothing: these are definitions.
use Rattle.std.specs.Prelude.{◌≡◌, Bool, true, false, not, cond, List, [], ◌∷◌, ℕ, zero, suc, ◌<◌, eqb, length, get_or, ℤ, pos, negsuc, ◌+ℤ◌, ◌-ℤ◌}
use Rattle.std.proofs.Math.Option.{Option, none, some}
use Rattle.order.specs.Order.{not_after}
use Rattle.code.specs.Bits.{all_bits, bit_at}

-- the sum of the reliabilities at the 0 bits less the sum at the 1 bits
unfoldable pub metric_of : (row : List ℤ) → (bits : List ℕ) → ℤ
metric_of [] bs = pos 0
metric_of (r ∷ rs) [] = pos 0
metric_of (r ∷ rs) (b ∷ bs) = cond (eqb b 0) (metric_of rs bs +ℤ r) (metric_of rs bs -ℤ r)

-- the metric of a word: entry b of the row belongs to bit number b
unfoldable pub metric : (m : ℕ) → (row : List ℤ) → (word : List ℕ) → ℤ
metric m rs ws = metric_of rs (all_bits m ws)

unfoldable pub is_neg : ℤ → Bool
is_neg (pos n) = false
is_neg (negsuc n) = true

unfoldable pub at_most : ℤ → ℤ → Bool
at_most a b = not (is_neg (b -ℤ a))

-- the best metric: the greatest that any word of a set has, whether or not a search came upon it
pub record Greatest (m : ℕ) (among : List ℕ → Bool) (rs : List ℤ) (g : ℤ) : Type 0 where
  pub met : (ws : List ℕ) × (among ws ≡ true) × (metric m rs ws ≡ g)
  pub all : (ws : List ℕ) → among ws ≡ true → at_most (metric m rs ws) g ≡ true

-- the greatest among the words with v at bit number b
pub record GreatestWith (m : ℕ) (among : List ℕ → Bool) (rs : List ℤ) (b v : ℕ) (g : ℤ) : Type 0 where
  pub met : (ws : List ℕ) × (among ws ≡ true) × (bit_at m b ws ≡ v) × (metric m rs ws ≡ g)
  pub all : (ws : List ℕ) → among ws ≡ true → bit_at m b ws ≡ v → at_most (metric m rs ws) g ≡ true

-- soft output b: the greatest metric with 0 at that bit less the greatest with 1
pub record Soft (m : ℕ) (among : List ℕ → Bool) (rs : List ℤ) (b : ℕ) (soft : ℤ) : Type 0 where
  pub of_zero : ℤ
  pub of_one : ℤ
  pub greatest_zero : GreatestWith m among rs b 0 of_zero
  pub greatest_one : GreatestWith m among rs b 1 of_one
  pub difference : soft ≡ of_zero -ℤ of_one

-- THE THIRD DEMAND, of a decoding: the first best word, its metric, and a soft output for each entry of the row
pub record Decoded (m : ℕ) (among : List ℕ → Bool) (rs : List ℤ) (ws : List ℕ) (best : ℤ) (soft : List ℤ) : Type 0 where
  pub word : among ws ≡ true
  pub own : best ≡ metric m rs ws
  pub most : (vs : List ℕ) → among vs ≡ true → at_most (metric m rs vs) best ≡ true
  pub first : (vs : List ℕ) → among vs ≡ true → metric m rs vs ≡ best → not_after ws vs ≡ true
  pub count : length soft ≡ length rs
  pub softly : (b : ℕ) → b < length rs → Soft m among rs b (get_or soft b (pos 0))

-- and of a mark: 0 `none`, 1 `short` with the shortfall, 2 `best`
unfoldable pub Marked : (verdict : ℕ) → (shortfall : ℤ) → (m : ℕ) → (among : List ℕ → Bool) → (row : List ℤ) → (word : List ℕ) → Type 0
Marked zero d m among rs ws = (among ws ≡ false) × (d ≡ pos 0)
Marked (suc zero) d m among rs ws =
    (among ws ≡ true) × ((g : ℤ) × Greatest m among rs g × (at_most g (metric m rs ws) ≡ false) × (d ≡ g -ℤ metric m rs ws))
Marked (suc (suc zero)) d m among rs ws = (among ws ≡ true) × Greatest m among rs (metric m rs ws) × (d ≡ pos 0)
Marked (suc (suc (suc v))) d m among rs ws = ⊥

-- what a soft output decides of its bit: 1 where it is negative, 0 where it is positive, nothing where it is 0
unfoldable pub decided : (soft : ℤ) → Option ℕ
decided (negsuc n) = some 1
decided (pos zero) = none
decided (pos (suc n)) = some 0
