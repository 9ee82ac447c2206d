-- What the inner functions ask of their inputs, and what they count. Assumes nothing: these are definitions, and no promise to callers cites them.
use Rattle.std.specs.Prelude.{◌≡◌, true, false, List, [], ◌∷◌, ◌++◌, ℕ, ◌≤◌, ℤ, length, drop, Float}
use Rattle.quantiser.specs.Calls.{has_nan}
use Rattle.receiver.specs.declared.Received.{Received}
use Rattle.receiver.specs.declared.Received.TheVariants.{LostOne, LostTwo, Single, Paired}
use Rattle.receiver.specs.Calls.{kinds_good}
use Rattle.receiver.specs.Receive.{symbol, taken, total, received, reliabilities_of, received_row}

-- how many bits a symbol of a kind has, whatever its samples
unfoldable pub bits : (kind : ℕ) → ℕ
bits k = length (reliabilities_of (symbol k []))

-- the samples that a symbol holds
unfoldable pub held : Received → List Float
held LostOne = []
held LostTwo = []
held (Single x) = x ∷ []
held (Paired p) = p.in_phase ∷ p.quadrature ∷ []

-- a symbol whose samples are numbers, and room for its reliabilities
pub record SymbolWithin (s : Received) (row : ℕ) : Type 0 where
  pub numbers : has_nan (held s) ≡ false
  pub room : length (reliabilities_of s) ≤ row

-- entries put at the front of a row, and how many they are
pub record PutSays (entries : List ℤ) (count : ℕ) (row row_now : List ℤ) : Type 0 where
  pub many : count ≡ length entries
  pub row_is : row_now ≡ entries ++ drop (length entries) row

-- known kinds and samples that fill a row, and no sample is a NaN
pub record RowWithin (ks : List ℕ) (xs : List Float) (row : ℕ) : Type 0 where
  pub known : kinds_good ks ≡ true
  pub filled : length (received_row (received ks xs)) ≡ row
  pub spent : total taken ks ≡ length xs
  pub numbers : has_nan xs ≡ false
