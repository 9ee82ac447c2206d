-- What `quantise` answers and leaves behind, for every input; z is what the choice of the code is refused by. Refusals in document 01's order:
-- code 1, 16; lengths 2, 4; samples 7. Assumes nothing: these are definitions.
use Rattle.std.specs.Prelude.{◌≡◌, Bool, false, ◌||◌, not, List, [], ◌∷◌, map, ℕ, eqb, ℤ, length, Float}
use Rattle.std.specs.Float.Ieee.{is_nan}
use Rattle.refusal.specs.Refusal.{unless, first, Outcome}
use Rattle.code.specs.Bits.{row_long}
use Rattle.quantiser.specs.Quantise.{quantised}

-- some sample is not a number
unfoldable pub has_nan : (samples : List Float) → Bool
has_nan [] = false
has_nan (x ∷ xs) = is_nan x || has_nan xs

-- 'It takes exactly the n·m samples of a code's row': what follows the code's own refusal
unfoldable pub quantise_refusal : (m : ℕ) → (samples : List Float) → (output : ℕ) → ℕ
quantise_refusal m xs o =
    unless (eqb (length xs) (row_long m)) 2
    (unless (eqb o (row_long m)) 4
    (unless (not (has_nan xs)) 7 0))

-- the row is the samples quantised, each in its place
unfoldable pub QuantiseSays : (z m : ℕ) → (samples : List Float) → (answer : ℕ) → (row row_now : List ℤ) → Type 0
QuantiseSays z m xs r o p = Outcome (first z (quantise_refusal m xs (length o))) r (p ≡ map quantised xs) (p ≡ o)
