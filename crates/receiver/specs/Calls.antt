-- What `receive` answers and leaves behind, for every input; z is what the choice of the code is refused by. Refusals in this order: code 1, 16;
-- lengths 4; kinds 14, 15; samples 7. Assumes nothing: these are definitions.
use Rattle.std.specs.Prelude.{◌≡◌, Bool, true, ◌&&◌, not, List, [], ◌∷◌, ℕ, eqb, leb, ℤ, length, Float}
use Rattle.refusal.specs.Refusal.{unless, first, Outcome}
use Rattle.code.specs.Bits.{row_long}
use Rattle.quantiser.specs.Calls.{has_nan}
use Rattle.receiver.specs.Receive.{taken, total, received, received_row}

-- no kind byte is above 3
unfoldable pub kinds_good : (kinds : List ℕ) → Bool
kinds_good [] = true
kinds_good (k ∷ ks) = leb k 3 && kinds_good ks

-- 'Kinds and samples together must fill the code's row exactly': no bits and no samples are left over or missing
unfoldable pub fills : (bits : ℕ) → (kinds : List ℕ) → (samples : List Float) → Bool
fills n ks xs = eqb (length (received_row (received ks xs))) n && eqb (total taken ks) (length xs)

-- what follows the code's own refusal
unfoldable pub receive_refusal : (m : ℕ) → (kinds : List ℕ) → (samples : List Float) → (output : ℕ) → ℕ
receive_refusal m ks xs o =
    unless (eqb o (row_long m)) 4
    (unless (kinds_good ks) 14
    (unless (fills (row_long m) ks xs) 15
    (unless (not (has_nan xs)) 7 0)))

-- the row is that of the received symbols
unfoldable pub ReceiveSays : (z m : ℕ) → (kinds : List ℕ) → (samples : List Float) → (answer : ℕ) → (row row_now : List ℤ) → Type 0
ReceiveSays z m ks xs r o p = Outcome (first z (receive_refusal m ks xs (length o))) r (p ≡ received_row (received ks xs)) (p ≡ o)
