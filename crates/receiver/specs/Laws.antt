-- What follows from the promise of `receive`. A statement is a type; proofs/Laws.antt names the proof of each. Assumes nothing.
use Rattle.std.specs.Prelude.{◌≡◌, true, List, [], ◌∷◌, ◌++◌, map, ℕ, zero, suc, ◌+◌, ℤ, pos, length, get_or, replicate, Float}
use Rattle.std.proofs.Math.Option.{Option, none, some}
use Rattle.std.specs.Float.{nan}
use Rattle.code.specs.Bits.{row_long}
use Rattle.metric.specs.Row.{row_bound, row_good}
use Rattle.quantiser.specs.Quantise.{quantised}
use Rattle.quantiser.specs.Calls.{QuantiseSays}
use Rattle.receiver.specs.Receive.{taken}
use Rattle.receiver.specs.Calls.{ReceiveSays}

-- an accepted call has a code, and leaves a row that the decoder and the marker take
unfoldable pub ReceivedTaken : Type 0
ReceivedTaken =
    (z m : ℕ) (ks : List ℕ) (xs : List Float) (o p : List ℤ) → ReceiveSays z m ks xs 0 o p →
    (z ≡ 0) × (length p ≡ row_long m) × (row_good row_bound p ≡ true)

-- where every symbol is a single sample, and there are n·m of them, the call does what `quantise` does
unfoldable pub SinglesQuantised : Type 0
SinglesQuantised =
    (z m : ℕ) (xs : List Float) (r : ℕ) (o p : List ℤ) → length xs ≡ row_long m →
    ReceiveSays z m (replicate (length xs) 2) xs r o p → QuantiseSays z m xs r o p

-- which samples are read, in the order of the row's entries: the place of the sample, or none for a lost bit. No sample is named here
unfoldable pub places_of : (kind at : ℕ) → List (Option ℕ)
places_of zero i = none ∷ []
places_of (suc zero) i = none ∷ none ∷ []
places_of (suc (suc zero)) i = some i ∷ []
places_of (suc (suc (suc k))) i = some i ∷ some (i + 1) ∷ []

unfoldable pub places : (kinds : List ℕ) → (at : ℕ) → List (Option ℕ)
places [] i = []
places (k ∷ ks) i = places_of k i ++ places ks (i + taken k)

-- the entry that is read from a place
abbrev pub entry : (samples : List Float) → Option ℕ → ℤ
entry xs none = pos 0
entry xs (some i) = quantised (get_or xs i nan)

unfoldable pub ReadByKinds : Type 0
ReadByKinds = (z m : ℕ) (ks : List ℕ) (xs : List Float) (o p : List ℤ) → ReceiveSays z m ks xs 0 o p → p ≡ map (entry xs) (places ks 0)

-- the places that are read, and so many numbers from one on
unfoldable pub read : List (Option ℕ) → List ℕ
read [] = []
read (none ∷ ps) = read ps
read (some i ∷ ps) = i ∷ read ps

unfoldable pub from : (count first : ℕ) → List ℕ
from zero i = []
from (suc n) i = i ∷ from n (i + 1)

-- every sample is read once, in order
unfoldable pub ReadOnce : Type 0
ReadOnce = (z m : ℕ) (ks : List ℕ) (xs : List Float) (o p : List ℤ) → ReceiveSays z m ks xs 0 o p → read (places ks 0) ≡ from (length xs) 0
