-- What one call leaves for another. A statement is a type; proofs/Promise.antt names the proof of each. Assumes nothing.
use Rattle.std.specs.Prelude.{◌≡◌, true, List, ◌∷◌, ◌++◌, ℕ, ℤ, length, Float}
use Rattle.refusal.specs.Refusal.{first}
use Rattle.code.specs.Code.{number_refusal, width, long, symbols_good}
use Rattle.code.specs.Bits.{row_long}
use Rattle.metric.specs.Scratch.{scratch_long}
use Rattle.sheet.specs.Sheet.{Question, questions}
use Rattle.quantiser.specs.Calls.{QuantiseSays}
use Rattle.receiver.specs.Calls.{ReceiveSays}
use Rattle.decoder.specs.Calls.{decode_refusal}
use Rattle.marker.specs.Calls.{mark_refusal}
use Rattle.practice.specs.Promise.{Practised}

-- a row that decoder and marker take in the code chosen, z being what the choice is refused by: with outputs and a scratch of their lengths, and with any
-- word of n symbols, neither refuses
pub record TakenOn (z m : ℕ) (row : List ℤ) : Type 0 where
  pub decoded : first z (decode_refusal m row (long m) (row_long m) scratch_long) ≡ 0
  pub marked : (word : List ℕ) → length word ≡ long m → symbols_good m word ≡ true → first z (mark_refusal m row word scratch_long) ≡ 0

-- such is the row that an accepted call of the quantiser leaves, and of the receiver
unfoldable pub QuantisedGoesOn : Type 0
QuantisedGoesOn = (z m : ℕ) (xs : List Float) (o p : List ℤ) → QuantiseSays z m xs 0 o p → TakenOn z m p

unfoldable pub ReceivedGoesOn : Type 0
ReceivedGoesOn = (z m : ℕ) (ks : List ℕ) (xs : List Float) (o p : List ℤ) → ReceiveSays z m ks xs 0 o p → TakenOn z m p

-- and such is every row of a practice sheet
unfoldable pub PractisedGoesOn : Type 0
PractisedGoesOn =
    (code count state state_now : ℕ) (sheet : List ℕ) → Practised code count state state_now sheet →
    (before after : List Question) (q : Question) → questions sheet ≡ before ++ q ∷ after → TakenOn (number_refusal q.code) (width q.code) q.row
