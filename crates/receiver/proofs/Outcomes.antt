-- What is known of a call that is not refused, and what its samples are refused by.
-- Assumes nothing.
use Rattle.basics.proofs.Kit.{◌≡◌, refl, Bool, true, false, not, cond, sym, ◌∙◌, List, ℕ, length, eqb}
use borrow.Author.Tests.{eqb-true, not-true}
use lib.Ieee.{Float}
use Rattle.refusal.proofs.Tests.{passed}
use Rattle.field.proofs.Tests.{and_l, and_r, to_T, from_T}
use Rattle.code.specs.Bits.{row_long}
use Rattle.receiver.specs.Receive.{taken, total, received, received_row}
use Rattle.receiver.specs.Calls.{kinds_good, fills, receive_refusal}
use Rattle.receiver.specs.Within.{bits, RowWithin}
use Rattle.receiver.proofs.Symbols.{row_bits}
use Rattle.quantiser.specs.Calls.{has_nan}
use Rattle.std.specs.Prelude.{Result}
use Rattle.refusal.specs.declared.Refusal.{Refusal}
use Rattle.refusal.specs.declared.Refusal.TheVariants.{Sample}
use Rattle.refusal.specs.Refusal.{number_of, ensured, unless}

-- what holds where nothing is refused
pub accepted : (m : ℕ) (ks : List ℕ) (xs : List Float) (o : ℕ) → receive_refusal m ks xs o ≡ 0 → (o ≡ row_long m) × RowWithin ks xs o
unfolding receive_refusal fills
accepted m ks xs o e =
    let a = passed _ _ _ e in
    let b = passed _ _ _ (passed _ _ _ a.1).1 in
    let long = eqb (length (received_row (received ks xs))) (row_long m) in
    let spent = eqb (total taken ks) (length xs) in
    let row = eqb-true _ _ a.0 in (
      row,
      record {
        known = (passed _ _ _ a.1).0;
        filled = eqb-true _ _ (from_T long (and_l long spent (to_T b.0))) ∙ sym row;
        spent = eqb-true _ _ (from_T spent (and_r long spent (to_T b.0)));
        numbers = not-true _ (passed _ _ _ b.1).0;
      },
    )

pub row_within : (m : ℕ) (ks : List ℕ) (xs : List Float) (o : ℕ) → 0 ≡ receive_refusal m ks xs o → RowWithin ks xs o
row_within m ks xs o e = (accepted m ks xs o (sym e)).1

-- what is left to refuse once the row's length, the kinds and the counts are right
pub samples_left :
    (m : ℕ) (ks : List ℕ) (xs : List Float) (o : ℕ) (a : Result Unit Refusal) → eqb o (row_long m) ≡ true → 0 ≡ unless (kinds_good ks) 14 0 →
    eqb (total bits ks) (row_long m) ≡ true → eqb (total taken ks) (length xs) ≡ true → a ≡ ensured (not (has_nan xs)) Sample →
    number_of a ≡ receive_refusal m ks xs o
unfolding receive_refusal fills unless
samples_left m ks xs o a p q r s e =
    rw (e, p, (passed (kinds_good ks) 13 0 (sym q)).0, row_bits ks xs, r, s) (go (has_nan xs))
  where
    go : (b : Bool) → number_of (ensured (not b) Sample) ≡ cond (not b) 0 7
    go true = refl
    go false = refl
