-- What is known of a call that is not refused.
-- Assumes nothing.
use Rattle.basics.proofs.Kit.{◌≡◌, sym, ◌∙◌, false, List, ℕ, length}
use borrow.Author.Tests.{eqb-true, not-true}
use lib.Ieee.{Float}
use Rattle.refusal.proofs.Tests.{passed}
use Rattle.quantiser.specs.Calls.{has_nan, quantise_refusal}

pub same_length : (m : ℕ) (xs : List Float) (o : ℕ) → 0 ≡ quantise_refusal m xs o → o ≡ length xs
unfolding quantise_refusal
same_length m xs o e =
    let a = passed _ _ _ (sym e) in
    let b = passed _ _ _ a.1 in
    eqb-true _ _ b.0 ∙ sym (eqb-true _ _ a.0)

pub all_numbers : (m : ℕ) (xs : List Float) (o : ℕ) → 0 ≡ quantise_refusal m xs o → has_nan xs ≡ false
unfolding quantise_refusal
all_numbers m xs o e = not-true _ (passed _ _ _ (passed _ _ _ (passed _ _ _ (sym e)).1).1).0
