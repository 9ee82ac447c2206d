-- The test of a row, entry by entry.
-- Assumes nothing.
use Rattle.basics.proofs.Kit.{◌≡◌, refl, sym, ap, ◌∙◌, Bool, true, false, ◌&&◌, List, ℕ, suc, ◌+◌, ◌<◌, length, get_or, drop, ℤ, pos}
use native.Mathlib.Numerals.{add-one}
use lib.Seq.{drop-cons, drop-length}
use Rattle.metric.specs.Row.{reliability_good, row_good}

-- so far, and what is left
abbrev pub Rowing : (b : ℕ) (rs : List ℤ) (i : ℕ) (so : Bool) → Type 0
Rowing b rs i so = row_good b rs ≡ so && row_good b (drop i rs)

pub row_next : (b : ℕ) (rs : List ℤ) (i : ℕ) (so : Bool) → i < length rs → Rowing b rs i so → Rowing b rs (i + 1) (so && reliability_good b (get_or rs i (pos 0)))
unfolding row_good
row_next b rs i so l f = rw add-one (f ∙ ap (λ (xs : List ℤ). so && row_good b xs) (drop-cons rs i (pos 0) l) ∙ turned so)
  where
    turned : (so : Bool) → so && (reliability_good b (get_or rs i (pos 0)) && row_good b (drop (suc i) rs)) ≡ (so && reliability_good b (get_or rs i (pos 0))) && row_good b (drop (suc i) rs)
    turned true = refl
    turned false = refl

pub row_end : (b : ℕ) (rs : List ℤ) (so : Bool) → Rowing b rs (length rs) so → so ≡ row_good b rs
unfolding row_good
row_end b rs so f = sym (f ∙ ap (λ (xs : List ℤ). so && row_good b xs) (drop-length rs) ∙ whole so)
  where
    whole : (so : Bool) → so && true ≡ so
    whole true = refl
    whole false = refl
