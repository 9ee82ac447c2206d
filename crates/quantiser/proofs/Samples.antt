-- A list of samples passed one by one: whether one is a NaN; and a row that is filled from the front. Assumes nothing.
use Rattle.basics.proofs.Kit.{◌≡◌, refl, sym, ap, ◌∙◌, Bool, true, false, ◌||◌, List, [], ◌∷◌, ◌++◌, ℕ, zero, suc, ◌+◌, ◌<◌, arith, length, get_or, take, drop, set}
use mathlib.Core.Bool.{false≢true}
use mathlib.Core.List.{map}
use native.Mathlib.Numerals.{add-one}
use lib.Seq.{drop-cons}
use lib.Ieee.{Float, nan, is_nan}
use Rattle.std.specs.List.{list_any}
use Rattle.quantiser.specs.Calls.{has_nan}

-- some sample is a NaN, as a chain of tests finds it
pub has_nan_is : (xs : List Float) → list_any is_nan xs ≡ has_nan xs
unfolding has_nan
has_nan_is [] = refl
has_nan_is (x ∷ xs) = ap (◌||◌ (is_nan x)) (has_nan_is xs)

-- ---- the samples from place i on, by the first of them and the rest
pub next : (xs : List Float) (i : ℕ) → i < length xs → has_nan (drop i xs) ≡ (is_nan (get_or xs i nan) || has_nan (drop (i + 1) xs))
unfolding has_nan
next xs i h = rw (drop-cons xs i nan h, add-one)

pub neither : (a b : Bool) → (a || b) ≡ false → (a ≡ false) × (b ≡ false)
neither true b e = absurd (false≢true (sym e))
neither false b e = (refl, e)

pub numbers :
    (xs : List Float) (i : ℕ) → i < length xs → has_nan (drop i xs) ≡ false →
    (is_nan (get_or xs i nan) ≡ false) × (has_nan (drop (i + 1) xs) ≡ false)
numbers xs i h e = neither _ _ (sym (next xs i h) ∙ e)

-- where none is a NaN, that at a place is none
pub number_at : (xs : List Float) (i : ℕ) → i < length xs → has_nan xs ≡ false → is_nan (get_or xs i nan) ≡ false
unfolding has_nan
number_at [] i h e = absurd (omega arith)
number_at (x ∷ xs) zero h e = (neither _ _ e).0
number_at (x ∷ xs) (suc i) h e = number_at xs i (omega arith) (neither _ _ e).1

-- ---- a row filled from the front
pub stored :
    {A B : Type 0} (f : A → B) (xs : List A) (row : List B) (i : ℕ) (d : A) → i < length xs → length row ≡ length xs →
    set (take i (map f xs) ++ drop i row) i (f (get_or xs i d)) ≡ take (suc i) (map f xs) ++ drop (suc i) row
stored f [] row i d h e = absurd (omega arith)
stored f (x ∷ xs) [] i d h e = absurd (omega arith)
stored f (x ∷ xs) (y ∷ row) zero d h e = refl
stored f (x ∷ xs) (y ∷ row) (suc i) d h e = ap (λ o. f x ∷ o) (stored f xs row i d (omega arith) (omega arith))
