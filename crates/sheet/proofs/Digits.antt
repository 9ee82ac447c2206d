-- Digits and the number that has them, to any base: both round trips.
-- Assumes nothing.
use Rattle.basics.proofs.Kit.{◌≡◌, refl, sym, ap, ap₂, ◌∙◌, List, [], ◌∷◌, ℕ, zero, suc, ◌+◌, ◌*◌, ◌/◌, ◌%◌, ◌^◌, ◌<◌, arith, length}
use mathlib.Core.Path.{subst}
use native.Mathlib.Nat.{add-mul-mod_self_left, add-mul-div_left, mod-eq_of_lt, div-eq_of_lt, mod-lt, mod-add-div, mul-suc, zero-add, div-div-eq-div-mul, div-one, mul-le-mul_left, pow-zero, pow-succ'}
use lib.Dec.{lit<}
use Rattle.code.proofs.Words.{Below}
use Rattle.sheet.specs.Sheet.{digits, packed}

pub digits_length : (b n v : ℕ) → length (digits b n v) ≡ n
unfolding digits
digits_length b zero v = refl
digits_length b (suc n) v = ap suc (digits_length b n (v / b))

-- a number whose digits are all there
pub packed_digits : (b n v : ℕ) → v / b ^ n ≡ 0 → packed b (digits b n v) ≡ v
unfolding digits packed
packed_digits b zero v e = sym (rw (pow-zero b, div-one v) at e)
packed_digits b (suc n) v e =
    ap (λ (x : ℕ). v % b + b * x) (packed_digits b n (v / b) (div-div-eq-div-mul v b (b ^ n) ∙ ap (λ (x : ℕ). v / x) (sym (pow-succ' b n)) ∙ e))
    ∙ mod-add-div v b

module _ (b : ℕ) (some : 0 < b) where
  pub digits_below : (n v : ℕ) → Below b (digits b n v)
  unfolding digits
  digits_below zero v = tt
  digits_below (suc n) v = (mod-lt v some, digits_below n (v / b))

  pub digits_packed : (ds : List ℕ) → Below b ds → digits b (length ds) (packed b ds) ≡ ds
  unfolding digits packed
  digits_packed [] g = refl
  digits_packed (d ∷ ds) g =
      ap₂ ◌∷◌ (add-mul-mod_self_left d b (packed b ds) ∙ mod-eq_of_lt g.0)
      (ap (digits b (length ds)) (add-mul-div_left d (packed b ds) some ∙ ap (λ (x : ℕ). x + packed b ds) (div-eq_of_lt g.0) ∙ zero-add (packed b ds))
      ∙ digits_packed ds g.1)

-- so many digits stay below that power
pub packed_lt : (b : ℕ) (ds : List ℕ) → Below b ds → packed b ds < b ^ length ds
unfolding packed
packed_lt b [] g = rw (pow-zero b) (lit< tt)
packed_lt b (d ∷ ds) g =
    subst (λ (x : ℕ). d + b * packed b ds < x) (sym (pow-succ' b (length ds)))
    (omega (arith, g.0, mul-le-mul_left b (packed_lt b ds g.1), mul-suc b (packed b ds)))
