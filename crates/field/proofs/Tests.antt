-- A rule at every number below a bound, by one test that antt computes; and at both widths.
-- Assumes nothing.
use Rattle.basics.proofs.Kit.{◌≡◌, refl, sym, Bool, true, false, ◌&&◌, ℕ, zero, suc, ◌^◌, ◌≤◌, ◌<◌, arith, eqb, leb}
use mathlib.Core.Path.{subst}
use mathlib.Core.Logic.{◌⊎◌, inl, inr}
use native.Mathlib.Nat.{le_of_suc-le-suc, not-suc-le-zero, eq-or-lt_of_le}
use lib.Dec.{T, leb→le, eqb→eq}
use Rattle.field.specs.Field.{width_good}

pub and_l : (a b : Bool) → T (a && b) → T a
and_l true b t = tt
and_l false b t = t

pub and_r : (a b : Bool) → T (a && b) → T b
and_r true b t = t
and_r false b t = absurd t

pub to_T : {b : Bool} → b ≡ true → T b
to_T e = subst (λ (x : Bool). T x) (sym e) tt

pub from_T : (b : Bool) → T b → b ≡ true
from_T true t = refl
from_T false t = absurd t

abbrev pub all : ℕ → (ℕ → Bool) → Bool
all zero f = true
all (suc n) f = f n && all n f

pub at : (n : ℕ) (f : ℕ → Bool) → T (all n f) → (k : ℕ) → k < n → T (f k)
at zero f t k h = absurd (not-suc-le-zero h)
at (suc n) f t k h = pick (at n f (and_r (f n) (all n f) t) k) (eq-or-lt_of_le (le_of_suc-le-suc h))
  where
    pick : (k < n → T (f k)) → (k ≡ n) ⊎ (k < n) → T (f k)
    pick go (inl e) = subst (λ (x : ℕ). T (f x)) (sym e) (and_l (f n) (all n f) t)
    pick go (inr l) = go l

-- m is 3 or 4
pub widths {ℓ} : (P : ℕ → Type ℓ) → P 3 → P 4 → (m : ℕ) → width_good m ≡ true → P m
unfolding width_good
widths P p q m w = go m (leb→le 3 m (and_l (leb 3 m) (leb m 4) (to_T w))) (leb→le m 4 (and_r (leb 3 m) (leb m 4) (to_T w)))
  where
    go : (m : ℕ) → 3 ≤ m → m ≤ 4 → P m
    go zero l h = absurd (not-suc-le-zero l)
    go (suc zero) l h = absurd (omega arith)
    go (suc (suc zero)) l h = absurd (omega arith)
    go (suc (suc (suc zero))) l h = p
    go (suc (suc (suc (suc zero)))) l h = q
    go (suc (suc (suc (suc (suc n))))) l h = absurd (omega arith)

-- the width that is not 3
pub not_three : (m : ℕ) → width_good m ≡ true → (m ≡ 3 → ⊥) → m ≡ 4
not_three = widths (λ (m : ℕ). (m ≡ 3 → ⊥) → m ≡ 4) (λ n. absurd (n refl)) (λ n. refl)

abbrev pub same1 : (f g : (m a : ℕ) → ℕ) → (m : ℕ) → Bool
same1 f g m = all (2 ^ m) (λ a. eqb (f m a) (g m a))

abbrev pub same2 : (f g : (m a b : ℕ) → ℕ) → (m : ℕ) → Bool
same2 f g m = all (2 ^ m) (λ a. all (2 ^ m) (λ b. eqb (f m a b) (g m a b)))

-- equations of one and two elements, by a test at width 3 and one at width 4
pub eq1 : (f g : (m a : ℕ) → ℕ) → T (same1 f g 3) → T (same1 f g 4) → (m : ℕ) → width_good m ≡ true → (a : ℕ) → a < 2 ^ m → f m a ≡ g m a
eq1 f g p q m w a ha = eqb→eq (f m a) (g m a) (at (2 ^ m) (λ x. eqb (f m x) (g m x)) (widths (λ x. T (same1 f g x)) p q m w) a ha)

pub eq2 :
    (f g : (m a b : ℕ) → ℕ) → T (same2 f g 3) → T (same2 f g 4) →
    (m : ℕ) → width_good m ≡ true → (a b : ℕ) → a < 2 ^ m → b < 2 ^ m → f m a b ≡ g m a b
eq2 f g p q m w a b ha hb =
    eqb→eq (f m a b) (g m a b)
    (at (2 ^ m) (λ y. eqb (f m a y) (g m a y))
    (at (2 ^ m) (λ x. all (2 ^ m) (λ y. eqb (f m x y) (g m x y))) (widths (λ x. T (same2 f g x)) p q m w) a ha) b hb)

-- an equation of two numbers below bounds of their own
abbrev pub same_below : (n p : ℕ) → (f g : ℕ → ℕ → ℕ) → Bool
same_below n p f g = all n (λ a. all p (λ b. eqb (f a b) (g a b)))

pub eq_below : (n p : ℕ) (f g : ℕ → ℕ → ℕ) → T (same_below n p f g) → (a b : ℕ) → a < n → b < p → f a b ≡ g a b
eq_below n p f g t a b ha hb =
    eqb→eq (f a b) (g a b) (at p (λ y. eqb (f a y) (g a y)) (at n (λ x. all p (λ y. eqb (f x y) (g x y))) t a ha) b hb)

-- any test of two elements
pub rule2 : (f : (m a b : ℕ) → Bool) → T (all 8 (λ a. all 8 (λ b. f 3 a b))) → T (all 16 (λ a. all 16 (λ b. f 4 a b))) →
    (m : ℕ) → width_good m ≡ true → (a b : ℕ) → a < 2 ^ m → b < 2 ^ m → T (f m a b)
rule2 f p q m w a b ha hb =
    at (2 ^ m) (λ y. f m a y) (at (2 ^ m) (λ x. all (2 ^ m) (λ y. f m x y)) (widths (λ m. T (all (2 ^ m) (λ a. all (2 ^ m) (λ b. f m a b)))) p q m w) a ha) b hb
