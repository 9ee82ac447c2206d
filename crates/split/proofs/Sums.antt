-- Sums of a table's numbers at the 1 bits of k: of zeros, of numbers below a bound, under a function that takes sums to sums, and of powers of 2.
-- Assumes nothing.
use Rattle.basics.proofs.Kit.{◌≡◌, refl, sym, ap, ap₂, ◌∙◌, Bool, true, false, ◌&&◌, cond, List, [], ◌∷◌, ℕ, zero, suc, ◌+◌, ◌*◌, ◌/◌, ◌%◌, ◌^◌, ◌<◌, arith, length, eqb}
use mathlib.Core.List.{map}
use native.Mathlib.Nat.{mod-lt, zero-lt-suc, zero-mul, add-zero, mul-one, mul_comm, mul_assoc, suc-mul, pow-suc, pow-succ'}
use native.Mathlib.Numerals.{add-one}
use lib.Bits as B
use lib.Dec.{T, eqb→eq}
use lib.ListN.{replicate}
use lib.Pow.{pow_pos}
use Rattle.field.specs.Field.{xor}
use Rattle.field.proofs.Tests.{and_l, and_r}
use Rattle.field.proofs.Xor as X
use Rattle.code.proofs.Words.{Below}
use Rattle.split.specs.Members.{where_odd, picked}
use Rattle.split.proofs.Numbers.{half_lt}

-- what holds of 0 and of a number, holds of it where the lowest bit is 1
pub odd_either : (P : ℕ → Type 0) (k x : ℕ) → P 0 → P x → P (where_odd k x)
odd_either P k x p q = go (eqb (k % 2) 0)
  where
    go : (b : Bool) → P (cond b 0 x)
    go true = p
    go false = q

pub odd_none : (k : ℕ) → where_odd k 0 ≡ 0
odd_none k = odd_either (λ x. x ≡ 0) k 0 refl refl

pub odd_map : (f : ℕ → ℕ) → f 0 ≡ 0 → (k x : ℕ) → f (where_odd k x) ≡ where_odd k (f x)
odd_map f z k x = go (eqb (k % 2) 0)
  where
    go : (b : Bool) → f (cond b 0 x) ≡ cond b 0 (f x)
    go true = z
    go false = refl

pub picked_zeros : (n k : ℕ) → picked (replicate n 0) k ≡ 0
unfolding picked
picked_zeros zero k = refl
picked_zeros (suc n) k = ap₂ xor (odd_none k) (picked_zeros n (k / 2)) ∙ X.self 0

pub picked_lt : (n : ℕ) (ts : List ℕ) (k : ℕ) → Below (2 ^ n) ts → picked ts k < 2 ^ n
unfolding picked
picked_lt n [] k p = pow_pos n
picked_lt n (t ∷ ts) k p = X.below n _ _ (odd_either (λ x. x < 2 ^ n) k t (pow_pos n) p.0) (picked_lt n ts (k / 2) p.1)

-- powers of 2
unfoldable pub powers : (many j : ℕ) → List ℕ
powers zero j = []
powers (suc k) j = 2 ^ j ∷ powers k (suc j)

pub powers_long : (k j : ℕ) → length (powers k j) ≡ k
unfolding powers
powers_long zero j = refl
powers_long (suc k) j = ap suc (powers_long k (suc j))

evens : (j a : ℕ) → a * 2 ^ suc j ≡ 2 * a * 2 ^ j
evens j a = ap (λ (x : ℕ). a * x) (pow-succ' 2 j) ∙ sym (ap (λ (x : ℕ). x * 2 ^ j) (mul_comm 2 a) ∙ mul_assoc a 2 (2 ^ j))

shifted : (a k b : ℕ) → b < 2 ^ k → xor (a * 2 ^ k) b ≡ a * 2 ^ k + b
unfolding xor
shifted = B.xor_shifted

one_power : (j s a b : ℕ) → s ≡ 2 * a + b → b < 2 → xor (cond (eqb b 0) 0 (2 ^ j)) (a * 2 ^ suc j) ≡ s * 2 ^ j
one_power j s a zero e l = X.zero_l (a * 2 ^ suc j) ∙ evens j a ∙ ap (λ (x : ℕ). x * 2 ^ j) (sym (e ∙ add-zero (2 * a)))
one_power j s a (suc zero) e l =
    X.comm (2 ^ j) (a * 2 ^ suc j) ∙ shifted a (suc j) (2 ^ j) (omega (arith, pow-suc 2 j, pow_pos j)) ∙ ap (λ (x : ℕ). x + 2 ^ j) (evens j a)
    ∙ sym (suc-mul (2 * a) (2 ^ j)) ∙ ap (λ (x : ℕ). x * 2 ^ j) (sym (e ∙ add-one (2 * a)))
one_power j s a (suc (suc b)) e l = absurd (omega arith)

pub picked_powers : (k j s : ℕ) → s < 2 ^ k → picked (powers k j) s ≡ s * 2 ^ j
unfolding powers picked
picked_powers zero j s h = let e : s ≡ 0 = omega arith in rw e (sym (zero-mul (2 ^ j)))
picked_powers (suc k) j s h =
    ap (xor (where_odd s (2 ^ j))) (picked_powers k (suc j) (s / 2) (half_lt k s h))
    ∙ one_power j s (s / 2) (s % 2) (omega arith) (mod-lt s (zero-lt-suc 1))

-- two tables, compared
unfoldable pub same : List ℕ → List ℕ → Bool
same [] [] = true
same [] (y ∷ ys) = false
same (x ∷ xs) [] = false
same (x ∷ xs) (y ∷ ys) = eqb x y && same xs ys

pub same_is : (xs ys : List ℕ) → T (same xs ys) → xs ≡ ys
unfolding same
same_is [] [] t = refl
same_is [] (y ∷ ys) t = absurd t
same_is (x ∷ xs) [] t = absurd t
same_is (x ∷ xs) (y ∷ ys) t = ap₂ ◌∷◌ (eqb→eq x y (and_l (eqb x y) (same xs ys) t)) (same_is xs ys (and_r (eqb x y) (same xs ys) t))

-- a function that takes sums to sums
module _ (f : ℕ → ℕ) (add : (a b : ℕ) → f (xor a b) ≡ xor (f a) (f b)) where
  pub none : f 0 ≡ 0
  none = ap f (sym (X.self 0)) ∙ add 0 0 ∙ X.self (f 0)

  pub picked_map : (ts : List ℕ) (k : ℕ) → f (picked ts k) ≡ picked (map f ts) k
  unfolding picked
  picked_map [] k = none
  picked_map (t ∷ ts) k = add _ _ ∙ ap₂ xor (odd_map f none k t) (picked_map ts (k / 2))

  -- that takes each number of a table to its bit
  pub picked_back : (ts : List ℕ) (n k : ℕ) → T (same (map f ts) (powers n 0)) → k < 2 ^ n → f (picked ts k) ≡ k
  picked_back ts n k t h = picked_map ts k ∙ ap (λ l. picked l k) (same_is _ _ t) ∙ picked_powers n 0 k h ∙ mul-one k
