-- The least of finitely many numbers and a cap.
-- Assumes nothing.
use Rattle.basics.proofs.Kit.{◌≡◌, refl, ap, ℕ, zero, suc, ◌≤◌, ◌<◌, min, arith}
use mathlib.Core.Logic.{◌⊎◌, inl, inr}
use native.Mathlib.Nat.{not-suc-le-zero, eq-or-lt_of_le, le_of_suc-le-suc, le_antisymm}
use native.Mathlib.Decide.{dec_le}
use Rattle.trellis.specs.Trellis.{least_of}

pub least_cap : (f : ℕ → ℕ) (cap n : ℕ) → least_of f cap n ≤ cap
unfolding least_of
least_cap f cap zero = omega arith
least_cap f cap (suc n) = omega (arith, least_cap f cap n)

pub least_le : (f : ℕ → ℕ) (cap n k : ℕ) → k < n → least_of f cap n ≤ f k
unfolding least_of
least_le f cap zero k h = absurd (not-suc-le-zero h)
least_le f cap (suc n) k h = go (least_le f cap n k) (eq-or-lt_of_le (le_of_suc-le-suc h))
  where
    go : (k < n → least_of f cap n ≤ f k) → (k ≡ n) ⊎ (k < n) → min (least_of f cap n) (f n) ≤ f k
    go ih (inl e) = omega (arith, ap f e)
    go ih (inr l) = omega (arith, ih l)

-- below the cap it is one of the numbers
pub least_found : (f : ℕ → ℕ) (cap n : ℕ) → least_of f cap n < cap → (k : ℕ) × (k < n) × (f k ≡ least_of f cap n)
unfolding least_of
least_found f cap zero h = absurd (omega arith)
least_found f cap (suc n) h = go (dec_le (least_of f cap n) (f n)) (least_found f cap n)
  where
    go : Dec (least_of f cap n ≤ f n) → (least_of f cap n < cap → (k : ℕ) × (k < n) × (f k ≡ least_of f cap n)) →
        (k : ℕ) × (k < suc n) × (f k ≡ min (least_of f cap n) (f n))
    go (yes l) ih = let r = ih (omega arith) in (r.0, omega (arith, r.1), omega (arith, r.2))
    go (no l) ih = (n, omega arith, omega arith)

-- a number that is at most the cap and each of them is at most the least
pub le_least : (f : ℕ → ℕ) (cap n x : ℕ) → x ≤ cap → ((k : ℕ) → k < n → x ≤ f k) → x ≤ least_of f cap n
unfolding least_of
le_least f cap zero x l h = l
le_least f cap (suc n) x l h = omega (arith, le_least f cap n x l (λ k b. h k (omega arith)), h n (omega arith))

pub least_same : (f g : ℕ → ℕ) (cap n : ℕ) → ((k : ℕ) → k < n → f k ≡ g k) → least_of f cap n ≡ least_of g cap n
unfolding least_of
least_same f g cap zero h = refl
least_same f g cap (suc n) h = omega (arith, h n (omega arith), least_same f g cap n (λ i b. h i (omega arith)))

-- the same least, where each number of either is at least one of the other
pub least_matched : (f g : ℕ → ℕ) (cap n : ℕ) → ((k : ℕ) → k < n → (i : ℕ) × (i < n) × (f i ≤ g k)) → ((k : ℕ) → k < n → (i : ℕ) × (i < n) × (g i ≤ f k)) →
    least_of f cap n ≡ least_of g cap n
least_matched f g cap n a b =
    le_antisymm
    (le_least g cap n (least_of f cap n) (least_cap f cap n) (λ k h. let r = a k h in omega (arith, r.2, least_le f cap n r.0 r.1)))
    (le_least f cap n (least_of g cap n) (least_cap g cap n) (λ k h. let r = b k h in omega (arith, r.2, least_le g cap n r.0 r.1)))
