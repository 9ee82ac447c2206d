-- Decimal digits: a number's digits are those of its tenth part and its last one, and a number below 10^k has at most k of them.
-- Assumes nothing.
use Rattle.basics.proofs.Kit.{◌≡◌, refl, ap, Bool, true, false, cond, [], ◌∷◌, ◌++◌, ℕ, zero, suc, ◌*◌, ◌/◌, ◌%◌, ◌^◌, ◌≤◌, ◌<◌, arith, length, ltb}
use native.Mathlib.Nat.{pow-succ'}
use lib.ListN.{length-append}
use borrow.Author.Tests.{ltb-true, ltb-false, lt-ltb, le-ltb}
use Rattle.text.specs.Text.{digit, decimal_from, decimal}

-- steps beyond those that are needed change nothing
steps : (a b n : ℕ) → n < a → n < b → decimal_from a n ≡ decimal_from b n
unfolding decimal_from
steps zero b n p q = absurd (omega arith)
steps (suc a) zero n p q = absurd (omega arith)
steps (suc a) (suc b) n p q = go (ltb n 10) refl (λ h. steps a b (n / 10) (omega arith) (omega arith))
  where
    go :
        (t : Bool) → ltb n 10 ≡ t → (10 ≤ n → decimal_from a (n / 10) ≡ decimal_from b (n / 10)) →
        cond t (digit n ∷ []) (decimal_from a (n / 10) ++ (digit (n % 10) ∷ [])) ≡ cond t (digit n ∷ []) (decimal_from b (n / 10) ++ (digit (n % 10) ∷ []))
    go true e r = refl
    go false e r = rw (r (ltb-false n 10 e))

pub decimal_one : (n : ℕ) → n < 10 → decimal n ≡ digit n ∷ []
unfolding decimal decimal_from
decimal_one n h = rw (lt-ltb n 10 h)

pub decimal_more : (n : ℕ) → 10 ≤ n → decimal n ≡ decimal (n / 10) ++ (digit (n % 10) ∷ [])
unfolding decimal decimal_from
decimal_more n h =
    rw (le-ltb n 10 h) (ap (λ l. l ++ (digit (n % 10) ∷ [])) (steps n (suc (n / 10)) (n / 10) (omega arith) (omega arith)))

pub digits_at_most : (k n : ℕ) → n < 10 ^ suc k → length (decimal n) ≤ suc k
digits_at_most zero n h = rw (decimal_one n h) (omega arith)
digits_at_most (suc k) n h = go (ltb n 10) refl (λ p. digits_at_most k (n / 10) p)
  where
    go : (t : Bool) → ltb n 10 ≡ t → (n / 10 < 10 ^ suc k → length (decimal (n / 10)) ≤ suc k) → length (decimal n) ≤ suc (suc k)
    go true e r = rw (decimal_one n (ltb-true n 10 e)) (omega arith)
    go false e r =
        let h' : n < 10 * 10 ^ suc k = rw (pow-succ' 10 (suc k)) at h in
        let l : length (decimal (n / 10)) ≤ suc k = r (omega arith) in
        rw (decimal_more n (ltb-false n 10 e), length-append) (omega arith)
