-- WORDS OF ONE LENGTH ARE ORDERED AS THEIR NUMBERS.
-- Assumes nothing.
use Rattle.basics.proofs.Kit.{◌≡◌, refl, ap, ap₂, true, List, [], ◌∷◌, ℕ, ◌*◌, ◌^◌, ◌≤◌, ◌<◌, arith, length}
use mathlib.Core.Logic.{◌⊎◌, inl, inr}
use native.Mathlib.Nat.{suc_inj, suc-mul, mul-le-mul_right, mul_comm, pow-zero, pow-succ'}
use Rattle.order.specs.Order.{not_after}
use Rattle.order.specs.Number.{number, Digits}
use Rattle.order.proofs.Promise.{heads, less_head, same_head, Compared, less, equal, more, compared}

pub number_lt : (b : ℕ) (ws : List ℕ) → Digits b ws → number b ws < b ^ length ws
unfolding number
number_lt b [] d = omega (arith, pow-zero b)
number_lt b (c ∷ cs) d =
    let p : ℕ = b ^ length cs in
    omega (arith, number_lt b cs d.1, mul-le-mul_right p d.0, suc-mul c p, pow-succ' b (length cs), mul_comm b p)

module _ (b : ℕ) where
  -- a greater first symbol outweighs what follows
  outweighs : (v w : ℕ) (vs ws : List ℕ) → length vs ≡ length ws → Digits b vs → v < w → number b (v ∷ vs) < number b (w ∷ ws)
  unfolding number
  outweighs v w vs ws l d h =
      let p : ℕ = b ^ length ws in
      omega (arith, ap (λ (n : ℕ). b ^ n) l, ap (λ (n : ℕ). v * b ^ n) l, number_lt b vs d, mul-le-mul_right p h, suc-mul v p)

  pub number_le : (vs ws : List ℕ) → length vs ≡ length ws → Digits b vs → not_after vs ws ≡ true → number b vs ≤ number b ws
  unfolding number
  number_le [] ws l d h = omega arith
  number_le (v ∷ vs) [] l d h = absurd (omega arith)
  number_le (v ∷ vs) (w ∷ ws) l d h = go (number_le vs ws (suc_inj l) d.1) (heads v w vs ws h)
    where
      go : (not_after vs ws ≡ true → number b vs ≤ number b ws) → (v < w) ⊎ ((v ≡ w) × (not_after vs ws ≡ true)) → number b (v ∷ vs) ≤ number b (w ∷ ws)
      go rec (inl a) = omega (arith, outweighs v w vs ws (suc_inj l) d.1 a)
      go rec (inr a) = omega (arith, rec a.1, ap₂ (λ (x n : ℕ). x * b ^ n) a.0 (suc_inj l))

  pub le_number : (vs ws : List ℕ) → length vs ≡ length ws → Digits b ws → number b vs ≤ number b ws → not_after vs ws ≡ true
  unfolding number not_after
  le_number [] ws l d h = refl
  le_number (v ∷ vs) [] l d h = absurd (omega arith)
  le_number (v ∷ vs) (w ∷ ws) l d h = go (le_number vs ws (suc_inj l) d.1) (compared v w)
    where
      go : (number b vs ≤ number b ws → not_after vs ws ≡ true) → Compared v w → not_after (v ∷ vs) (w ∷ ws) ≡ true
      go rec (less a) = less_head v w vs ws a
      go rec (equal a) = same_head v w vs ws a (rec (omega (arith, ap₂ (λ (x n : ℕ). x * b ^ n) a (suc_inj l))))
      go rec (more a) = absurd (omega (arith, outweighs w v ws vs (omega arith) d.1 a))
