-- The statements of specs/Promise.antt.
-- Assumes nothing.
use Rattle.basics.proofs.Kit.{◌≡◌, refl, sym, ap₂, ◌∙◌, Bool, true, false, ◌&&◌, ◌||◌, List, [], ◌∷◌, ℕ, ◌≤◌, ◌<◌, arith, eqb, ltb}
use mathlib.Core.Bool.{false≢true}
use mathlib.Core.Logic.{◌⊎◌, inl, inr}
use native.Mathlib.Nat.{eq-or-lt_of_le}
use native.Mathlib.Decide.{dec_le}
use borrow.Author.Tests.{ltb-true, lt-ltb, eqb-true, eq-eqb}
use Rattle.order.specs.Order.{not_after}
use Rattle.order.specs.Promise.{OrderTotal, OrderAntisymmetric, OrderTransitive}

-- the first symbol is less, or it is the same and what follows does not come after
pub heads : (v w : ℕ) (vs ws : List ℕ) → not_after (v ∷ vs) (w ∷ ws) ≡ true → (v < w) ⊎ ((v ≡ w) × (not_after vs ws ≡ true))
unfolding not_after
heads v w vs ws h = go (ltb v w) refl (eqb v w) refl (not_after vs ws) refl h
  where
    go : (a : Bool) → ltb v w ≡ a → (b : Bool) → eqb v w ≡ b → (c : Bool) → not_after vs ws ≡ c → (a || (b && c)) ≡ true → (v < w) ⊎ ((v ≡ w) × (not_after vs ws ≡ true))
    go true a b eb c ec e = inl (ltb-true v w a)
    go false a true eb true ec e = inr (eqb-true v w eb, ec)
    go false a true eb false ec e = absurd (false≢true e)
    go false a false eb c ec e = absurd (false≢true e)

pub less_head : (v w : ℕ) (vs ws : List ℕ) → v < w → not_after (v ∷ vs) (w ∷ ws) ≡ true
unfolding not_after
less_head v w vs ws h = rw (lt-ltb v w h) refl

pub same_head : (v w : ℕ) (vs ws : List ℕ) → v ≡ w → not_after vs ws ≡ true → not_after (v ∷ vs) (w ∷ ws) ≡ true
unfolding not_after
same_head v w vs ws e h = go (ltb v w) (eqb v w) (eq-eqb v w e)
  where
    go : (a b : Bool) → b ≡ true → (a || (b && not_after vs ws)) ≡ true
    go true b x = refl
    go false b x = rw (x, h) refl

-- two numbers
pub data Compared (v w : ℕ) : Type 0 where
  less : v < w → Compared v w
  equal : v ≡ w → Compared v w
  more : w < v → Compared v w

pub compared : (v w : ℕ) → Compared v w
compared v w = go (dec_le v w)
  where
    same : (v ≡ w) ⊎ (v < w) → Compared v w
    same (inl e) = equal e
    same (inr h) = less h

    go : Dec (v ≤ w) → Compared v w
    go (yes h) = same (eq-or-lt_of_le h)
    go (no h) = more (omega arith)

left_true : (a b : Bool) → a ≡ true → (a || b) ≡ true
left_true a b e = rw e refl

right_true : (a b : Bool) → b ≡ true → (a || b) ≡ true
right_true true b e = refl
right_true false b e = e

pub order_total : OrderTotal
unfolding OrderTotal not_after
order_total [] ws = refl
order_total (v ∷ vs) [] = refl
order_total (v ∷ vs) (w ∷ ws) = go (compared v w) (not_after vs ws) refl (order_total vs ws)
  where
    go : Compared v w → (a : Bool) → not_after vs ws ≡ a → (a || not_after ws vs) ≡ true → (not_after (v ∷ vs) (w ∷ ws) || not_after (w ∷ ws) (v ∷ vs)) ≡ true
    go (less h) a ea e = left_true (not_after (v ∷ vs) (w ∷ ws)) (not_after (w ∷ ws) (v ∷ vs)) (less_head v w vs ws h)
    go (more h) a ea e = right_true (not_after (v ∷ vs) (w ∷ ws)) (not_after (w ∷ ws) (v ∷ vs)) (less_head w v ws vs h)
    go (equal h) true ea e = left_true (not_after (v ∷ vs) (w ∷ ws)) (not_after (w ∷ ws) (v ∷ vs)) (same_head v w vs ws h ea)
    go (equal h) false ea e = right_true (not_after (v ∷ vs) (w ∷ ws)) (not_after (w ∷ ws) (v ∷ vs)) (same_head w v ws vs (sym h) e)

pub order_antisymmetric : OrderAntisymmetric
unfolding OrderAntisymmetric
order_antisymmetric [] [] p q = refl
order_antisymmetric [] (w ∷ ws) p q = absurd (false≢true (unfold not_after in q))
order_antisymmetric (v ∷ vs) [] p q = absurd (false≢true (unfold not_after in p))
order_antisymmetric (v ∷ vs) (w ∷ ws) p q = go (order_antisymmetric vs ws) (heads v w vs ws p) (heads w v ws vs q)
  where
    go : (not_after vs ws ≡ true → not_after ws vs ≡ true → vs ≡ ws) → (v < w) ⊎ ((v ≡ w) × (not_after vs ws ≡ true)) → (w < v) ⊎ ((w ≡ v) × (not_after ws vs ≡ true)) → ◌≡◌ {A = List ℕ} (v ∷ vs) (w ∷ ws)
    go rec (inl a) (inl b) = absurd (omega arith)
    go rec (inl a) (inr b) = absurd (omega (arith, b.0))
    go rec (inr a) (inl b) = absurd (omega (arith, a.0))
    go rec (inr a) (inr b) = ap₂ (λ (x : ℕ) (xs : List ℕ). x ∷ xs) a.0 (rec a.1 b.1)

pub order_transitive : OrderTransitive
unfolding OrderTransitive
order_transitive [] vs ws p q = unfold not_after in refl
order_transitive (u ∷ us) [] ws p q = absurd (false≢true (unfold not_after in p))
order_transitive (u ∷ us) (v ∷ vs) [] p q = absurd (false≢true (unfold not_after in q))
order_transitive (u ∷ us) (v ∷ vs) (w ∷ ws) p q = go (order_transitive us vs ws) (heads u v us vs p) (heads v w vs ws q)
  where
    go : (not_after us vs ≡ true → not_after vs ws ≡ true → not_after us ws ≡ true) → (u < v) ⊎ ((u ≡ v) × (not_after us vs ≡ true)) → (v < w) ⊎ ((v ≡ w) × (not_after vs ws ≡ true)) → not_after (u ∷ us) (w ∷ ws) ≡ true
    go rec (inl a) (inl b) = less_head u w us ws (omega arith)
    go rec (inl a) (inr b) = less_head u w us ws (omega (arith, b.0))
    go rec (inr a) (inl b) = less_head u w us ws (omega (arith, a.0))
    go rec (inr a) (inr b) = same_head u w us ws (a.0 ∙ b.0) (rec a.1 b.1)
