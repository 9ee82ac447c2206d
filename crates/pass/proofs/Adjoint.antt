-- A step may be taken from the front or from the back: where two tables meet, the least is the same. So the tables from the front, started
-- from any table g and met with those from the back, give the least of g plus the whole table in which one bit is held.
-- Assumes nothing.
use Rattle.basics.proofs.Kit.{◌≡◌, refl, sym, ap, ap₂, ◌∙◌, Bool, cond, ℕ, zero, suc, ◌+◌, ◌^◌, ◌≤◌, ◌<◌, arith}
use native.Mathlib.Nat.{zero-add}
use native.Mathlib.Decide.{dec_le}
use borrow.Author.Tests.{eq-eqb, ne_eqb}
use Rattle.field.specs.Field.{xor}
use Rattle.field.proofs.Xor as X
use Rattle.trellis.specs.Trellis.{Column, Columns, pick, Choice, either, only, step, back, fore, free, least_of, holding, meet}
use Rattle.trellis.proofs.Least.{least_matched}

module _ (q cap : ℕ) where
  turned : (x s : ℕ) → x < 2 ^ q → s < 2 ^ q → xor s x < 2 ^ q
  turned x s hx hs = X.below q s x hs hx

  -- one bit
  adjoint_only : (b : ℕ) (c : Column) (g u : ℕ → ℕ) → c.h < 2 ^ q → meet cap (2 ^ q) (step (only b) c g) u ≡ meet cap (2 ^ q) g (step (only b) c u)
  unfolding step
  adjoint_only b c g u h =
      least_matched (λ s. step (only b) c g s + u s) (λ s. g s + step (only b) c u s) cap (2 ^ q)
      (λ k l. (xor k x, turned x k hx l, omega (arith, ap g (X.uncancel k x)))) (λ k l. (xor k x, turned x k hx l, omega (arith, ap u (X.uncancel k x))))
    where
      x : ℕ
      x = pick b 0 c.h

      low : (b : ℕ) → pick b 0 c.h < 2 ^ q
      low zero = omega arith
      low (suc b) = h

      hx : x < 2 ^ q
      hx = low b

  -- either bit
  adjoint_either : (c : Column) (g u : ℕ → ℕ) → c.h < 2 ^ q → meet cap (2 ^ q) (step either c g) u ≡ meet cap (2 ^ q) g (step either c u)
  unfolding step
  adjoint_either c g u h =
      least_matched (λ s. step either c g s + u s) (λ s. g s + step either c u s) cap (2 ^ q)
      (λ k l. one k l (dec_le (u k + c.c0) (u (xor k c.h) + c.c1))) (λ k l. two k l (dec_le (g k + c.c0) (g (xor k c.h) + c.c1)))
    where
      one : (k : ℕ) → k < 2 ^ q → Dec (u k + c.c0 ≤ u (xor k c.h) + c.c1) → (i : ℕ) × (i < 2 ^ q) × (step either c g i + u i ≤ g k + step either c u k)
      one k l (yes a) = (k, l, omega arith)
      one k l (no a) = (xor k c.h, turned c.h k h l, omega (arith, ap g (X.uncancel k c.h)))

      two : (k : ℕ) → k < 2 ^ q → Dec (g k + c.c0 ≤ g (xor k c.h) + c.c1) → (i : ℕ) × (i < 2 ^ q) × (g i + step either c u i ≤ step either c g k + u k)
      two k l (yes a) = (k, l, omega arith)
      two k l (no a) = (xor k c.h, turned c.h k h l, omega (arith, ap u (X.uncancel k c.h)))

  adjoint : (a : Choice) (c : Column) (g u : ℕ → ℕ) → c.h < 2 ^ q → meet cap (2 ^ q) (step a c g) u ≡ meet cap (2 ^ q) g (step a c u)
  adjoint either c g u h = adjoint_either c g u h
  adjoint (only b) c g u h = adjoint_only b c g u h

module _ (q cap n : ℕ) (col : Columns) (inside : (i : ℕ) → i < n → (col i).h < 2 ^ q) (g : ℕ → ℕ) where
  -- the tables from the front are those from the back, met with any table behind
  moved : (hold : ℕ → Choice) (v : ℕ → ℕ) (i k : ℕ) → i + k ≡ n → ((p : ℕ) → p < i → hold p ≡ either) →
      meet cap (2 ^ q) (fore col g i) (back hold col v i k) ≡ meet cap (2 ^ q) g (back hold col v 0 n)
  unfolding fore back
  moved hold v zero k e f = ap (λ (x : ℕ). meet cap (2 ^ q) g (back hold col v 0 x)) (sym (zero-add k) ∙ e)
  moved hold v (suc i) k e f =
      adjoint q cap either (col i) (fore col g i) (back hold col v (suc i) k) (inside i (omega arith))
      ∙ ap (λ (a : Choice). meet cap (2 ^ q) (fore col g i) (step a (col i) (back hold col v (suc i) k))) (sym (f i (omega arith)))
      ∙ moved hold v i (suc k) (omega arith) (λ p h. f p (omega arith))

  after : (i v p k : ℕ) (u : ℕ → ℕ) → i < p → back (holding i v) col u p k ≡ back free col u p k
  unfolding back
  after i v p zero u h = refl
  after i v p (suc k) u h =
      ap₂ (λ (a : Choice) (t : ℕ → ℕ). step a (col p) t) (ap (λ (b : Bool). cond b (only v) either) (ne_eqb p i (λ e. omega arith))) (after i v (suc p) k u (omega arith))

  -- THE SOFT PASS: where the column's bit is v, from the front by g and from the back by u
  pub held : (i k v : ℕ) (u : ℕ → ℕ) → i + suc k ≡ n →
      least_of (λ s. step (only v) (col i) (fore col g i) s + back free col u (suc i) k s) cap (2 ^ q) ≡ meet cap (2 ^ q) g (back (holding i v) col u 0 n)
  held i k v u e =
      adjoint q cap (only v) (col i) (fore col g i) (back free col u (suc i) k) (inside i (omega arith))
      ∙ ap₂ (λ (a : Choice) (t : ℕ → ℕ). meet cap (2 ^ q) (fore col g i) (step a (col i) t)) (sym (ap (λ (b : Bool). cond b (only v) either) (eq-eqb i i refl))) (sym (after i v (suc i) k u (omega arith)))
      ∙ (unfold back in moved (holding i v) u i (suc k) e (λ p h. ap (λ (b : Bool). cond b (only v) either) (ne_eqb p i (λ e. omega arith))))
