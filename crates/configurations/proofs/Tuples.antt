-- A tuple is a configuration by a test, and the sums of a valid one at the roots are zero.
-- Assumes nothing.
use Rattle.basics.proofs.Kit.{◌≡◌, sym, Bool, true, false, ◌&&◌, ◌||◌, not, List, ℕ, zero, suc, ◌+◌, ◌≤◌, ◌<◌, arith, length, eqb}
use mathlib.Core.Path.{subst}
use mathlib.Core.Logic.{◌⊎◌, inl, inr}
use native.Mathlib.Nat.{eq-or-lt_of_le}
use lib.Dec.{T, eqb→eq}
use Rattle.split.specs.Split.{cosets, glued, valid, valid_at, all_below}
use Rattle.configurations.specs.Configurations.{Configuration}
use Rattle.field.proofs.Tests.{and_l, and_r, to_T, from_T}

abbrev pub configured : (m r : ℕ) → (tuple : List ℕ) → Bool
configured m r ss = eqb (length ss) m && (all_below (cosets m r) ss && valid m r ss)

pub is_configuration : (m r : ℕ) (ss : List ℕ) → T (configured m r ss) → Configuration m r ss
is_configuration m r ss t =
    let u : T (all_below (cosets m r) ss && valid m r ss) = and_r (eqb (length ss) m) _ t in
    record {
      count = eqb→eq (length ss) m (and_l (eqb (length ss) m) _ t);
      syndromes = from_T (all_below (cosets m r) ss) (and_l (all_below (cosets m r) ss) _ u);
      is_valid = from_T (valid m r ss) (and_r (all_below (cosets m r) ss) _ u);
    }

valid_root : (m k t : ℕ) (ss : List ℕ) → T (valid_at k t m ss) → (u : ℕ) → t ≤ u → u < t + k → glued 0 m u ss ≡ 0
unfolding valid_at
valid_root m zero t ss v u l h = absurd (omega arith)
valid_root m (suc k) t ss v u l h =
    pick (λ (o : t < u). valid_root m k (suc t) ss (and_r (eqb (glued 0 m t ss) 0) (valid_at k (suc t) m ss) v) u o (omega arith)) (eq-or-lt_of_le l)
  where
    pick : (t < u → glued 0 m u ss ≡ 0) → (t ≡ u) ⊎ (t < u) → glued 0 m u ss ≡ 0
    pick f (inl e) = rw (← e) (eqb→eq (glued 0 m t ss) 0 (and_l (eqb (glued 0 m t ss) 0) (valid_at k (suc t) m ss) v))
    pick f (inr o) = f o

pub root_at : (m r t : ℕ) (ss : List ℕ) → valid m r ss ≡ true → 1 ≤ t → t ≤ r → glued 0 m t ss ≡ 0
unfolding valid
root_at m r t ss v l h = valid_root m r 1 ss (to_T v) t l (omega arith)

-- what a test says of the tuples that are valid
pub so : (a b : Bool) → T (not a || b) → a ≡ true → T b
so true b t e = t
so false b t e = absurd (subst (λ (x : Bool). T x) (sym e) tt)
