-- The least of a cap and of the numbers at some places: what it is as places are added, and that over all places below n it is `least_of`; and a least
-- of which the last numbers do not matter.
-- Assumes nothing.
use Rattle.basics.proofs.Kit.{◌≡◌, ap, ◌∙◌, ℕ, zero, suc, ◌+◌, ◌≤◌, ◌<◌, min, arith}
use native.Mathlib.Nat.{le_antisymm, add-zero, add-suc}
use native.Mathlib.Decide.{ℕ_discrete}
use Rattle.trellis.specs.Trellis.{least_of}
use Rattle.trellis.proofs.Least.{least_cap, least_le, le_least}

-- x is the least of cap and of f where P holds
pub record Low (P : ℕ → Type 0) (f : ℕ → ℕ) (cap x : ℕ) : Type 0 where
  pub at_most : x ≤ cap
  pub below : (v : ℕ) → P v → x ≤ f v
  pub most : (y : ℕ) → y ≤ cap → ((v : ℕ) → P v → y ≤ f v) → y ≤ x

pub low_none : {P : ℕ → Type 0} {f : ℕ → ℕ} {cap : ℕ} → ((v : ℕ) → P v → ⊥) → Low P f cap cap
low_none n = record { at_most = omega arith; below = λ v p. absurd (n v p); most = λ y l h. l }

-- the same places
pub low_same : {P Q : ℕ → Type 0} {f : ℕ → ℕ} {cap x : ℕ} → ((v : ℕ) → P v → Q v) → ((v : ℕ) → Q v → P v) → Low P f cap x → Low Q f cap x
low_same to from l = record { at_most = l.at_most; below = λ v q. l.below v (from v q); most = λ y a h. l.most y a (λ v p. h v (to v p)) }

-- two places more
pub low_two : {P Q : ℕ → Type 0} {f : ℕ → ℕ} {cap x : ℕ} (s u : ℕ) → Q s → Q u → ((v : ℕ) → P v → Q v) → ((v : ℕ) → Q v → (v ≡ s → ⊥) → (v ≡ u → ⊥) → P v) → Low P f cap x →
    (x' : ℕ) → x' ≡ min x (min (f s) (f u)) → Low Q f cap x'
low_two {P} {Q} {f} {cap} {x} s u qs qu to from l x' e = record {
  at_most = omega (arith, l.at_most);
  below = λ v q. go v q (ℕ_discrete v s) (ℕ_discrete v u);
  most = λ y a h. omega (arith, l.most y a (λ v p. h v (to v p)), h s qs, h u qu);
}
  where
    go : (v : ℕ) → Q v → Dec (v ≡ s) → Dec (v ≡ u) → x' ≤ f v
    go v q (yes d) b = omega (arith, ap f d)
    go v q (no d) (yes b) = omega (arith, ap f b)
    go v q (no d) (no b) = omega (arith, l.below v (from v q d b))

-- all places below n
pub low_all : {P : ℕ → Type 0} {f g : ℕ → ℕ} {cap x n : ℕ} → ((v : ℕ) → P v → v < n) → ((v : ℕ) → v < n → P v) → ((v : ℕ) → f v ≡ g v) → Low P f cap x → x ≡ least_of g cap n
low_all {P} {f} {g} {cap} {x} {n} to from e l =
    le_antisymm (le_least g cap n x l.at_most (λ v b. omega (arith, l.below v (from v b), e v)))
    (l.most (least_of g cap n) (least_cap g cap n) (λ v p. omega (arith, least_le g cap n v (to v p), e v)))

-- where the numbers from m on are not below the cap, the least is that of the first m
pub least_cut : (f : ℕ → ℕ) (cap m k : ℕ) → ((v : ℕ) → m ≤ v → cap ≤ f v) → least_of f cap (m + k) ≡ least_of f cap m
unfolding least_of
least_cut f cap m zero h = ap (least_of f cap) (add-zero m)
least_cut f cap m (suc k) h = ap (least_of f cap) (add-suc m k) ∙ omega (arith, least_cut f cap m k h, least_cap f cap m, h (m + k) (omega arith))
