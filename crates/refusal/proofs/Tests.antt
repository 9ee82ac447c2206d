-- What is known where a chain of tests refuses nothing.
-- Assumes nothing.
use Rattle.basics.proofs.Kit.{◌≡◌, refl, Bool, true, false, ℕ, zero, suc, arith}
use Rattle.refusal.specs.Refusal.{unless, first}

pub passed : (b : Bool) (n e : ℕ) → unless b (suc n) e ≡ 0 → (b ≡ true) × (e ≡ 0)
unfolding unless
passed true n e h = (refl, h)
passed false n e h = absurd (omega arith)

-- a link of a chain, with what its test and what comes after it are known to be
pub link : (n : ℕ) {r x y : ℕ} {a b : Bool} → r ≡ unless a n x → a ≡ b → x ≡ y → r ≡ unless b n y
link n e f g = rw (← f, ← g) e

-- the first of two refusals, as a branch has it
pub first_refuses : (n e : ℕ) → (n ≡ 0 → ⊥) → n ≡ first n e
unfolding first
first_refuses zero e h = absurd (h refl)
first_refuses (suc n) e h = refl

pub first_passes : (n e : ℕ) → n ≡ 0 → e ≡ first n e
unfolding first
first_passes n e h = rw h

pub first_none : (n e : ℕ) → first n e ≡ 0 → (n ≡ 0) × (e ≡ 0)
unfolding first
first_none zero e h = (refl, h)
first_none (suc n) e h = absurd (omega arith)

pub first_free : (n e : ℕ) → n ≡ 0 → e ≡ 0 → first n e ≡ 0
unfolding first
first_free n e h k = rw (h, k)

-- what comes behind what is refused says nothing
pub first_same : (n : ℕ) → (n ≡ 0 → ⊥) → (d e : ℕ) → first n d ≡ first n e
unfolding first
first_same zero f d e = absurd (f refl)
first_same (suc n) f d e = refl
