-- The outcome of a call from its refusal's number and its answer, and back.
-- Assumes nothing.
use Rattle.basics.proofs.Kit.{◌≡◌, refl, ◌∙◌, ℕ, zero, suc, arith}
use Rattle.refusal.specs.Refusal.{Outcome}

module _ (refusal r : ℕ) (Done Kept : Type 0) where
  pub outcome_done : refusal ≡ 0 → r ≡ 0 → Done → Outcome refusal r Done Kept
  unfolding Outcome
  outcome_done e z d = rw e (z, d)

  pub outcome_kept : (refusal ≡ 0 → ⊥) → r ≡ refusal → Kept → Outcome refusal r Done Kept
  unfolding Outcome
  outcome_kept f e k = go refusal f e
    where
      go : (n : ℕ) → (n ≡ 0 → ⊥) → r ≡ n → Outcome n r Done Kept
      go zero f e = absurd (f refl)
      go (suc n) f e = (e, k)

  -- as a call's branch has it: the answer is the refusal, and it is not 0
  pub outcome_refused : r ≡ refusal → (r ≡ 0 → ⊥) → Kept → Outcome refusal r Done Kept
  outcome_refused e f k = outcome_kept (λ z. f (e ∙ z)) e k

  -- what was not refused was done
  pub outcome_taken : refusal ≡ 0 → Outcome refusal r Done Kept → (r ≡ 0) × Done
  unfolding Outcome
  outcome_taken e o = rw e at o

-- an answer of 0 says that nothing was refused
pub outcome_zero : (refusal : ℕ) (Done Kept : Type 0) → Outcome refusal 0 Done Kept → (refusal ≡ 0) × Done
unfolding Outcome
outcome_zero zero Done Kept o = (refl, o.1)
outcome_zero (suc n) Done Kept o = absurd (omega (arith, o.0))
