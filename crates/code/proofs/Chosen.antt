-- The outcome of a call on a code that is chosen: what the choice is refused by, then what the call is refused by in that code.
-- Assumes nothing.
use Rattle.basics.proofs.Kit.{◌≡◌, refl, ◌∙◌, ℕ, zero, suc}
use Rattle.std.specs.Prelude.{Result, Ok, Err, IfOk}
use Rattle.std.proofs.lemmas.Result.{IfOk-at_ok}
use Rattle.refusal.specs.declared.Refusal.{Refusal}
use Rattle.refusal.specs.Refusal.{number, number_of, value_or, first, Outcome}
use Rattle.refusal.proofs.Outcomes.{outcome_done, outcome_kept}
use Rattle.refusal.proofs.Tests.{first_refuses, first_passes, first_same}
use Rattle.refusal.proofs.Results.{number_some, refused_by, taken}
use Rattle.code.specs.declared.shape.Choice.{Choice}
use Rattle.code.specs.declared.shape.Shape.{Shape}
use Rattle.code.specs.Choice.{choice_refusal, m_of, r_of}

-- a chosen code, or what the choice is refused by, as `Choice::shape` says
module _ (choice : Choice) (a : Result Shape Refusal) (refuses : number_of a ≡ choice_refusal choice) where
  pub choice_refused : (n : ℕ) (e : Refusal) (Done Kept : Type 0) → a ≡ Err e → Kept → Outcome (first (choice_refusal choice) n) (number e) Done Kept
  choice_refused n e Done Kept f k =
      let g = refused_by a _ refuses e f in
      let h = first_refuses (choice_refusal choice) n (λ z. number_some e (g ∙ z)) in
      outcome_kept _ _ Done Kept (λ z. number_some e (g ∙ (h ∙ z))) (g ∙ h) k

  -- what the call is refused by over m and r, once they are chosen
  module _ (X : ℕ → ℕ → ℕ) (ms : IfOk a (λ s. s.m ≡ m_of choice)) (rs : IfOk a (λ s. s.r ≡ r_of choice)) (s : Shape) (f : a ≡ Ok s) where
    pub m_is : s.m ≡ m_of choice
    m_is = IfOk-at_ok (λ (s : Shape). s.m ≡ m_of choice) f ms

    pub r_is : s.r ≡ r_of choice
    r_is = IfOk-at_ok (λ (s : Shape). s.r ≡ r_of choice) f rs

    pub refusal_is : X s.m s.r ≡ first (choice_refusal choice) (X (m_of choice) (r_of choice))
    refusal_is = rw (m_is, r_is) (first_passes _ _ (taken a _ refuses s f))

    module _ {A : Type 0} (b : Result A Refusal) (says : number_of b ≡ X s.m s.r) where
      pub call_refused : (e : Refusal) (Done Kept : Type 0) → b ≡ Err e → Kept →
          Outcome (first (choice_refusal choice) (X (m_of choice) (r_of choice))) (number e) Done Kept
      call_refused e Done Kept g k =
          let h = refused_by b _ (says ∙ refusal_is) e g in
          outcome_kept _ _ Done Kept (λ z. number_some e (h ∙ z)) h k

      pub call_done : (x : A) (Done Kept : Type 0) → b ≡ Ok x → Done → Outcome (first (choice_refusal choice) (X (m_of choice) (r_of choice))) 0 Done Kept
      call_done x Done Kept g d = outcome_done _ _ Done Kept (taken b _ (says ∙ refusal_is) x g) refl d

-- the same of any answer in place of a choice's: where a code is refused, any other stands for it
module _ {z : ℕ} (m r : ℕ) (a : Result Shape Refusal) (other : Shape) (refuses : number_of a ≡ z) (ms : IfOk a (λ s. s.m ≡ m)) (rs : IfOk a (λ s. s.r ≡ r)) where
  -- what a call is refused by, from what it is refused by over the chosen m and r
  pub chosen_refusal : (X : ℕ → ℕ → ℕ) {n b : ℕ} → n ≡ first (number_of a) b → b ≡ X (value_or other a).m (value_or other a).r → n ≡ first z (X m r)
  unfolding first
  chosen_refusal X {n} {b} e f = go a refuses ms rs e f
    where
      go : (a : Result Shape Refusal) → number_of a ≡ z → IfOk a (λ s. s.m ≡ m) → IfOk a (λ s. s.r ≡ r) →
          n ≡ first (number_of a) b → b ≡ X (value_or other a).m (value_or other a).r → n ≡ first z (X m r)
      go (Ok s) p ms rs e f = rw (← p, ← ms, ← rs, ← f) e
      go (Err x) p ms rs e f = rw p at e ∙ first_same z (λ q. number_some x (p ∙ q)) b (X m r)

  -- what a call says of the chosen m and r it says of those that were asked for: where the choice is refused, nothing is said of them
  pub as_chosen : (P : (z m r : ℕ) → Type 0) → ((n m r k l : ℕ) → P (suc n) m r → P (suc n) k l) →
      P (number_of a) (value_or other a).m (value_or other a).r → P z m r
  as_chosen P unsaid x = go a refuses ms rs x
    where
      go : (a : Result Shape Refusal) → number_of a ≡ z → IfOk a (λ s. s.m ≡ m) → IfOk a (λ s. s.r ≡ r) →
          P (number_of a) (value_or other a).m (value_or other a).r → P z m r
      go (Ok s) p ms rs x = rw (← p, ← ms, ← rs) x
      go (Err e) p ms rs x = some z (λ q. number_some e (p ∙ q)) (rw p at x)
        where
          some : (z : ℕ) → (z ≡ 0 → ⊥) → P z other.m other.r → P z m r
          some zero f x = absurd (f refl)
          some (suc n) f x = unsaid n _ _ _ _ x
