-- What a refusal says of the answer, and that nothing is refused of the elements.
-- Assumes nothing.
use Rattle.basics.proofs.Kit.{◌≡◌, refl, ap, ℕ}
use Rattle.std.specs.Prelude.{Result, Ok, Err}
use borrow.Author.Tests.{ltb-true}
use Rattle.refusal.specs.declared.Refusal.{Refusal}
use Rattle.refusal.specs.Refusal.{number_of}
use Rattle.refusal.proofs.Outcomes.{outcome_done}
use Rattle.refusal.proofs.Results as R
use Rattle.refusal.proofs.Tests.{passed}
use Rattle.field.specs.declared.Element.{Element}
use Rattle.field.specs.Within.{Elements, Inside}
use Rattle.field.specs.Answers.{one_refusal, two_refusal, Answers}

module _ {A : Type 0} (a : Result A Refusal) {z : ℕ} (m v : ℕ) (answers : number_of a ≡ z) where
  pub refused : (e : Refusal) → a ≡ Err e → Answers z m v (Err e)
  unfolding Answers
  refused e f = R.refused a z answers e _ _ f tt

  pub found : (x : A) (u : ℕ) → a ≡ Ok x → u ≡ v → Answers z m v (Ok (record { m = m; value = u }))
  unfolding Answers
  found x u f h = outcome_done _ _ _ _ (R.taken a z answers x f) refl (ap (λ (w : ℕ). Ok (record { m = m; value = w })) h)

module _ {A : Type 0} (a : Result A Refusal) (x : A) (f : a ≡ Ok x) where
  pub one_good : (e : Element) → number_of a ≡ one_refusal e → Inside e.m e.value
  unfolding one_refusal
  one_good e h = let p = passed _ _ _ (R.taken a _ h x f) in record { width = p.0; inside = ltb-true _ _ (passed _ _ _ p.1).0 }

  pub two_good : (d e : Element) → number_of a ≡ two_refusal d e → Elements d.m d.value e.value
  unfolding two_refusal
  two_good d e h =
      let p = passed _ _ _ (R.taken a _ h x f) in
      let q = passed _ _ _ (passed _ _ _ p.1).1 in
      record { width = p.0; first = ltb-true _ _ q.0; second = ltb-true _ _ (passed _ _ _ q.1).0 }
