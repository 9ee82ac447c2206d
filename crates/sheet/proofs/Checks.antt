-- What a check that is handed on by `?` says of a chain of checks.
-- Assumes nothing.
use Rattle.basics.proofs.Kit.{◌≡◌, ◌∙◌, sym, ap, Bool, true, false, ℕ}
use Rattle.std.specs.Prelude.{Result, Ok, Err, IsErrAnd}
use Rattle.refusal.specs.declared.Refusal.{Refusal}
use Rattle.refusal.specs.Refusal.{number_of, ensured, first}
use Rattle.refusal.proofs.Tests.{first_refuses, first_passes}
use Rattle.refusal.proofs.Results.{handed_on, number_some, refused_by, taken, stops, goes_on}
use Rattle.sheet.specs.Calls.{judged_of}

-- a call that is refused by n, before what k refuses
module _ {A : Type 0} (a : Result A Refusal) (n k : ℕ) (answers : number_of a ≡ n) where
  pub stopped : {B : Type 0} (e : Refusal) (r : Result B Refusal) → a ≡ Err e → IsErrAnd r (λ x. x ≡ e) → number_of r ≡ first n k
  stopped e r f h =
      let g = refused_by a n answers e f in
      ap number_of (handed_on r e h) ∙ (g ∙ first_refuses n k (λ z. number_some e (g ∙ z)))

  pub passed_on : (x : A) → a ≡ Ok x → k ≡ first n k
  passed_on x f = first_passes n k (taken a n answers x f)

-- a test with its refusal
module _ (b : Bool) (x : Refusal) (a : Result Unit Refusal) (says : a ≡ ensured b x) where
  pub failed : {B : Type 0} (e : Refusal) (r : Result B Refusal) → a ≡ Err e → IsErrAnd r (λ y. y ≡ e) → (b ≡ false) × (r ≡ Err x)
  failed e r f h = let s = stops b x e (sym says ∙ f) in (s.0, handed_on r e h ∙ ap Err s.1)

  pub held : (u : Unit {0}) → a ≡ Ok u → b ≡ true
  held u f = goes_on b x u (sym says ∙ f)

-- a check that a judgement hands on
module _ (a : Result Unit Refusal) (n : ℕ) (answers : number_of a ≡ n) where
  pub judged_stops : (e : Refusal) (r : Result ℕ Refusal) → a ≡ Err e → IsErrAnd r (λ x. x ≡ e) → (judged_of r ≡ n) × (n ≡ 0 → ⊥)
  judged_stops e r f h = let g = refused_by a n answers e f in (ap judged_of (handed_on r e h) ∙ g, λ z. number_some e (g ∙ z))
