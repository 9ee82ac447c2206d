-- The outcome of a call that hands on, by `?`, what it is refused by; and what is known of tests that were passed.
-- Assumes nothing.
use Rattle.basics.proofs.Kit.{◌≡◌, refl, sym, ap, ◌∙◌, Bool, true, false, ℕ, zero, suc, arith}
use Rattle.std.specs.Prelude.{Result, Ok, Err, IsErrAnd}
use Rattle.std.proofs.lemmas.Result.{err_from_is_err_and}
use Rattle.refusal.specs.declared.Refusal.{Refusal}
use Rattle.refusal.specs.declared.Refusal.TheVariants.{Code, RowLength, WordLength, Output, Reliability, Symbol, Sample, NoCodeword, RunsOut, Kind, UnusedBits, Count, AfterEnd, SymbolKind, Fill, Roots, Scratch, NoBchWord, Configuration}
use Rattle.refusal.specs.Refusal.{number, number_of, ensured, unless, first, Outcome}
use Rattle.refusal.proofs.Outcomes.{outcome_done, outcome_kept}
use Rattle.refusal.proofs.Tests.{first_refuses, first_passes}

-- what a `?` returns
pub handed_on : {A : Type 0} (a : Result A Refusal) (e : Refusal) → IsErrAnd a (λ x. x ≡ e) → a ≡ Err e
handed_on a e h = let p = err_from_is_err_and a h in rw (p.1, p.2) refl

-- no refusal has the number 0
pub number_some : (e : Refusal) → number e ≡ 0 → ⊥
number_some Code h = absurd (omega arith)
number_some RowLength h = absurd (omega arith)
number_some WordLength h = absurd (omega arith)
number_some Output h = absurd (omega arith)
number_some Reliability h = absurd (omega arith)
number_some Symbol h = absurd (omega arith)
number_some Sample h = absurd (omega arith)
number_some NoCodeword h = absurd (omega arith)
number_some RunsOut h = absurd (omega arith)
number_some Kind h = absurd (omega arith)
number_some UnusedBits h = absurd (omega arith)
number_some Count h = absurd (omega arith)
number_some AfterEnd h = absurd (omega arith)
number_some SymbolKind h = absurd (omega arith)
number_some Fill h = absurd (omega arith)
number_some Roots h = absurd (omega arith)
number_some Scratch h = absurd (omega arith)
number_some NoBchWord h = absurd (omega arith)
number_some Configuration h = absurd (omega arith)

module _ {A : Type 0} (a : Result A Refusal) (z : ℕ) (answers : number_of a ≡ z) where
  -- an answer that was refused, by its refusal's number
  pub refused_by : (e : Refusal) → a ≡ Err e → number e ≡ z
  refused_by e f = sym (ap number_of f) ∙ answers

  pub refused : (e : Refusal) (Done Kept : Type 0) → a ≡ Err e → Kept → Outcome z (number e) Done Kept
  refused e Done Kept f k = outcome_kept z (number e) Done Kept (λ h. number_some e (refused_by e f ∙ h)) (refused_by e f) k

  -- and one that was not
  pub taken : (x : A) → a ≡ Ok x → z ≡ 0
  taken x f = sym answers ∙ ap number_of f

-- a test and its refusal, handed on
module _ (b : Bool) (x : Refusal) where
  pub stops : (e : Refusal) → ensured b x ≡ Err e → (b ≡ false) × (e ≡ x)
  stops e f = go b f
    where
      go : (b : Bool) → ensured b x ≡ Err e → (b ≡ false) × (e ≡ x)
      go true f = absurd (cc)
      go false f = (refl, cc)

  pub goes_on : (u : Unit {0}) → ensured b x ≡ Ok u → b ≡ true
  goes_on u f = go b f
    where
      go : (b : Bool) → ensured b x ≡ Ok u → b ≡ true
      go true f = refl
      go false f = absurd (cc)
