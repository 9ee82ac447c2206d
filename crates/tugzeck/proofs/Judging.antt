-- What `judge_sheet` answers tells a refusal from a count, as refusals are below 100.
-- Assumes nothing.
use Rattle.basics.proofs.Kit.{◌≡◌, refl, List, ℕ, zero, suc, ◌≤◌, arith, length}
use Rattle.std.specs.Prelude.{Result, Ok, Err}
use Rattle.refusal.specs.declared.Refusal.{Refusal}
use Rattle.refusal.specs.Refusal.{number, number_of, value_or, Outcome}
use Rattle.sheet.specs.Sheet.{sheet_refusal, questions}
use Rattle.sheet.specs.Calls.{judgement, judged, judged_of}
use Rattle.sheet_reader.proofs.Places.{judged_large, number_small}
use Rattle.tugzeck.specs.declared.answers.Judgement.{Judgement}
use Rattle.tugzeck.specs.Calls.{JudgeSays}

one : (e n : ℕ) (a : Result ℕ Refusal) → (100 ≤ judgement e n → e ≡ 0) → judged_of a ≡ judgement e n → Outcome e (number_of a) (value_or 0 a ≡ n) (value_or 0 a ≡ 0)
unfolding judgement Outcome
one zero n (Ok k) l h = (refl, omega arith)
one zero n (Err x) l h = absurd (omega (arith, number_small x))
one (suc e) n (Ok k) l h = absurd (omega (arith, l (omega arith)))
one (suc e) n (Err x) l h = (h, refl)

pub judge : (bs : List ℕ) (a : Result ℕ Refusal) (r : Judgement) → judged_of a ≡ judged bs → r.number ≡ number_of a → r.questions ≡ value_or 0 a → JudgeSays bs r
unfolding judged JudgeSays
judge bs a r h e f = rw (e, f) (one (sheet_refusal bs) (length (questions bs)) a (judged_large bs) h)
