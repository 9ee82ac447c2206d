-- What the calls on sheets answer and leave behind, for every input. Assumes nothing: these are definitions.
use Rattle.std.specs.Prelude.{List, ℕ, zero, suc, ◌+◌, length, Result, Ok, Err}
use Rattle.refusal.specs.declared.Refusal.{Refusal}
use Rattle.refusal.specs.Refusal.{number}
use Rattle.sheet.specs.Sheet.{sheet_refusal, questions}

-- the refusal, or 100 and the count of questions
unfoldable pub judgement : (refusal count : ℕ) → ℕ
judgement zero n = 100 + n
judgement (suc e) n = suc e

unfoldable pub judged : (sheet : List ℕ) → ℕ
judged bs = judgement (sheet_refusal bs) (length (questions bs))

-- what a call answers, as a judgement says it
abbrev pub judged_of : Result ℕ Refusal → ℕ
judged_of (Ok n) = 100 + n
judged_of (Err e) = number e
