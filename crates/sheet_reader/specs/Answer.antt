-- What a reader of a sheet answers: a question, that none is left, or a refusal. Assumes nothing: these are definitions.
use Rattle.std.specs.Prelude.{ℕ, Option, Result, Ok, Err}
use Rattle.refusal.specs.declared.Refusal.{Refusal}
use Rattle.refusal.specs.Refusal.{number}
use Rattle.sheet_reader.specs.declared.Question.{Question}

-- its refusals as they are, or by their numbers
abbrev pub Answer : (refusals : Type 0) → Type 0
Answer E = Result (Option Question) E

abbrev pub numbered : Answer Refusal → Answer ℕ
numbered (Ok q) = Ok q
numbered (Err e) = Err (number e)

-- a question of this code and this number
abbrev pub asked : (code number : ℕ) → Question
asked c n = record { code = c; number = n }
