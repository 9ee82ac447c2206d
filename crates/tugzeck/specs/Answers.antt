-- The structs of numbers of the answers. Assumes nothing: these are definitions.
use Rattle.std.specs.Prelude.{◌≡◌, Bool, cond, ℕ, Option, Some, None, Result, Ok, Err}
use Rattle.refusal.specs.declared.Refusal.{Refusal}
use Rattle.refusal.specs.Refusal.{number, number_of, value_or}
use Rattle.metric.specs.declared.Verdict.{Verdict}
use Rattle.metric.specs.declared.Verdict.TheVariants.{NoCodeword}
use Rattle.metric.specs.Verdict.{verdict_number, shortfall_of}
use Rattle.sheet_reader.specs.Answer.{Answer}
use Rattle.tugzeck.specs.declared.answers.Asked.{Asked}
use Rattle.tugzeck.specs.declared.answers.Mark.{Mark}

-- document 01's number of a reader's answer, 0 where nothing is refused, and its values: 1 with the code and the number of the question, else zeros
abbrev pub none_found : (number : ℕ) → Asked
none_found e = record { number = e; found = 0; code = 0; question = 0 }

abbrev pub asked : Answer Refusal → Asked
asked (Ok (Some q)) = record { number = 0; found = 1; code = q.code; question = q.number }
asked (Ok None) = none_found 0
asked (Err e) = none_found (number e)

-- the verdict's number and the shortfall; 0 and 0 where a call is refused
abbrev pub marked : Result Verdict Refusal → Mark → Type 0
marked a k = (k.number ≡ number_of a) × (k.verdict ≡ verdict_number (value_or NoCodeword a)) × (k.shortfall ≡ shortfall_of (value_or NoCodeword a))

-- document 01's number of an answer of the codeword test; a word that is no codeword has 8, as where it is to be read
abbrev pub test_number : Result Bool Refusal → ℕ
test_number (Ok b) = cond b 0 8
test_number (Err e) = number e
