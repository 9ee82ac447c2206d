-- What the calls on sheets answer as structs of numbers. Assumes nothing: these are definitions.
use Rattle.std.specs.Prelude.{◌≡◌, List, ℕ, ℤ, length}
use Rattle.refusal.specs.Refusal.{Outcome}
use Rattle.refusal.specs.declared.Refusal.{Refusal}
use Rattle.sheet.specs.Sheet.{sheet_refusal, questions}
use Rattle.sheet_reader.specs.Answer.{Answer}
use Rattle.sheet_reader.specs.Calls.{ChoiceSays}
use Rattle.tugzeck.specs.declared.answers.Judgement.{Judgement}
use Rattle.tugzeck.specs.declared.answers.Asked.{Asked}
use Rattle.tugzeck.specs.Answers.{asked}

-- the refusal of a sheet, or 0 and the count of its questions
unfoldable pub JudgeSays : (sheet : List ℕ) → Judgement → Type 0
JudgeSays bs r = Outcome (sheet_refusal bs) r.number (r.questions ≡ length (questions bs)) (r.questions ≡ 0)

-- the values of the answer that the reader gives by number, and both outputs as it leaves them
unfoldable pub QuestionSays : (sheet : List ℕ) → (index : ℕ) → Asked → (row row_now : List ℤ) → (word word_now : List ℕ) → Type 0
QuestionSays bs i r o p a b = (answer : Answer Refusal) × (r ≡ asked answer) × ChoiceSays bs i answer o p a b
