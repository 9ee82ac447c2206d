-- What a reader over a lent sheet answers and leaves behind, for every input (document 01, 'Sheets'). Assumes nothing: these are definitions.
use Rattle.std.specs.Prelude.{◌≡◌, List, ℕ, ◌+◌, ℤ, Some, None, Ok, Err}
use Rattle.refusal.specs.declared.Refusal.{Refusal}
use Rattle.sheet_reader.specs.Answer.{Answer}
use Rattle.sheet_reader.specs.Calls.{ChoiceSays}

-- a reader stands before a question, with so many others before it. A question that is yielded is passed; any other answer leaves the reader where it
-- stands
abbrev pub moved : Answer Refusal → (at : ℕ) → ℕ
moved (Ok (Some q)) i = i + 1
moved (Ok None) i = i
moved (Err e) i = i

pub record YieldSays (bs : List ℕ) (i i_now : ℕ) (a : Answer Refusal) (row row_now : List ℤ) (word word_now : List ℕ) : Type 0 where
  pub choice : ChoiceSays bs i a row row_now word word_now
  pub next : i_now ≡ moved a i
