-- What the inner functions ask and leave behind. No call offered to callers cites these. Assumes nothing: these are definitions.
use Rattle.std.specs.Prelude.{◌≡◌, true, List, ℕ, ◌≤◌, length, get_or}
use Rattle.sheet.specs.Sheet.{Question, head_kind, kind, reliabilities, head_code, as_words, question_good, all_good, most, sheet_refusal, questions}
use Rattle.sheet_reader.specs.Within.{Stands, behind, question_here}
use Rattle.text.specs.declared.Writer.{Writer}
use Rattle.text.specs.Writer.{Puts}
use Rattle.report.specs.Listing.{Line, Lines}
use Rattle.report.specs.Calls.{line_most}

-- the code of the head at a word
abbrev pub code_at : (sheet : List ℕ) → (word : ℕ) → ℕ
code_at bs w = head_code (get_or (as_words bs) w 0)

-- a question's line was written
pub record PutLine (q : Question) (before after : Writer) : Type 0 where
  pub text : List ℕ
  pub line : Line q text
  pub puts : Puts text before after
  pub short : length text ≤ line_most

-- and those of several
pub record PutLines (qs : List Question) (before after : Writer) : Type 0 where
  pub text : List ℕ
  pub lines : Lines qs text
  pub puts : Puts text before after

-- question i of an accepted sheet begins at a word, and a sheet can hold it
pub record Begins (bs : List ℕ) (i word : ℕ) : Type 0 where
  pub stands : Stands bs i word
  pub head : kind (get_or (as_words bs) word 0) ≡ head_kind
  pub good : question_good reliabilities (question_here reliabilities bs word) ≡ true

-- the question at a word was passed and its line was written
pub record Passed (bs : List ℕ) (word word_now : ℕ) (before after : Writer) : Type 0 where
  pub line : PutLine (question_here reliabilities bs word) before after
  pub next : word_now ≡ behind reliabilities (code_at bs word) word

-- an accepted sheet of so many questions, each of which a sheet can hold
pub record SheetTaken (bs : List ℕ) (count : ℕ) : Type 0 where
  pub none : sheet_refusal bs ≡ 0
  pub count_is : count ≡ length (questions bs)
  pub few : count ≤ most
  pub good : all_good reliabilities (questions bs) ≡ true
