-- Both round trips of the writer as callers use it: they hold of every answer and output that meet what the call promises.
-- A statement is a type; proofs/Return.antt has the proofs. Assumes nothing.
use Rattle.std.specs.Prelude.{◌≡◌, true, ℕ, length, ℤ}
use mathlib.Core.List.{List, map, flat_map}
use Rattle.sheet.specs.Sheet.{Question, sheet_refusal, questions}
use Rattle.sheet.specs.Promise.{all_bytes}
use Rattle.sheet_writer.specs.Calls.{listed, WriteSays}

-- writing a question list and reading the sheet returns the list
unfoldable pub ListsReturn : Type 0
ListsReturn =
    (codes numbers : List ℕ) (rows : List ℤ) (words output output_now : List ℕ) → WriteSays codes numbers rows words 0 output output_now →
    (sheet_refusal output_now ≡ 0) × (questions output_now ≡ listed codes numbers rows words)

-- what writing these questions promises, lent as their codes, their question numbers, all rows end to end and all handed-in words end to end
unfoldable pub LentSays : List Question → (answer : ℕ) → (output output_now : List ℕ) → Type 0
LentSays qs r o p = WriteSays (map (λ q. q.code) qs) (map (λ q. q.number) qs) (flat_map (λ q. q.row) qs) (flat_map (λ q. q.word) qs) r o p

-- rewriting an accepted sheet, into an output of its length, returns its bytes
unfoldable pub SheetsReturn : Type 0
SheetsReturn =
    (sheet : List ℕ) (answer : ℕ) (output output_now : List ℕ) → all_bytes sheet ≡ true → sheet_refusal sheet ≡ 0 → length output ≡ length sheet →
    LentSays (questions sheet) answer output output_now → (answer ≡ 0) × (output_now ≡ sheet)
