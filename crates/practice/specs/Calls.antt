-- What drawing a practice sheet answers and leaves behind, for every input (document 02, CR 7). Assumes nothing: these are definitions.
use Rattle.std.specs.Prelude.{◌≡◌, ℕ, List, length, ◌==◌, nat_le}
use Rattle.refusal.specs.Refusal.{unless, first, Outcome}
use Rattle.code.specs.Code.{number_refusal}
use Rattle.sheet.specs.Sheet.{most, written}
use Rattle.practice.specs.Practice.{drawn, state_after}

-- more than 200 questions 12, then the code 1, even for no questions, then an output of another length 4
unfoldable pub practice_refusal : (code count state output : ℕ) → ℕ
practice_refusal c n s o =
    unless (nat_le n most) 12
    (first (number_refusal c)
    (unless (o == length (written (drawn c n s))) 4 0))

-- the output is the sheet of the questions drawn, and the state that after the last draw; a refusal keeps both
unfoldable pub PracticeSays : (code count state : ℕ) → (answer state_now : ℕ) → (output output_now : List ℕ) → Type 0
PracticeSays c n s a t o p =
    Outcome (practice_refusal c n s (length o)) a
    ((t ≡ state_after c n s) × (p ≡ written (drawn c n s))) ((t ≡ s) × (p ≡ o))
