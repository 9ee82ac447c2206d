-- What the inner functions ask. No call offered to callers cites these. Assumes nothing: these are definitions.
use Rattle.std.specs.Prelude.{◌≡◌, ℕ, ◌+◌, ◌*◌, ◌≤◌, true, length}
use Rattle.code.specs.Code.{code_good}
use Rattle.sheet.specs.Sheet.{reliabilities, all_words}
use Rattle.practice.specs.Practice.{drawn}
use Rattle.practice.specs.Calls.{practice_refusal}

-- a code, so many questions that a sheet can hold, and an output of the sheet's length
pub record SheetWithin (c n s output : ℕ) : Type 0 where
  pub known : code_good c ≡ true
  pub few : n ≤ 200
  pub room : output ≡ 4 * (length (all_words reliabilities (drawn c n s)) + 1)

-- what drawing is refused by, from whatever state
unfoldable pub Refuses : (code count output answer : ℕ) → Type 0
Refuses c n o r = (s : ℕ) → r ≡ practice_refusal c n s o
