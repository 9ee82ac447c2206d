-- Both round trips of sheets, and the longest sheet. A statement is a type; proofs/Trips.antt and proofs/Longest.antt have the proofs.
-- Assumes nothing.
use Rattle.std.specs.Prelude.{◌≡◌, Bool, true, ◌&&◌, List, [], ◌∷◌, ℕ, ◌≤◌, ltb, length}
use Rattle.sheet.specs.Sheet.{Question, reliabilities, most, all_good, written, sheet_refusal, questions}

unfoldable pub all_bytes : List ℕ → Bool
all_bytes [] = true
all_bytes (x ∷ xs) = ltb x 256 && all_bytes xs

-- writing a question list and reading the sheet returns the list
unfoldable pub WrittenRead : Type 0
WrittenRead = (qs : List Question) → all_good reliabilities qs ≡ true → length qs ≤ most → (sheet_refusal (written qs) ≡ 0) × (questions (written qs) ≡ qs)

-- rewriting an accepted sheet returns its bytes
unfoldable pub ReadWritten : Type 0
ReadWritten =
    (bs : List ℕ) → all_bytes bs ≡ true → sheet_refusal bs ≡ 0 →
    (all_good reliabilities (questions bs) ≡ true) × (length (questions bs) ≤ most) × (written (questions bs) ≡ bs)

-- the longest sheet has 19,204 bytes: none that is accepted is longer, and one that is accepted is this long
unfoldable pub sheet_most : ℕ
sheet_most = 19204

pub record LongestSheet : Type 0 where
  pub none_longer : (bs : List ℕ) → all_bytes bs ≡ true → sheet_refusal bs ≡ 0 → length bs ≤ sheet_most
  pub one_as_long : (bs : List ℕ) × (all_bytes bs ≡ true) × (sheet_refusal bs ≡ 0) × (length bs ≡ sheet_most)
