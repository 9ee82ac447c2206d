-- What the listing as a call answers and leaves behind, for every input. Assumes nothing: these are definitions.
use Rattle.std.specs.Prelude.{◌≡◌, List, ◌++◌, ℕ, ◌+◌, ◌*◌, eqb, length, drop}
use Rattle.refusal.specs.Refusal.{unless, Outcome}
use Rattle.sheet.specs.Sheet.{most}
use Rattle.text.specs.Text.{header, count_line}
use Rattle.report.specs.Listing.{Listing}

-- the longest line of a question: at most 8 digits of its number, 1 of its code, 4 of a best metric, 5 letters of a verdict, 5 digits of a shortfall,
-- 60 bits and 5 digits of a soft output, each with the space or the line feed behind it
unfoldable pub line_most : ℕ
line_most = 9 + 2 + 5 + 6 + 6 + 61 + 6

-- how long the output is: room for the text of 200 such questions
unfoldable pub listing_most : ℕ
listing_most = length header + (most * line_most + length (count_line most))

-- the text stands at the start of the output, `long` bytes of it, and what stood behind is kept; an output of another length is 4
unfoldable pub ListSays : (sheet : List ℕ) → (answer long : ℕ) → (output output_now : List ℕ) → Type 0
ListSays bs a n o p =
    Outcome (unless (eqb (length o) listing_most) 4 0) a
    ((text : List ℕ) × Listing bs text × (n ≡ length text) × (p ≡ text ++ drop (length text) o)) ((n ≡ 0) × (p ≡ o))
