-- What is promised of listings. A statement is a type; proofs/Promise.antt names the proof of each. Assumes nothing.
use Rattle.std.specs.Prelude.{◌≡◌, true, List, ℕ, ◌≤◌, length}
use Rattle.code.specs.Code.{width, roots, is_codeword}
use Rattle.sheet.specs.Sheet.{Question, reliabilities, question_good}
use Rattle.sheet.specs.Promise.{all_bytes}
use Rattle.text.specs.Promise.{Shown}
use Rattle.report.specs.Listing.{Line, Listing}
use Rattle.report.specs.Calls.{listing_most}

-- a sheet has a listing
unfoldable pub ListingThere : Type 0
ListingThere = (bs : List ℕ) → all_bytes bs ≡ true → (t : List ℕ) × Listing bs t

-- and only one, so that a promise of it fixes every byte
unfoldable pub ListingOne : Type 0
ListingOne = (bs s t : List ℕ) → Listing bs s → Listing bs t → s ≡ t

-- and no listing of bytes is longer than the output
unfoldable pub ListingFits : Type 0
ListingFits = (bs t : List ℕ) → all_bytes bs ≡ true → Listing bs t → length t ≤ listing_most

-- the line of a question that a sheet can hold shows no question mark exactly when its row has one best word, and its bits then spell that word
unfoldable pub LineShown : Type 0
LineShown =
    (q : Question) (t : List ℕ) → question_good reliabilities q ≡ true → (l : Line q t) →
    Shown (width q.code) (is_codeword (width q.code) (roots q.code)) q.row l.soft
