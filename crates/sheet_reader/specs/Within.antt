-- What the inner functions, and the function for the crates above, ask and leave behind. No call offered to callers cites these.
-- Assumes nothing: these are definitions.
use Rattle.std.specs.Prelude.{◌≡◌, Bool, ◌&&◌, cond, List, ◌∷◌, ◌++◌, ℕ, zero, suc, ◌+◌, ◌-◌, ◌<◌, ◌≤◌, min, eqb, length, get_or, drop, ℤ, Some, None, Ok, Err}
use Rattle.refusal.specs.declared.Refusal.{Refusal}
use Rattle.code.specs.Code.{width, long}
use Rattle.code.specs.Bits.{row_long}
use Rattle.sheet.specs.declared.form.Form.{Form}
use Rattle.sheet.specs.Sheet.{Question, head_kind, kind, head_code, low, reliabilities, symbols, digits, count, items_in, row_of, question_long, as_words, rest_refusal, sheet_refusal, question_in, questions_from, questions}
use Rattle.sheet_reader.specs.declared.items.Spot.{Spot}
use Rattle.sheet_reader.specs.Answer.{Answer, numbered, asked}
use Rattle.sheet_reader.specs.Calls.{filled}

-- a place of an accepted sheet: the word at which question i begins, or the end where there are no more
pub record Stands (bs : List ℕ) (i at : ℕ) : Type 0 where
  pub accepted : sheet_refusal bs ≡ 0
  pub left : ℕ
  pub rest : rest_refusal reliabilities left (drop at (as_words bs)) ≡ 0
  pub holds : questions_from reliabilities left (drop at (as_words bs)) ≡ drop i (questions bs)

-- the answer at a word of an accepted sheet
abbrev pub yield_of : (head fits : Bool) → (code number : ℕ) → Answer ℕ
yield_of h b c n = cond h (cond b (Ok (Some (asked c n))) (Err 4)) (Ok None)

unfoldable pub answered : (word : ℕ) → (row_length word_length : ℕ) → Answer ℕ
answered w r n =
    let m = width (head_code w) in
    yield_of (eqb (kind w) head_kind) (eqb r (row_long m) && eqb n (long m)) (head_code w) (low w)

-- the word behind a question of a code that begins at a word
unfoldable pub behind : Form → (code at : ℕ) → ℕ
behind f c at = at + (1 + question_long f (width c))

-- a question is passed; any other answer leaves the reader where it stands
unfoldable pub moved : Form → Answer Refusal → (at : ℕ) → ℕ
moved f (Ok (Some q)) at = behind f q.code at
moved f (Ok None) at = at
moved f (Err e) at = at

-- the question at a place
unfoldable pub question_here : Form → (sheet : List ℕ) → (at : ℕ) → Question
question_here f bs at = question_in f (get_or (as_words bs) at 0) (drop (at + 1) (as_words bs))

-- n items that begin at the first of these words
unfoldable pub items_from : Form → (n : ℕ) → (words : List ℕ) → List ℕ
items_from f n ws = items_in f (count f n) n ws

-- the next n items of a reader of items: of the word that it has begun, then of the words after it
unfoldable pub spot_items : Form → (words : List ℕ) → (n : ℕ) → Spot → List ℕ
spot_items f ws n s = digits f.base (min s.left n) s.rest ++ items_from f (n - s.left) (drop s.next ws)

-- one of them is taken, however many there are
pub record TakenSays (f : Form) (ws : List ℕ) (s r : Spot) : Type 0 where
  pub is : (n : ℕ) → spot_items f ws (suc n) s ≡ r.item ∷ spot_items f ws n r
  pub small : r.item < f.base
  pub near : r.next ≤ s.next + 1

-- so many reliabilities, and so many symbols after their words
pub record PartsSays (f : Form) (ws : List ℕ) (r n : ℕ) (row : List ℤ) (word : List ℕ) : Type 0 where
  pub row_is : row ≡ row_of f (items_from f r ws)
  pub word_is : word ≡ items_from symbols n (drop (count f r) ws)

pub record PlaceSays (f : Form) (bs : List ℕ) (at at_now : ℕ) (a : Answer Refusal) (row row_now : List ℤ) (word word_now : List ℕ) : Type 0 where
  pub answer : numbered a ≡ answered (get_or (as_words bs) at 0) (length row) (length word)
  pub next : at_now ≡ moved f a at
  pub row_is : row_now ≡ filled a (question_here f bs at).row row
  pub word_is : word_now ≡ filled a (question_here f bs at).word word

-- the place after so many questions more, or of the first word on the way that is no head
unfoldable pub skipped : Form → (questions : ℕ) → (words : List ℕ) → (at : ℕ) → ℕ
skipped f zero ws at = at
skipped f (suc k) ws at = cond (eqb (kind (get_or ws at 0)) head_kind) (skipped f k ws (behind f (head_code (get_or ws at 0)) at)) at
