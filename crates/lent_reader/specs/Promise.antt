-- What a reader yields, one after another. A statement is a type; proofs/Order.antt has the proof. Assumes nothing.
use Rattle.std.specs.Prelude.{◌≡◌, List, ◌∷◌, ℕ, ◌≤◌, length, drop, ℤ, Some, None, Ok}
use Rattle.refusal.specs.declared.Refusal.{Refusal}
use Rattle.code.specs.Code.{width, long}
use Rattle.code.specs.Bits.{row_long}
use Rattle.sheet.specs.Sheet.{Question, sheet_refusal, questions}
use Rattle.sheet_reader.specs.Answer.{Answer, asked}
use Rattle.lent_reader.specs.Calls.{YieldSays}

-- the questions of an accepted sheet in their order; then none is left, whatever the outputs, and the reader stays there
pub record InOrder (bs : List ℕ) (i i_now : ℕ) (a : Answer Refusal) (row row_now : List ℤ) (word word_now : List ℕ) : Type 0 where
  pub question : (q : Question) (rest : List Question) → drop i (questions bs) ≡ q ∷ rest → length row ≡ row_long (width q.code) → length word ≡ long (width q.code) →
      (a ≡ Ok (Some (asked q.code q.number))) × (row_now ≡ q.row) × (word_now ≡ q.word) × (drop i_now (questions bs) ≡ rest)
  pub end : length (questions bs) ≤ i → (a ≡ Ok None) × (i_now ≡ i)

unfoldable pub YieldsInOrder : Type 0
YieldsInOrder =
    (bs : List ℕ) (i i_now : ℕ) (a : Answer Refusal) (row row_now : List ℤ) (word word_now : List ℕ) → sheet_refusal bs ≡ 0 → YieldSays bs i i_now a row row_now word word_now →
    InOrder bs i i_now a row row_now word word_now
