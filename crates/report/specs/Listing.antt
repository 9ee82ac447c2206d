-- The listing of a sheet (document 01, 'Sheets', from 'The listing program'). It speaks of best metrics, soft outputs and verdicts as the crate metric
-- defines them, over all codewords. Assumes nothing: these are definitions.
use Rattle.std.specs.Prelude.{◌≡◌, List, [], ◌∷◌, ◌++◌, ℕ, zero, suc, length, ℤ}
use Rattle.code.specs.Code.{width, roots, is_codeword}
use Rattle.metric.specs.Metric.{Decoded, Marked}
use Rattle.sheet.specs.Sheet.{Question, sheet_refusal, questions}
use Rattle.text.specs.Text.{bits_field, least_magnitude, header, question_line, count_line, refused_line}

-- a question's line, from a decoding of its row and the mark of the word handed in
pub record Line (q : Question) (text : List ℕ) : Type 0 where
  pub word : List ℕ
  pub best : ℤ
  pub soft : List ℤ
  pub decoded : Decoded (width q.code) (is_codeword (width q.code) (roots q.code)) q.row word best soft
  pub verdict : ℕ
  pub shortfall : ℤ
  pub marked : Marked verdict shortfall (width q.code) (is_codeword (width q.code) (roots q.code)) q.row q.word
  pub text_is : text ≡ question_line q.number q.code best verdict shortfall (bits_field soft) (least_magnitude soft)

-- one line a question
unfoldable pub Lines : List Question → (text : List ℕ) → Type 0
Lines [] t = t ≡ []
Lines (q ∷ qs) t = (first : List ℕ) × (rest : List ℕ) × Line q first × Lines qs rest × (t ≡ first ++ rest)

-- the header line comes first, the count last; a refused sheet prints only its refusal
unfoldable pub Printed : (refusal : ℕ) → List Question → (text : List ℕ) → Type 0
Printed zero qs t = (lines : List ℕ) × Lines qs lines × (t ≡ header ++ (lines ++ count_line (length qs)))
Printed (suc e) qs t = t ≡ refused_line (suc e)

unfoldable pub Listing : (sheet : List ℕ) → (text : List ℕ) → Type 0
Listing bs t = Printed (sheet_refusal bs) (questions bs) t
