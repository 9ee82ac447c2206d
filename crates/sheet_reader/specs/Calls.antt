-- What a reader of a sheet answers and leaves behind, for every input (document 01, 'Sheets'). Assumes nothing: these are definitions.
use Rattle.std.specs.Prelude.{◌≡◌, ◌&&◌, cond, List, [], ◌∷◌, ℕ, zero, suc, eqb, length, drop, ℤ, Some, None, Ok, Err}
use Rattle.refusal.specs.declared.Refusal.{Refusal}
use Rattle.code.specs.Code.{width, long}
use Rattle.code.specs.Bits.{row_long}
use Rattle.sheet.specs.Sheet.{Question, sheet_refusal, questions}
use Rattle.sheet_reader.specs.Answer.{Answer, numbered, asked}

-- the answer at what is left of the question list: the sheet's refusal; none left, whatever the outputs; 4 for outputs of another length; the question
unfoldable pub chosen : (refusal : ℕ) → (left : List Question) → (row_length word_length : ℕ) → Answer ℕ
chosen (suc e) qs r n = Err (suc e)
chosen zero [] r n = Ok None
chosen zero (q ∷ qs) r n = cond (eqb r (row_long (width q.code)) && eqb n (long (width q.code))) (Ok (Some (asked q.code q.number))) (Err 4)

unfoldable pub row_first : List Question → List ℤ
row_first [] = []
row_first (q ∷ qs) = q.row

unfoldable pub word_first : List Question → List ℕ
word_first [] = []
word_first (q ∷ qs) = q.word

-- an output holds the question's, where one is yielded; else it is kept
unfoldable pub filled : {A : Type 0} → Answer Refusal → (held output : List A) → List A
filled (Ok (Some q)) l o = l
filled (Ok None) l o = o
filled (Err e) l o = o

-- the question that has i others before it
pub record ChoiceSays (bs : List ℕ) (i : ℕ) (a : Answer Refusal) (row row_now : List ℤ) (word word_now : List ℕ) : Type 0 where
  pub answer : numbered a ≡ chosen (sheet_refusal bs) (drop i (questions bs)) (length row) (length word)
  pub row_is : row_now ≡ filled a (row_first (drop i (questions bs))) row
  pub word_is : word_now ≡ filled a (word_first (drop i (questions bs))) word
