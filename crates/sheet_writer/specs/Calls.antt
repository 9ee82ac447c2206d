-- What writing a question list answers and leaves behind, for every input (document 01, 'Sheets' and 'Where each call stops').
-- Assumes nothing: these are definitions.
use Rattle.std.specs.Prelude.{◌≡◌, Bool, ◌&&◌, List, [], ◌∷◌, ℕ, zero, suc, ltb, leb, eqb, length, take, drop, ℤ}
use Rattle.refusal.specs.Refusal.{unless, first, Outcome}
use Rattle.code.specs.Code.{number_refusal, width, long, symbols_good}
use Rattle.code.specs.Bits.{row_long}
use Rattle.metric.specs.Row.{row_good}
use Rattle.sheet.specs.declared.form.Form.{Form}
use Rattle.sheet.specs.Sheet.{Question, question, reliabilities, sheet_bound, most, numbers, written_in, written}

-- a question list is lent as its codes, its question numbers, all rows end to end and all handed-in words end to end
unfoldable pub listed : (codes numbers : List ℕ) → (rows : List ℤ) → (words : List ℕ) → List Question
listed [] ns rs ws = []
listed (c ∷ cs) [] rs ws = []
listed (c ∷ cs) (n ∷ ns) rs ws =
    let m = width c in
    question c n (take (row_long m) rs) (take (long m) ws) ∷ listed cs ns (drop (row_long m) rs) (drop (long m) ws)

-- so many are needed where so many are left: no fewer, and for the last question no more
unfoldable pub fits : (after left needed : ℕ) → Bool
fits zero l n = eqb l n
fits (suc k) l n = leb n l

-- the row and the word of a question with so many after it: lengths 2, 3, then entries 5, 6
unfoldable pub parts_refusal : Form → (m after : ℕ) → (rows : List ℤ) → (words : List ℕ) → ℕ
parts_refusal f m k rs ws =
    unless (fits k (length rs) (row_long m)) 2
    (unless (fits k (length ws) (long m)) 3
    (unless (row_good (sheet_bound f) (take (row_long m) rs)) 5
    (unless (symbols_good m (take (long m) ws)) 6 0)))

-- before them the code 1 and the question number 11
unfoldable pub asked_refusal : Form → (code number after : ℕ) → (rows : List ℤ) → (words : List ℕ) → ℕ
asked_refusal f c n k rs ws = first (number_refusal c) (unless (ltb n numbers) 11 (parts_refusal f (width c) k rs ws))

-- question by question; an empty list leaves nothing over
unfoldable pub list_refusal : Form → (codes numbers : List ℕ) → (rows : List ℤ) → (words : List ℕ) → ℕ
list_refusal f [] ns rs ws = unless (eqb (length rs) 0) 2 (unless (eqb (length ws) 0) 3 0)
list_refusal f (c ∷ cs) [] rs ws = 12
list_refusal f (c ∷ cs) (n ∷ ns) rs ws =
    first (asked_refusal f c n (length cs) rs ws) (list_refusal f cs ns (drop (row_long (width c)) rs) (drop (long (width c)) ws))

-- more than 200 questions or unequal counts 12, then the list, then an output of another length 4
unfoldable pub write_refusal : Form → (codes numbers : List ℕ) → (rows : List ℤ) → (words : List ℕ) → (output : ℕ) → ℕ
write_refusal f cs ns rs ws o =
    unless (leb (length cs) most && eqb (length cs) (length ns)) 12
    (first (list_refusal f cs ns rs ws)
    (unless (eqb o (length (written_in f (listed cs ns rs ws)))) 4 0))

-- the output is the sheet of the list; a refusal keeps it
unfoldable pub WriteSays : (codes numbers : List ℕ) → (rows : List ℤ) → (words : List ℕ) → (answer : ℕ) → (output output_now : List ℕ) → Type 0
WriteSays cs ns rs ws r o p = Outcome (write_refusal reliabilities cs ns rs ws (length o)) r (p ≡ written (listed cs ns rs ws)) (p ≡ o)
