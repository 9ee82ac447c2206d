-- Both round trips. An accepted list holds questions that a sheet can hold, and a list of such questions, lent as the writer takes it, is accepted.
-- Assumes nothing.
use Rattle.basics.proofs.Kit.{◌≡◌, refl, ap₂, true, ◌&&◌, List, [], ◌∷◌, ◌++◌, ℕ, arith, length, drop, ℤ}
use mathlib.Core.List.{map, flat_map, append-nil}
use borrow.Author.Tests.{le-leb, eq-eqb, lt-ltb}
use lib.ListN.{length-append, length-map}
use lib.Seq.{take_at, drop_at}
use Rattle.refusal.specs.Refusal.{unless, first, Outcome}
use Rattle.refusal.proofs.Tests.{first_none}
use Rattle.refusal.proofs.Outcomes.{outcome_zero}
use Rattle.code.specs.Code.{width, long}
use Rattle.code.specs.Bits.{row_long}
use Rattle.code.proofs.Accepted.{number_free}
use Rattle.sheet.specs.declared.form.Form.{Form}
use Rattle.sheet.specs.Sheet.{Question, reliabilities, most, all_good, questions}
use Rattle.sheet.specs.Promise.{WrittenRead, ReadWritten}
use Rattle.sheet.proofs.Items.{both}
use Rattle.sheet.proofs.Forms.{row_form}
use Rattle.sheet.proofs.Trips.{good_parts, parts_good, written_read, read_written}
use Rattle.sheet_writer.specs.Calls.{listed, fits, parts_refusal, asked_refusal, list_refusal, write_refusal, WriteSays}
use Rattle.sheet_writer.specs.Promise.{ListsReturn, LentSays, SheetsReturn}
use Rattle.sheet_writer.proofs.Writing.{asked_good, listed_length, accepted}

listed_good : (f : Form) (cs ns : List ℕ) (rs : List ℤ) (ws : List ℕ) → length cs ≡ length ns → list_refusal f cs ns rs ws ≡ 0 → all_good f (listed cs ns rs ws) ≡ true
unfolding listed list_refusal all_good
listed_good f [] ns rs ws e h = refl
listed_good f (c ∷ cs) [] rs ws e h = absurd (omega arith)
listed_good f (c ∷ cs) (n ∷ ns) rs ws e h =
    let p = first_none _ _ h in
    ap₂ ◌&&◌ (parts_good f _ (asked_good f c n (length cs) rs ws p.0)) (listed_good f cs ns (drop (row_long (width c)) rs) (drop (long (width c)) ws) (omega arith) p.1)

pub lists_return : ListsReturn
unfolding ListsReturn WriteSays WrittenRead most
lists_return cs ns rs ws o p w =
    let d = outcome_zero _ _ _ w in
    let a = accepted reliabilities row_form cs ns rs ws _ d.0 in
    rw d.1 (written_read (listed cs ns rs ws) (listed_good _ cs ns rs ws a.same a.taken) (omega (arith, listed_length cs ns rs ws a.same, a.few)))

-- what is lent of a question, with what is lent of those after it, fits
fits_lent : {A : Type 0} (f : Question → List A) (q : Question) (qs : List Question) (n : ℕ) → length (f q) ≡ n →
    fits (length (map (λ p. p.code) qs)) (length (f q ++ flat_map f qs)) n ≡ true
unfolding fits flat_map
fits_lent f q [] n e = rw (append-nil, e) (eq-eqb n n refl)
fits_lent f q (p ∷ qs) n e = le-leb n (length (f q ++ flat_map f (p ∷ qs))) (omega (arith, length-append (f q) (flat_map f (p ∷ qs))))

-- the list that is lent of questions that a sheet can hold is accepted, and is theirs
lent : (f : Form) (qs : List Question) → all_good f qs ≡ true →
    let cs : List ℕ = map (λ q. q.code) qs in
    let ns : List ℕ = map (λ q. q.number) qs in
    let rs : List ℤ = flat_map (λ q. q.row) qs in
    let ws : List ℕ = flat_map (λ q. q.word) qs in
    (list_refusal f cs ns rs ws ≡ 0) × (listed cs ns rs ws ≡ qs)
unfolding all_good list_refusal listed flat_map asked_refusal parts_refusal first unless
lent f [] g = (refl, refl)
lent f (q ∷ qs) g =
    let p = both _ _ g in
    let h = good_parts f q p.0 in
    let more = lent f qs p.1 in
    let m : ℕ = width q.code in
    let rs : List ℤ = flat_map (λ q. q.row) qs in
    let ws : List ℕ = flat_map (λ q. q.word) qs in
    let row = take_at q.row rs (row_long m) h.row_length in
    let word = take_at q.word ws (long m) h.word_length in
    let rows = drop_at q.row rs (row_long m) h.row_length in
    let words = drop_at q.word ws (long m) h.word_length in
    let small = h.small in (
      rw
          (number_free q.code h.known, lt-ltb, fits_lent (λ q. q.row) q qs (row_long m) h.row_length, fits_lent (λ q. q.word) q qs (long m) h.word_length, row, h.row_fine, word, h.word_fine, rows, words, more.0),
      rw (row, word, rows, words, more.1),
    )

pub sheets_return : SheetsReturn
unfolding SheetsReturn LentSays WriteSays write_refusal Outcome ReadWritten first unless
sheets_return bs r o p g e l w =
    let t = read_written bs g e in
    let d = lent reliabilities (questions bs) t.0 in
    let n : ℕ = length (questions bs) in
    simp (length-map, le-leb n most t.1, eq-eqb n n refl, d.0, d.1, t.2, eq-eqb (length o) (length bs) l) at w
