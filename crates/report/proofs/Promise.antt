-- The statements of specs/Promise.antt: one line a question, so by the lines; how long, by the longest line.
-- Assumes nothing.
use Rattle.basics.proofs.Kit.{◌≡◌, refl, sym, ap, ap₂, ◌∙◌, true, List, [], ◌∷◌, ◌++◌, ℕ, zero, suc, ◌*◌, ◌≤◌, ◌<◌, arith, length}
use mathlib.Core.Logic.{◌⊎◌, inl, inr}
use native.Mathlib.Nat.{suc-mul, mul-le-mul_right}
use lib.ListN.{length-append}
use Rattle.code.specs.Code.{width, roots, is_codeword}
use Rattle.code.proofs.Accepted.{width_fine, roots_few}
use Rattle.metric.specs.Promise.{CodewordsFor, DecodedThere, DecodedOne, MarkedThere, MarkedOne}
use Rattle.metric.proofs.Promise.{codewords_for, decoded_there, decoded_one, marked_there, marked_one}
use Rattle.sheet.specs.Sheet.{Question, reliabilities, most, question_good, all_good, sheet_refusal, questions}
use Rattle.sheet.specs.Calls.{judgement, judged}
use Rattle.sheet.specs.Promise.{ReadWritten}
use Rattle.sheet.proofs.Items.{both, le_or_lt}
use Rattle.sheet.proofs.Trips.{good_parts, read_written}
use Rattle.sheet_reader.proofs.Places.{judged_large}
use Rattle.text.specs.Text.{header, count_line, refused_line, decimal_from, decimal, line, question_word, code_word, best_word, verdict_word, short_word, bits_word, least_word}
use Rattle.text.specs.Promise.{ShownRight}
use Rattle.text.proofs.Promise.{shown_right}
use Rattle.text.proofs.Decimal.{digits_at_most}
use Rattle.text.proofs.Lines.{count_length, refused_length}
use Rattle.report.specs.Listing.{Line, Lines, Printed, Listing}
use Rattle.report.specs.Calls.{line_most, listing_most}
use Rattle.report.specs.Promise.{ListingThere, ListingOne, ListingFits, LineShown}
use Rattle.report.proofs.Bounds.{line_fits}

-- THERE IS A LISTING: a line for each question of an accepted sheet, which is one that a sheet can hold
line_there : (q : Question) → question_good reliabilities q ≡ true → (t : List ℕ) × Line q t
unfolding CodewordsFor DecodedThere MarkedThere
line_there q h =
    let m = width q.code in let r = roots q.code in
    let x = codewords_for m r q.row (width_fine q.code) (roots_few q.code) (good_parts reliabilities q h).row_length in
    let d = decoded_there m (is_codeword m r) q.row x in
    let k = marked_there m (is_codeword m r) q.row q.word x in (
      _,
      record { word = d.0; best = d.1; soft = d.2; decoded = d.3; verdict = k.0; shortfall = k.1; marked = k.2; text_is = refl },
    )

lines_there : (qs : List Question) → all_good reliabilities qs ≡ true → (t : List ℕ) × Lines qs t
unfolding Lines all_good
lines_there [] h = ([], refl)
lines_there (q ∷ qs) h =
    let p = both _ _ h in
    let a = line_there q p.0 in
    let b = lines_there qs p.1 in
    (a.0 ++ b.0, (a.0, b.0, a.1, b.1, refl))

pub listing_there : ListingThere
unfolding ListingThere Listing Printed ReadWritten
listing_there bs h = go (sheet_refusal bs) refl
  where
    go : (e : ℕ) → sheet_refusal bs ≡ e → (t : List ℕ) × Printed e (questions bs) t
    go zero r =
        let l = lines_there (questions bs) (read_written bs h r).0 in
        (header ++ (l.0 ++ count_line (length (questions bs))), (l.0, l.1, refl))
    go (suc e) r = (refused_line (suc e), refl)

-- AND ONLY ONE
line_one : (q : Question) (s t : List ℕ) → Line q s → Line q t → s ≡ t
unfolding DecodedOne MarkedOne
line_one q s t v w =
    let m = width q.code in let r = roots q.code in
    let d = decoded_one m (is_codeword m r) q.row v.word w.word v.best w.best v.soft w.soft v.decoded w.decoded in
    let k = marked_one m (is_codeword m r) q.row q.word v.verdict w.verdict v.shortfall w.shortfall v.marked w.marked in
    v.text_is ∙ rw (d.1, d.2, k.0, k.1) (sym w.text_is)

lines_one : (qs : List Question) (s t : List ℕ) → Lines qs s → Lines qs t → s ≡ t
unfolding Lines
lines_one [] s t v w = v ∙ sym w
lines_one (q ∷ qs) s t v w =
    v.4 ∙ ap₂ ◌++◌ (line_one q v.0 w.0 v.2 w.2) (lines_one qs v.1 w.1 v.3 w.3) ∙ sym w.4

printed_one : (e : ℕ) (qs : List Question) (s t : List ℕ) → Printed e qs s → Printed e qs t → s ≡ t
unfolding Printed
printed_one zero qs s t v w = v.2 ∙ ap (λ l. header ++ (l ++ count_line (length qs))) (lines_one qs v.0 w.0 v.1 w.1) ∙ sym w.2
printed_one (suc e) qs s t v w = v ∙ sym w

pub listing_one : ListingOne
unfolding ListingOne Listing
listing_one bs s t v w = printed_one (sheet_refusal bs) (questions bs) s t v w

-- WHAT A LINE SHOWS, from the decoding in it
pub line_shown : LineShown
unfolding LineShown ShownRight
line_shown q t h l =
    shown_right (width q.code) (roots q.code) q.row l.word l.best l.soft (width_fine q.code) (roots_few q.code)
    (good_parts reliabilities q h).row_length l.decoded

-- ---- LENGTHS: each question of an accepted sheet is one that a sheet can hold
pub lines_short : (qs : List Question) (t : List ℕ) → all_good reliabilities qs ≡ true → Lines qs t → length t ≤ length qs * line_most
unfolding Lines all_good
lines_short [] t h l = rw l (omega arith)
lines_short (q ∷ qs) t h l =
    let p = both _ _ h in
    let a = line_fits (good_parts reliabilities q p.0) l.2 in
    let b = lines_short qs l.1 p.1 l.3 in
    rw (l.4, length-append, suc-mul) (omega arith)

pub count_short : (n : ℕ) → n ≤ 200 → length (count_line n) ≤ 14
count_short n h = omega (arith, count_length n, digits_at_most 2 n (omega arith))

-- the numbers that the definitions compute to
pub record Numerals : Type 0 where
  pub header_is : length header ≡ 44
  pub line_is : line_most ≡ 95
  pub most_is : most ≡ 200
  pub count_is : length (count_line most) ≡ 14
  pub whole_is : listing_most ≡ 19058

pub numerals : Numerals
unfolding listing_most line_most most header count_line line decimal decimal_from question_word code_word best_word verdict_word short_word bits_word least_word
numerals = record { header_is = refl; line_is = refl; most_is = refl; count_is = refl; whole_is = refl }

small : (bs : List ℕ) (e : ℕ) → sheet_refusal bs ≡ suc e → suc e < 100
unfolding judged judgement
small bs e r = by (le_or_lt 100 (suc e))
  where
    by : (100 ≤ suc e) ⊎ (suc e < 100) → suc e < 100
    by (inl h) = absurd (omega (arith, judged_large bs (rw r h)))
    by (inr h) = h

pub listing_fits : ListingFits
unfolding ListingFits Listing ReadWritten Printed listing_most
listing_fits bs t h l = go (sheet_refusal bs) refl l
  where
    go : (e : ℕ) → sheet_refusal bs ≡ e → Printed e (questions bs) t → length t ≤ listing_most
    go zero r p =
        let n = numerals in
        let b = read_written bs h r in
        let a = lines_short (questions bs) p.0 b.0 p.1 in
        let k = count_short (length (questions bs)) (omega (arith, b.1)) in
        rw (p.2, length-append, length-append) (omega (arith, mul-le-mul_right line_most b.1))
    go (suc e) r p = let n = numerals in rw p (omega (arith, refused_length (suc e), digits_at_most 1 (suc e) (small bs e r)))
