-- The whole text: a refusal's line, or the header, the lines and the count, one behind the other from the output's start.
-- Assumes nothing.
use Rattle.basics.proofs.Kit.{◌≡◌, refl, sym, ap, ap₂, ◌∙◌, true, ◌&&◌, List, [], ◌∷◌, ◌++◌, ℕ, zero, suc, ◌+◌, ◌*◌, ◌≤◌, ◌<◌, arith, length, get_or, drop, eqb}
use native.Mathlib.Nat.{zero-add, mul-le-mul_right}
use borrow.Author.Tests.{eq-eqb, eqb-true, lt-ltb}
use lib.ListN.{length-append}
use Rattle.std.specs.Prelude.{Ok, Err}
use Rattle.refusal.specs.declared.Refusal.{Refusal}
use Rattle.refusal.specs.declared.Refusal.TheVariants.{Output}
use Rattle.refusal.specs.Refusal.{number, ensured, unless, Outcome}
use Rattle.refusal.proofs.Results.{stops, goes_on}
use Rattle.sheet.specs.Sheet.{sheet_refusal, questions}
use Rattle.sheet.specs.Calls.{judgement, judged}
use Rattle.sheet.specs.Promise.{all_bytes, ReadWritten}
use Rattle.sheet.proofs.Trips.{read_written}
use Rattle.sheet_reader.proofs.Places.{judged_large, number_small}
use Rattle.text.specs.Text.{header, count_line, refused_line}
use Rattle.text.specs.Within.{put, Written}
use Rattle.text.specs.declared.Writer.{Writer}
use Rattle.text.specs.Writer.{Room, Puts}
use Rattle.text.proofs.Decimal.{digits_at_most}
use Rattle.text.proofs.Lines.{refused_length}
use Rattle.text.proofs.Writing.{written_length, puts_then}
use Rattle.report.specs.Listing.{Printed, Listing}
use Rattle.report.specs.Calls.{line_most, listing_most, ListSays}
use Rattle.report.specs.Within.{PutLines, SheetTaken}
use Rattle.report.proofs.Promise.{lines_short, count_short, numerals}

-- an output of another length
pub wrong_length : (bs o : List ℕ) (e : Refusal) → ensured (eqb (length o) 19058) Output ≡ Err e → ListSays bs (number e) 0 o o
unfolding ListSays Outcome unless
wrong_length bs o e h = let s = stops _ _ e h in rw (numerals.whole_is, s.0, s.1) (refl, (refl, refl))

-- a writer at the start of an output that is long enough
pub record Starts (o : List ℕ) (w : Writer) : Type 0 where
  pub at_is : w.at ≡ 0
  pub out_is : w.out.now ≡ o
  pub long : length o ≡ 19058

pub starts : {o : List ℕ} {w : Writer} {u : Unit {0}} → ensured (eqb (length o) 19058) Output ≡ Ok u → w.out.now ≡ o → w.at ≡ 0 → Starts o w
starts h e a = record { at_is = a; out_is = e; long = eqb-true _ _ (goes_on _ _ _ h) }

-- what a writer held is what its output holds after it
pub handed_back : (bs o : List ℕ) (v : Writer) (p : List ℕ) → p ≡ v.out.now → ListSays bs 0 v.at o v.out.now → ListSays bs 0 v.at o p
handed_back bs o v p e s = rw e s

-- ---- a text at the start of the output
module _ {o : List ℕ} {w : Writer} (s : Starts o w) where
  from_start : {t p : List ℕ} {n : ℕ} → Written w.at t w.out.now p n → Written 0 t o p n
  from_start x = rw (← s.at_is, ← s.out_is) x

  whole : length w.out.now ≡ 19058
  whole = ap length s.out_is ∙ s.long

  listed : (bs : List ℕ) {t : List ℕ} {v : Writer} → Listing bs t → Puts t w v → ListSays bs 0 v.at o v.out.now
  unfolding ListSays Outcome unless put
  listed bs {t} {v} l p =
      let x = from_start p.written in
      rw (eq-eqb (length o) listing_most (s.long ∙ sym numerals.whole_is))
      (refl, (t, l, x.next_is ∙ zero-add (length t), x.now_is ∙ ap (λ k. t ++ drop k o) (zero-add (length t))))

-- ---- a refused sheet
refused_listing : (bs : List ℕ) (r n k : ℕ) → k < 100 → k ≡ judgement r n → Printed r (questions bs) (refused_line k)
unfolding judgement Printed
refused_listing bs zero n k h e = absurd (omega arith)
refused_listing bs (suc r) n k h e = ap refused_line e

module _ {o : List ℕ} {w : Writer} (s : Starts o w) (e : Refusal) where
  pub refused_room : Room (refused_line (number e)) w
  refused_room = omega (arith, s.at_is, whole s, refused_length (number e), digits_at_most 1 (number e) (number_small e))

  pub refused : (bs : List ℕ) {v : Writer} → number e ≡ judged bs → Puts (refused_line (number e)) w v → ListSays bs 0 v.at o v.out.now
  unfolding judged Listing
  refused bs j p = listed s bs (refused_listing bs (sheet_refusal bs) (length (questions bs)) (number e) (number_small e) j) p

-- ---- an accepted sheet
bytes : (bs : List ℕ) → ((i : ℕ) → i < length bs → get_or bs i 0 < 256) → all_bytes bs ≡ true
unfolding all_bytes
bytes [] f = refl
bytes (b ∷ bs) f = ap₂ ◌&&◌ (lt-ltb b 256 (f 0 (omega arith))) (bytes bs (λ i h. f (suc i) (omega arith)))

pub counted : {bs : List ℕ} {n : ℕ} → ((i : ℕ) → i < length bs → get_or bs i 0 < 256) → 100 + n ≡ judged bs → SheetTaken bs n
unfolding judged judgement ReadWritten
counted {bs} {n} f e =
    let r : sheet_refusal bs ≡ 0 = judged_large bs (omega (arith, e)) in
    let w = read_written bs (bytes bs f) r in
    let c : n ≡ length (questions bs) = omega (arith, rw r at e) in
    record { none = r; count_is = c; few = rw c w.1; good = w.0 }

pub header_room : {o : List ℕ} {w : Writer} → Starts o w → Room header w
header_room s = let n = numerals in omega (arith, s.at_is, whole s)

module _ {bs o : List ℕ} {n : ℕ} {w v : Writer} (t : SheetTaken bs n) (s : Starts o w) (h : Puts header w v) where
  few : n ≤ 200
  few = let k = numerals in omega (arith, t.few)

  pub lines_room : v.at + n * line_most ≤ length v.out.now
  lines_room = let k = numerals in omega (arith, s.at_is, whole s, h.written.next_is, written_length h.written, mul-le-mul_right line_most few)

  module _ {u : Writer} (l : PutLines (questions bs) v u) where
    pub count_room : Room (count_line n) u
    count_room =
        let k = numerals in
        let x = l.puts.written in
        let y : length l.text ≤ n * line_most = rw t.count_is (lines_short (questions bs) l.text t.good l.lines) in
        omega (
          arith,
          s.at_is,
          whole s,
          h.written.next_is,
          written_length h.written,
          x.next_is,
          written_length x,
          mul-le-mul_right line_most few,
          count_short n few,
        )

    pub accepted : {z : Writer} → Puts (count_line n) u z → ListSays bs 0 z.at o z.out.now
    unfolding Listing Printed
    accepted p =
        let x : Printed (sheet_refusal bs) (questions bs) (header ++ (l.text ++ count_line n)) =
        rw t.none (l.text, l.lines, ap (λ m. header ++ (l.text ++ count_line m)) t.count_is) in
        listed s bs x (puts_then h (puts_then l.puts p))

-- ---- for a caller that hands the text on
says_room : (e : ℕ) (bs : List ℕ) (a n : ℕ) (o p : List ℕ) →
    Outcome e a ((text : List ℕ) × Listing bs text × (n ≡ length text) × (p ≡ text ++ drop (length text) o)) ((n ≡ 0) × (p ≡ o)) → n ≤ length p
unfolding Outcome
says_room zero bs a n o p s = let d = s.1 in rw d.3 (rw length-append (omega (arith, d.2)))
says_room (suc e) bs a n o p s = omega (arith, s.1.0)

pub long_fits : (bs : List ℕ) (a n : ℕ) (o p : List ℕ) → ListSays bs a n o p → n ≤ length p
unfolding ListSays
long_fits bs a n o p s = says_room (unless (eqb (length o) listing_most) 4 0) bs a n o p s
