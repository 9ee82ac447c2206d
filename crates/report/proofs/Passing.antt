-- From one question to the next: the reader yields the question that stands in the sheet's list, and its line follows those before.
-- Assumes nothing.
use Rattle.basics.proofs.Kit.{◌≡◌, refl, sym, ap, ◌∙◌, true, List, [], ◌∷◌, ◌++◌, ℕ, zero, suc, ◌+◌, ◌*◌, ◌≤◌, ◌<◌, arith, length, get_or, take, drop, ℤ}
use mathlib.Core.Logic.{◌⊎◌, inl, inr}
use mathlib.Core.List.{append_assoc, append-nil}
use native.Mathlib.Nat.{suc-mul, mul-le-mul_right}
use native.Mathlib.Numerals.{add-one}
use borrow.Author.Tests.{eq-eqb}
use lib.ListN.{length-drop}
use Rattle.std.specs.Prelude.{Some, Ok, Err}
use Rattle.refusal.specs.declared.Refusal.{Refusal}
use Rattle.code.specs.declared.shape.Shape.{Shape}
use Rattle.code.specs.Code.{width, long}
use Rattle.code.specs.Bits.{row_long}
use Rattle.sheet.specs.Sheet.{Question, question, reliabilities, head_code, low, as_words, question_in, question_good, all_good, questions}
use Rattle.sheet.proofs.Items.{both}
use Rattle.sheet_reader.specs.declared.Question as answer
use Rattle.sheet_reader.specs.Answer.{Answer, numbered, asked}
use Rattle.sheet_reader.specs.Calls.{filled}
use Rattle.sheet_reader.specs.Within.{Stands, answered, moved, question_here, PlaceSays}
use Rattle.sheet_reader.proofs.Order.{Done, More, cases, stands_first}
use Rattle.text.specs.declared.Writer.{Writer}
use Rattle.text.proofs.Writing.{puts_nothing, puts_then, written_length}
use Rattle.report.specs.Listing.{Line, Lines}
use Rattle.report.specs.Calls.{line_most}
use Rattle.report.specs.Within.{code_at, PutLine, PutLines, Begins, Passed, SheetTaken}

-- an answer that is a question by its number is that question
as_found : (a : Answer Refusal) (c n : ℕ) → numbered a ≡ Ok (Some (asked c n)) → a ≡ Ok (Some (asked c n))
as_found (Ok x) c n e = let p : x ≡ Some (asked c n) = cc in ap Ok p
as_found (Err x) c n e = absurd (cc)

-- the code of the head at a place
pub code_is : (bs : List ℕ) (at : ℕ) {m c w : ℕ} → m ≡ width c → c ≡ head_code w → w ≡ get_or (as_words bs) at 0 → m ≡ width (code_at bs at)
code_is bs at em ec ew = rw (← ew, ← ec, ← em) refl

-- ---- one question
module _ {bs : List ℕ} {i at at' : ℕ} {a : Answer Refusal} {rs rs' : List ℤ} {ws ws' : List ℕ} (s : Shape) (k : Begins bs i at) (m_is : s.m ≡ width (code_at bs at)) (row_is : length rs ≡ s.bits) (word_is : length ws ≡ s.n) (y : PlaceSays reliabilities bs at at' a rs rs' ws ws') where
  answer_is : numbered a ≡ Ok (Some (asked (code_at bs at) (low (get_or (as_words bs) at 0))))
  unfolding answered
  answer_is =
      y.answer ∙ rw (eq-eqb _ _ k.head, eq-eqb _ _ (row_is ∙ s.numbers.bits_is ∙ ap row_long m_is), eq-eqb _ _ (word_is ∙ s.numbers.n_is ∙ ap long m_is))

  -- the reader finds a question
  pub found : a ≡ Ok (Some (asked (code_at bs at) (low (get_or (as_words bs) at 0))))
  found = as_found a _ _ answer_is

  module _ {q : answer.Question} (e : a ≡ Ok (Some q)) where
    -- which is the one that stands there
    pub here : question q.code q.number rs' ws' ≡ question_here reliabilities bs at
    unfolding question_here question_in filled
    here = let z : q ≡ asked (code_at bs at) (low (get_or (as_words bs) at 0)) = cc found in rw (z, y.row_is, y.word_is, found)

    pub good : question_good reliabilities (question q.code q.number rs' ws') ≡ true
    good = rw here k.good

    pub passed : {w v : Writer} → PutLine (question q.code q.number rs' ws') w v → Passed bs at at' w v
    unfolding moved
    passed l = record { line = rw here at l; next = y.next ∙ ap (λ (x : Answer Refusal). moved reliabilities x at) found }

-- ---- the next of an accepted sheet
good_at : (qs rest : List Question) (q : Question) (i : ℕ) → all_good reliabilities qs ≡ true → drop i qs ≡ q ∷ rest → question_good reliabilities q ≡ true
unfolding all_good
good_at [] rest q i g e = absurd (omega (arith, ap length e, length-drop {A = Question} i []))
good_at (p ∷ qs) rest q zero g e = let z : q ≡ p = cc in rw z (both (question_good reliabilities p) (all_good reliabilities qs) g).0
good_at (p ∷ qs) rest q (suc i) g e = good_at qs rest q i (both (question_good reliabilities p) (all_good reliabilities qs) g).1 e

more : {bs : List ℕ} {i at : ℕ} (t : Stands bs i at) → i < length (questions bs) → More t
more {bs} {i} t l = by (cases t)
  where
    by : Done t ⊎ More t → More t
    by (inl d) = absurd (omega (arith, length-drop i (questions bs), ap length d.none))
    by (inr m) = m

-- its line follows the lines before
lines_next : (qs rest : List Question) (q : Question) (i : ℕ) (s : List ℕ) {t : List ℕ} → drop i qs ≡ q ∷ rest → Lines (take i qs) s → Line q t → Lines (take (suc i) qs) (s ++ t)
unfolding Lines
lines_next [] rest q i s e v w = absurd (omega (arith, ap length e, length-drop {A = Question} i []))
lines_next (p ∷ qs) rest q zero s {t} e v w = let z : p ≡ q = cc in (t, [], rw z w, refl, rw v (sym (append-nil t)))
lines_next (p ∷ qs) rest q (suc i) s {t} e v w = (v.0, v.1 ++ t, v.2, lines_next qs rest q i v.1 e v.3 w, rw v.4 (append_assoc v.0 v.1 t))

-- ---- the walk over the sheet
pub record WalkedSheet (bs : List ℕ) (before now : Writer) (at i : ℕ) : Type 0 where
  pub stands : Stands bs i at
  pub near : now.at ≤ before.at + i * line_most
  pub lines : PutLines (take i (questions bs)) before now

module _ {bs : List ℕ} {count : ℕ} {w : Writer} (t : SheetTaken bs count) (r : w.at + count * line_most ≤ length w.out.now) where
  pub walk_first : WalkedSheet bs w w 0 0
  unfolding Lines
  walk_first =
      record {
        stands = stands_first bs t.none;
        near = omega arith;
        lines = record { text = []; lines = refl; puts = puts_nothing w (omega arith) };
      }

  module _ {v : Writer} {at i : ℕ} (k : WalkedSheet bs w v at i) where
    pub walk_room : i < count → v.at + line_most ≤ length v.out.now
    walk_room l = omega (arith, k.near, written_length k.lines.puts.written, mul-le-mul_right line_most l, suc-mul i line_most)

    here_is : i < count → More k.stands
    here_is l = more k.stands (omega (arith, t.count_is))

    pub walk_asked : i < count → Begins bs i at
    walk_asked l = let m = here_is l in record { stands = k.stands; head = m.head; good = good_at (questions bs) _ _ i t.good m.list }

    pub walk_more : {u : Writer} {at' : ℕ} → i < count → Passed bs at at' v u → WalkedSheet bs w u at' (i + 1)
    walk_more l x =
        let m = here_is l in let y = x.line in
        record {
          stands = rw (add-one, x.next) m.next;
          near = rw (add-one, suc-mul) (omega (arith, k.near, y.puts.written.next_is, y.short));
          lines =
              record {
                text = k.lines.text ++ y.text;
                lines = rw add-one (lines_next (questions bs) _ _ i k.lines.text m.list k.lines.lines y.line);
                puts = puts_then k.lines.puts y.puts;
              };
        }
