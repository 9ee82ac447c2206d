-- The questions that are drawn: each is one that a sheet can hold, and what is left to draw.
-- Assumes nothing.
use Rattle.basics.proofs.Kit.{◌≡◌, refl, sym, ap, ap₂, ◌∙◌, true, ◌&&◌, List, ◌∷◌, ◌++◌, ℕ, zero, suc, ◌+◌, ◌-◌, ◌*◌, ◌^◌, ◌≤◌, ◌<◌, arith, length, take, drop, ℤ, pos}
use Rattle.std.proofs.Common.{replicate, suc-mul, add-one, length-append, length-take-le, take_at, pow_pos, lt-ltb, eqb-true, leb-true}
use lib.ListN.{length-replicate}
use Rattle.refusal.proofs.Tests.{passed, first_none}
use Rattle.code.specs.declared.shape.Shape.{Shape}
use Rattle.code.specs.Code.{code_good, width, long, symbols_good}
use Rattle.code.specs.Bits.{row_long}
use Rattle.code.proofs.Accepted.{number_taken}
use Rattle.sheet.specs.declared.form.Form.{Form}
use Rattle.sheet.specs.Sheet.{question, reliabilities, most, question_long, question_words, all_words, question_good, all_good}
use Rattle.sheet.proofs.Forms.{bits_le, n_le}
use Rattle.sheet.proofs.Longest.{question_length, written_length}
use Rattle.sheet.proofs.Trips.{parts_good}
use Rattle.sheet_writer.proofs.Lists.{row_of_code, word_of_code}
use Rattle.practice.specs.Practice.{row_drawn, after, question_drawn, drawn_from, drawn}
use Rattle.practice.specs.Calls.{practice_refusal}
use Rattle.practice.specs.Within.{SheetWithin}
use Rattle.practice.proofs.Draws.{row_fine, row_length}

-- the zero word
zeros_good : (m n : ℕ) → symbols_good m (replicate n 0) ≡ true
unfolding symbols_good
zeros_good m zero = refl
zeros_good m (suc n) = ap₂ ◌&&◌ (lt-ltb 0 (2 ^ m) (pow_pos m)) (zeros_good m n)

pub drawn_good : (c i s : ℕ) → code_good c ≡ true → i < 2 ^ 24 → question_good reliabilities (question_drawn i c s) ≡ true
drawn_good c i s g h = parts_good reliabilities (question_drawn i c s) (record {
  known = g;
  small = h;
  row_length = row_length (row_long (width c)) s;
  row_fine = row_fine (row_long (width c)) s;
  word_length = length-replicate (long (width c)) 0;
  word_fine = zeros_good (width c) (long (width c));
})

pub drawn_all_good : (c n i s : ℕ) → code_good c ≡ true → i + n ≤ 2 ^ 24 → all_good reliabilities (drawn_from i c n s) ≡ true
unfolding all_good drawn_from
drawn_all_good c zero i s g h = refl
drawn_all_good c (suc n) i s g h = ap₂ ◌&&◌ (drawn_good c i s g (omega arith)) (drawn_all_good c n (suc i) (after (row_long (width c)) s) g (omega arith))

pub drawn_length : (c n i s : ℕ) → length (drawn_from i c n s) ≡ n
unfolding drawn_from
drawn_length c zero i s = refl
drawn_length c (suc n) i s = ap suc (drawn_length c n (suc i) (after (row_long (width c)) s))

-- how many words they take
pub drawn_words : (f : Form) (c n i s : ℕ) → length (all_words f (drawn_from i c n s)) ≡ n * (1 + question_long f (width c))
unfolding all_words drawn_from
drawn_words f c zero i s = omega arith
drawn_words f c (suc n) i s =
    let more : List ℕ = all_words f (drawn_from (suc i) c n (after (row_long (width c)) s)) in
    omega (arith, length-append (question_words f (question_drawn i c s)) more, question_length f (question_drawn i c s), drawn_words f c n (suc i) (after (row_long (width c)) s), suc-mul n (1 + question_long f (width c)))

-- the next question, after i of n, and those after it
pub next_drawn : (c n i s : ℕ) → i < n →
    drawn_from (i + 1) c (n - i) s ≡ question_drawn (i + 1) c s ∷ drawn_from (i + 1 + 1) c (n - (i + 1)) (after (row_long (width c)) s)
unfolding drawn_from
next_drawn c n i s h = let e : n - i ≡ suc (n - (i + 1)) = omega arith in rw (e, add-one (i + 1))

-- what is lent of a question: a row at the start of its array, and as many zeros as its word has
pub row_lent : {bits : ℕ} (l s : ℕ) {last : List ℤ} (rest : List ℤ) → bits ≡ l → last ≡ row_drawn l s → take bits (last ++ rest) ≡ row_drawn l s
row_lent {bits} l s {last} rest e h = take_at last rest bits (ap length h ∙ row_length l s ∙ sym e) ∙ h

zeros_of : (k n : ℕ) → k ≤ n → take {A = ℕ} k (replicate n 0) ≡ replicate k 0
zeros_of zero n h = refl
zeros_of (suc k) zero h = absurd (omega arith)
zeros_of (suc k) (suc n) h = ap (λ (l : List ℕ). 0 ∷ l) (zeros_of k n (omega arith))

pub word_lent : {k l : ℕ} (n : ℕ) → k ≡ l → k ≤ n → take {A = ℕ} k (replicate n 0) ≡ replicate l 0
word_lent {k} n e h = zeros_of k n h ∙ ap (λ (x : ℕ). replicate x 0) e

-- a row that was drawn into the start of an array, and the question that is lent with it
module _ (c : ℕ) (sh : Shape) (m : sh.m ≡ width c) (st : ℕ) where
  abbrev places : List ℤ
  places = replicate 60 (pos 0)

  pub part : length (take sh.bits places) ≡ sh.bits
  part = length-take-le _ places (bits_le sh)

  module _ {row : List ℤ} (is : row ≡ row_drawn (length (take sh.bits places)) st) where
    row_is : row ≡ row_drawn (row_long (width c)) st
    row_is = is ∙ ap (λ (n : ℕ). row_drawn n st) (part ∙ row_of_code c sh m)

    pub room : sh.bits ≤ length (row ++ drop sh.bits places)
    room =
        omega (arith, length-append row (drop sh.bits places), ap length row_is, row_length (row_long (width c)) st, row_of_code c sh m)

    pub lent : (i : ℕ) → question c i (take sh.bits (row ++ drop sh.bits places)) (take sh.n (replicate 15 0)) ≡ question_drawn i c st
    lent i = ap₂ (question c i) (row_lent _ _ _ (row_of_code c sh m) row_is) (word_lent 15 (word_of_code c sh m) (n_le sh))

-- what is not refused can be drawn
pub accepted : (c n s o : ℕ) → practice_refusal c n s o ≡ 0 → SheetWithin c n s o
unfolding practice_refusal most
accepted c n s o e =
    let a = passed _ _ _ e in
    let b = first_none _ _ a.1 in
    record {
      known = number_taken c b.0;
      few = leb-true _ _ a.0;
      room = eqb-true _ _ (passed _ _ _ b.1).0 ∙ written_length reliabilities (drawn c n s);
    }
