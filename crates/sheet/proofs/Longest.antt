-- The longest sheet: 200 questions of code 3, each of 24 words.
-- Assumes nothing.
use Rattle.basics.proofs.Kit.{◌≡◌, refl, ap, ◌∙◌, true, List, [], ◌∷◌, ◌++◌, ℕ, zero, suc, ◌+◌, ◌*◌, ◌≤◌, arith, length, pos}
use lib.Dec.{lit≤}
use lib.ListN.{replicate, length-append, length-replicate}
use Rattle.field.specs.Field.{width_good}
use Rattle.field.proofs.Tests.{widths}
use Rattle.code.specs.Code.{code_good, width, long, symbols_good}
use Rattle.code.specs.Bits.{row_long}
use Rattle.code.proofs.Accepted.{width_fine}
use Rattle.metric.specs.Row.{reliability_good, row_good}
use Rattle.sheet.specs.declared.form.Form.{Form}
use Rattle.sheet.specs.Sheet.{Question, question, reliabilities, end_kind, most, worded, count, row_words, symbol_words, question_long, question_words, all_words, written_in, written, questions, question_good, all_good}
use Rattle.sheet.specs.Promise.{sheet_most, LongestSheet, ReadWritten, WrittenRead}
use Rattle.sheet.proofs.Items.{items_words_length}
use Rattle.sheet.proofs.Bytes.{bytes_length, bytes, as_bytes_below}
use Rattle.sheet.proofs.Trips.{written_read, read_written}

pub question_length : (f : Form) (q : Question) → length (question_words f q) ≡ suc (question_long f (width q.code))
unfolding question_words question_long
question_length f q = simp (length-append, items_words_length) (omega arith)

pub written_length : (f : Form) (qs : List Question) → length (written_in f qs) ≡ 4 * (length (all_words f qs) + 1)
unfolding written_in
written_length f qs =
    let e : List ℕ = worded end_kind (length qs) ∷ [] in
    omega (arith, bytes_length (all_words f qs ++ e), length-append (all_words f qs) e)

-- today's form
question_long_most : (m : ℕ) → width_good m ≡ true → question_long reliabilities m ≤ 23
unfolding question_long row_words symbol_words count row_long long
question_long_most = widths (λ m. question_long reliabilities m ≤ 23) (lit≤ tt) (lit≤ tt)

words_le : (qs : List Question) → length (all_words reliabilities qs) ≤ 24 * length qs
unfolding all_words
words_le [] = omega arith
words_le (q ∷ qs) = simp (length-append, question_length) (omega (arith, question_long_most (width q.code) (width_fine q.code), words_le qs))

-- a question of code 3, and so many of them
longest : Question
longest = question 3 0 (replicate 60 (pos 0)) (replicate 15 0)

longest_good : (n : ℕ) → all_good reliabilities (replicate n longest) ≡ true
unfolding all_good question_good longest code_good width long row_long row_good reliability_good symbols_good
longest_good zero = refl
longest_good (suc n) = longest_good n

longest_words : (n : ℕ) → length (all_words reliabilities (replicate n longest)) ≡ 24 * n
unfolding all_words longest width question_long row_words symbol_words count row_long long
longest_words zero = refl
longest_words (suc n) = simp (length-append, question_length) (omega (arith, longest_words n))

pub longest_sheet : LongestSheet
unfolding sheet_most ReadWritten WrittenRead written_in most
longest_sheet = record {
  none_longer = λ bs g e.
      let r = read_written bs g e in
      omega (arith, ap length r.2, written_length reliabilities (questions bs), words_le (questions bs), r.1);
  one_as_long =
      let qs : List Question = replicate 200 longest in (
        written qs,
        bytes (written qs) (as_bytes_below (all_words reliabilities qs ++ worded end_kind (length qs) ∷ [])),
        (written_read qs (longest_good 200) (omega (arith, length-replicate 200 longest))).0,
        written_length reliabilities qs ∙ ap (λ (n : ℕ). 4 * (n + 1)) (longest_words 200),
      );
}
