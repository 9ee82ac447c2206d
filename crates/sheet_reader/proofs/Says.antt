-- From an answer to what a yield says: a question was found, or nothing changed.
-- Assumes nothing.
use Rattle.basics.proofs.Kit.{◌≡◌, refl, sym, ap, Bool, true, false, ◌&&◌, List, ℕ, ◌+◌, ◌/◌, ◌≤◌, ◌<◌, arith, length, get_or, drop, eqb, ℤ}
use Rattle.std.specs.Prelude.{Some, None, Ok, Err}
use Rattle.refusal.specs.declared.Refusal.{Refusal}
use mathlib.Core.Logic.{◌⊎◌, inl, inr}
use borrow.Author.Tests.{eqb-true}
use Rattle.code.specs.Code.{width, long}
use Rattle.code.specs.Bits.{row_long}
use Rattle.sheet.specs.declared.form.Form.{Form}
use Rattle.sheet.specs.Sheet.{kind, head_code, low, head_kind, row_words, symbol_words, as_words, question_in, after_row}
use Rattle.sheet.proofs.Bytes.{no_word}
use Rattle.sheet.proofs.Items.{both, le_or_lt}
use Rattle.sheet_reader.specs.declared.Question.{Question}
use Rattle.sheet_reader.specs.Answer.{Answer, numbered, asked}
use Rattle.sheet_reader.specs.Calls.{filled}
use Rattle.sheet_reader.specs.Within.{yield_of, answered, behind, moved, question_here, items_from, PartsSays, PlaceSays}

-- what stands behind a question that was found
pub record Standing (w r n c k : ℕ) : Type 0 where
  pub head : kind w ≡ head_kind
  pub row_long_is : r ≡ row_long (width (head_code w))
  pub long_is : n ≡ long (width (head_code w))
  pub code_is : c ≡ head_code w
  pub number_is : k ≡ low w

pub standing : (w r n c k : ℕ) → answered w r n ≡ Ok (Some (asked c k)) → Standing w r n c k
unfolding answered
standing w r n c k h = by (eqb (kind w) head_kind) (eqb r (row_long (width (head_code w))) && eqb n (long (width (head_code w)))) refl refl h
  where
    by : (t u : Bool) → eqb (kind w) head_kind ≡ t → (eqb r (row_long (width (head_code w))) && eqb n (long (width (head_code w)))) ≡ u →
        yield_of t u (head_code w) (low w) ≡ Ok (Some (asked c k)) → Standing w r n c k
    by true true t u h =
        let p = both _ _ u in
        let q : asked c k ≡ asked (head_code w) (low w) = cc in
        record {
          head = eqb-true _ _ t;
          row_long_is = eqb-true _ _ p.0;
          long_is = eqb-true _ _ p.1;
          code_is = ap (λ (x : Question). x.code) q;
          number_is = ap (λ (x : Question). x.number) q;
        }
    by true false t u h = absurd (cc)
    by false u t e h = absurd (cc)

-- a head stands inside the sheet
pub inside : (bs : List ℕ) (at : ℕ) → kind (get_or (as_words bs) at 0) ≡ head_kind → at < length bs / 4
unfolding head_kind
inside bs at h = by (le_or_lt (length bs / 4) at)
  where
    by : (length bs / 4 ≤ at) ⊎ (at < length bs / 4) → at < length bs / 4
    by (inl l) = absurd (omega (arith, h, no_word bs at l))
    by (inr l) = l

module _ (f : Form) (bs : List ℕ) (at : ℕ) (row : List ℤ) (word : List ℕ) where
  abbrev answer : Answer ℕ
  answer = answered (get_or (as_words bs) at 0) (length row) (length word)

  pub says_found : (row_now : List ℤ) (word_now : List ℕ) (q : Question) (next : ℕ) → Ok (Some q) ≡ answer →
      next ≡ behind f q.code at → PartsSays f (drop (at + 1) (as_words bs)) (length row) (length word) row_now word_now →
      PlaceSays f bs at next (Ok (Some q)) row row_now word word_now
  unfolding moved filled question_here question_in items_from row_words symbol_words after_row
  says_found row_now word_now q next e n s =
      let t = standing (get_or (as_words bs) at 0) (length row) (length word) q.code q.number (sym e) in
      record { answer = e; next = n; row_is = rw (← t.row_long_is) s.row_is; word_is = rw (← t.long_is, ← t.row_long_is) s.word_is }

  pub says_none : Ok None ≡ answer → PlaceSays f bs at at (Ok None) row row word word
  unfolding moved filled
  says_none e = record { answer = e; next = refl; row_is = refl; word_is = refl }

  pub says_refused : (e : Refusal) → numbered (Err e) ≡ answer → PlaceSays f bs at at (Err e) row row word word
  unfolding moved filled
  says_refused e h = record { answer = h; next = refl; row_is = refl; word_is = refl }
