-- A question by its number: the heads before it are passed, and what stands there is what is left of the list.
-- Assumes nothing.
use Rattle.basics.proofs.Kit.{◌≡◌, refl, sym, ap, ap₂, ◌∙◌, List, ℕ, zero, suc, ◌+◌, ◌-◌, ◌≤◌, ◌<◌, arith, length, get_or, drop, ℤ}
use mathlib.Core.Path.{subst}
use mathlib.Core.Logic.{◌⊎◌, inl, inr}
use native.Mathlib.Nat.{add-zero, zero-add, add-suc, suc-add}
use borrow.Author.Tests.{eq-eqb, ne_eqb}
use Rattle.sheet.specs.declared.form.Form.{Form}
use Rattle.sheet.specs.Sheet.{Question, reliabilities, kind, head_code, head_kind, as_words, sheet_refusal, question_in, questions}
use Rattle.sheet.specs.Calls.{judgement, judged}
use Rattle.std.specs.Prelude.{Some, None, Ok, Err}
use Rattle.refusal.specs.declared.Refusal.{Refusal}
use Rattle.refusal.specs.Refusal.{number}
use Rattle.sheet_reader.specs.Answer.{Answer, numbered}
use Rattle.sheet_reader.specs.Calls.{filled, chosen, row_first, word_first, ChoiceSays}
use Rattle.sheet_reader.specs.Within.{Stands, answered, behind, question_here, PlaceSays, skipped}
use Rattle.sheet_reader.proofs.Order.{stands_first, Done, More, cases}

-- one turn of the loop over heads
module _ (f : Form) (ws : List ℕ) (at : ℕ) where
  pub skip_none : (k : ℕ) → k ≤ 0 → skipped f k ws at ≡ at
  unfolding skipped
  skip_none k h = let z : k ≡ 0 = omega arith in rw z

  pub skip_end : (k : ℕ) → (kind (get_or ws at 0) ≡ head_kind → ⊥) → skipped f k ws at ≡ at
  unfolding skipped
  skip_end zero n = refl
  skip_end (suc k) n = rw (ne_eqb (kind (get_or ws at 0)) head_kind n)

  pub skip_more : (k : ℕ) → 0 < k → kind (get_or ws at 0) ≡ head_kind → skipped f k ws at ≡ skipped f (k - 1) ws (behind f (head_code (get_or ws at 0)) at)
  unfolding skipped
  skip_more zero h e = absurd (omega arith)
  skip_more (suc k) h e = let z : suc k - 1 ≡ k = omega arith in rw (z, eq-eqb (kind (get_or ws at 0)) head_kind e)

-- past the last question the place stays
skip_stands : {bs : List ℕ} (i j at : ℕ) → Stands bs j at → Stands bs (j + i) (skipped reliabilities i (as_words bs) at)
unfolding skipped
skip_stands zero j at t = rw add-zero t
skip_stands {bs} (suc i) j at t = by (λ b u. subst (λ (x : ℕ). Stands bs x (skipped reliabilities i (as_words bs) b)) (suc-add j i ∙ sym (add-suc j i)) (skip_stands i (suc j) b u)) (cases t)
  where
    by : ((b : ℕ) → Stands bs (suc j) b → Stands bs (j + suc i) (skipped reliabilities i (as_words bs) b)) → Done t ⊎ More t → Stands bs (j + suc i) (skipped reliabilities (suc i) (as_words bs) at)
    by more (inl d) = rw (ne_eqb _ head_kind d.no_head) (rw (skip_end reliabilities (as_words bs) at i d.no_head) at (more at d.stays))
    by more (inr m) = rw (eq-eqb _ head_kind m.head) (more _ m.next)

pub place_there : (bs : List ℕ) (i : ℕ) → sheet_refusal bs ≡ 0 → Stands bs i (skipped reliabilities i (as_words bs) 0)
place_there bs i h = subst (λ (x : ℕ). Stands bs x (skipped reliabilities i (as_words bs) 0)) (zero-add i) (skip_stands i 0 0 (stands_first bs h))

-- a refused sheet
pub refused : (bs : List ℕ) (i : ℕ) (e : Refusal) (row : List ℤ) (word : List ℕ) → number e ≡ judged bs → number e < 100 → ChoiceSays bs i (Err e) row row word word
unfolding chosen filled judged judgement
refused bs i e row word h l = record { answer = by (sheet_refusal bs) h; row_is = refl; word_is = refl }
  where
    by : (n : ℕ) → number e ≡ judgement n (length (questions bs)) → Err (number e) ≡ chosen n (drop i (questions bs)) (length row) (length word)
    by zero h = absurd (omega arith)
    by (suc n) h = ap Err h

-- where none is left the output is kept
filled_none : {A : Type 0} (a : Answer Refusal) (l o : List A) → numbered a ≡ Ok None → filled a l o ≡ o
unfolding filled
filled_none (Ok (Some q)) l o h = absurd (cc)
filled_none (Ok None) l o h = refl
filled_none (Err e) l o h = absurd (cc)

-- from the yield at a place to the choice by number
module _ {bs : List ℕ} {i at at_now : ℕ} {row row_now : List ℤ} {word word_now : List ℕ} {a : Answer Refusal} (t : Stands bs i at) (y : PlaceSays reliabilities bs at at_now a row row_now word word_now) where
  none_is : Done t → numbered a ≡ Ok None
  unfolding answered
  none_is d = y.answer ∙ rw (ne_eqb (kind (get_or (as_words bs) at 0)) head_kind d.no_head) refl

  none : Done t → ChoiceSays bs i a row row_now word word_now
  unfolding chosen
  none d =
      let e = none_is d in
      record {
        answer = e ∙ sym (ap₂ (λ (x : ℕ) (qs : List Question). chosen x qs (length row) (length word)) t.accepted d.none);
        row_is = y.row_is ∙ (filled_none a _ row e ∙ sym (filled_none a _ row e));
        word_is = y.word_is ∙ (filled_none a _ word e ∙ sym (filled_none a _ word e));
      }

  asked : More t → ChoiceSays bs i a row row_now word word_now
  unfolding answered chosen row_first word_first question_here question_in
  asked m =
      record {
        answer =
            y.answer
            ∙ rw (eq-eqb (kind (get_or (as_words bs) at 0)) head_kind m.head)
            (sym (ap₂ (λ (x : ℕ) (qs : List Question). chosen x qs (length row) (length word)) t.accepted m.list));
        row_is = y.row_is ∙ ap (λ (qs : List Question). filled a (row_first qs) row) (sym m.list);
        word_is = y.word_is ∙ ap (λ (qs : List Question). filled a (word_first qs) word) (sym m.list);
      }

  pub choice : ChoiceSays bs i a row row_now word word_now
  choice = by (cases t)
    where
      by : Done t ⊎ More t → ChoiceSays bs i a row row_now word word_now
      by (inl d) = none d
      by (inr m) = asked m
