-- From what a yield says to the order of the questions.
-- Assumes nothing.
use Rattle.basics.proofs.Kit.{◌≡◌, refl, sym, ap, ◌∙◌, Bool, true, false, cond, List, [], ◌∷◌, ℕ, zero, suc, ◌≤◌, ◌<◌, arith, length, drop, eqb, ℤ}
use borrow.Author.Tests.{eq-eqb}
use lib.ListN.{length-drop, drop_of_length-le}
use lib.Seq.{drop-drop}
use Rattle.code.specs.Code.{width, long}
use Rattle.code.specs.Bits.{row_long}
use Rattle.sheet.specs.Sheet.{Question, reliabilities, most, sheet_refusal, question_in, questions_from, questions, kind, head_code, head_kind, after, as_words}
use Rattle.std.specs.Prelude.{Option, Some, None, Ok, Err}
use Rattle.refusal.specs.declared.Refusal.{Refusal}
use Rattle.sheet_reader.specs.declared.Question.{Question as Yielded}
use Rattle.sheet_reader.specs.Answer.{Answer, numbered, asked}
use Rattle.sheet_reader.specs.Calls.{chosen, filled, row_first, word_first, ChoiceSays}
use Rattle.lent_reader.specs.Promise.{YieldsInOrder}

few : (k : ℕ) (ws : List ℕ) → length (questions_from reliabilities k ws) ≤ k
unfolding questions_from
few zero ws = omega arith
few (suc k) [] = omega arith
few (suc k) (w ∷ ws) = by (eqb (kind w) head_kind) (few k (after reliabilities (width (head_code w)) ws))
  where
    by : (t : Bool) → length (questions_from reliabilities k (after reliabilities (width (head_code w)) ws)) ≤ k → length (cond t (question_in reliabilities w ws ∷ questions_from reliabilities k (after reliabilities (width (head_code w)) ws)) []) ≤ suc k
    by true h = omega arith
    by false h = omega arith

-- an answer that is no refusal
answer_is : (a : Answer Refusal) (x : Option Yielded) → numbered a ≡ Ok x → a ≡ Ok x
answer_is (Ok y) x h = (cc)
answer_is (Err e) x h = absurd (cc)

-- a question that was found is one of at most 200
pub found_inside : {bs : List ℕ} {i : ℕ} {a : Answer Refusal} {q : Yielded} {row row_now : List ℤ} {word word_now : List ℕ} → ChoiceSays bs i a row row_now word word_now → a ≡ Ok (Some q) → i < 200
unfolding chosen questions most
found_inside {bs} {i} {a} {q} {row} {row_now} {word} {word_now} y e = by (sheet_refusal bs) (drop i (questions bs)) refl (sym y.answer ∙ ap numbered e)
  where
    by : (e : ℕ) (qs : List Question) → drop i (questions bs) ≡ qs → chosen e qs (length row) (length word) ≡ Ok (Some q) → i < 200
    by (suc e) qs d h = absurd (cc)
    by zero [] d h = absurd (cc)
    by zero (q ∷ qs) d h = omega (arith, ap length d, length-drop i (questions bs), few 200 (as_words bs))

pub yields_in_order : YieldsInOrder
unfolding YieldsInOrder chosen filled row_first word_first
yields_in_order bs i i_now a row row_now word word_now h y = record {
  question = λ q rest e l k.
      let f : a ≡ Ok (Some (asked q.code q.number)) = answer_is a _ (y.choice.answer ∙ rw (h, e, eq-eqb (length row) (row_long (width q.code)) l, eq-eqb (length word) (long (width q.code)) k) refl) in (
        f,
        y.choice.row_is ∙ rw (f, e) refl,
        y.choice.word_is ∙ rw (f, e) refl,
        rw (y.next, f) (sym (drop-drop 1 i (questions bs)) ∙ ap (drop 1) e),
      );
  end = λ l.
      let e : drop i (questions bs) ≡ [] = drop_of_length-le (questions bs) l in
      let f : a ≡ Ok None = answer_is a _ (y.choice.answer ∙ rw (h, e) refl) in (f, y.next ∙ rw f refl);
}
