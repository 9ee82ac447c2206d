-- One turn of each loop that checks a question list.
-- Assumes nothing.
use Rattle.basics.proofs.Kit.{◌≡◌, refl, ap, ◌∙◌, Bool, true, false, List, [], ◌∷◌, ℕ, zero, suc, ◌+◌, ◌-◌, ◌*◌, ◌≤◌, ◌<◌, arith, length, get_or, take, drop, eqb, leb, ℤ}
use native.Mathlib.Numerals.{add-one}
use borrow.Author.Tests.{eqb-true, leb-true}
use lib.ListN.{length-drop, drop_of_length-le}
use lib.Seq.{drop-cons, take_all}
use Rattle.std.specs.Prelude.{Result}
use Rattle.refusal.specs.declared.Refusal.{Refusal}
use Rattle.refusal.specs.Refusal.{number, number_of, ensured, unless, first}
use Rattle.code.specs.declared.shape.Shape.{Shape}
use Rattle.code.specs.Code.{width, long}
use Rattle.code.specs.Bits.{row_long}
use Rattle.sheet.specs.declared.form.Form.{Form}
use Rattle.sheet.specs.Sheet.{question_long}
use Rattle.sheet.proofs.Forms.{question_long_le}
use Rattle.sheet_writer.specs.Calls.{fits, asked_refusal, list_refusal}
use Rattle.sheet_writer.specs.Within.{words_needed}

-- how long the rows and the words of a code are, as its shape has it
module _ (c : ℕ) (s : Shape) (m : s.m ≡ width c) where
  pub row_of_code : s.bits ≡ row_long (width c)
  row_of_code = s.numbers.bits_is ∙ ap row_long m

  pub word_of_code : s.n ≡ long (width c)
  word_of_code = s.numbers.n_is ∙ ap long m

-- the last test of a chain
pub tested : (b : Bool) (x : Refusal) (a : Result Unit Refusal) → a ≡ ensured b x → number_of a ≡ unless b (number x) 0
unfolding unless
tested true x a h = rw h refl
tested false x a h = rw h refl

pub fits_last : (k l n : ℕ) → k ≡ 0 → fits k l n ≡ eqb l n
unfolding fits
fits_last k l n e = rw e

pub fits_more : (k l n : ℕ) → (k ≡ 0 → ⊥) → fits k l n ≡ leb n l
unfolding fits
fits_more zero l n h = absurd (h refl)
fits_more (suc k) l n h = refl

pub enough : (k l n : ℕ) → fits k l n ≡ true → n ≤ l
unfolding fits
enough zero l n e = omega (arith, eqb-true l n e)
enough (suc k) l n e = leb-true n l e

-- what is left from a place on, as a part of a slice
pub rest_is : {A : Type 0} (l : List A) (n : ℕ) → take (length l - n) (drop n l) ≡ drop n l
rest_is l n = take_all (length l - n) (drop n l) (omega (arith, length-drop n l))

module _ (f : Form) where
  pub needed_step : (cs : List ℕ) (i : ℕ) → i < length cs → words_needed f (drop i cs) ≡ 1 + question_long f (width (get_or cs i 0)) + words_needed f (drop (i + 1) cs)
  unfolding words_needed
  needed_step cs i h = rw (add-one, drop-cons cs i 0 h)

  pub needed_none : (cs : List ℕ) (i : ℕ) → length cs ≤ i → words_needed f (drop i cs) ≡ 0
  unfolding words_needed
  needed_none cs i h = rw (drop_of_length-le cs h) refl

  pub needed_le : (cs : List ℕ) → words_needed f cs ≤ 76 * length cs
  unfolding words_needed
  needed_le [] = omega arith
  needed_le (c ∷ cs) = omega (arith, needed_le cs, question_long_le f c)

  module _ (cs ns : List ℕ) (i : ℕ) (rs : List ℤ) (ws : List ℕ) where
    pub list_step : i < length cs → i < length ns →
        list_refusal f (drop i cs) (drop i ns) rs ws
        ≡ first (asked_refusal f (get_or cs i 0) (get_or ns i 0) (length cs - (i + 1)) rs ws)
        (list_refusal f (drop (i + 1) cs) (drop (i + 1) ns) (drop (row_long (width (get_or cs i 0))) rs) (drop (long (width (get_or cs i 0))) ws))
    unfolding list_refusal
    list_step h l = rw (← length-drop (i + 1) cs, add-one, drop-cons cs i 0 h, drop-cons ns i 0 l)

    pub list_end : length cs ≤ i → list_refusal f (drop i cs) (drop i ns) rs ws ≡ unless (eqb (length rs) 0) 2 (unless (eqb (length ws) 0) 3 0)
    unfolding list_refusal
    list_end h = rw (drop_of_length-le cs h)
