-- The places of a sheet: what is left of an accepted sheet at the place of question i holds what is left of the list after i questions.
-- Assumes nothing.
use Rattle.basics.proofs.Kit.{◌≡◌, refl, sym, ap, ap₂, ◌∙◌, List, [], ◌∷◌, ℕ, zero, suc, ◌+◌, arith, get_or, drop}
use mathlib.Core.Logic.{◌⊎◌, inl, inr}
use native.Mathlib.Nat.{add-zero}
use native.Mathlib.Numerals.{add-one}
use lib.Seq.{drop-drop, get_or-drop}
use Rattle.refusal.proofs.Tests.{passed}
use Rattle.code.specs.Code.{width}
use Rattle.sheet.specs.Sheet.{kind, head_code, head_kind, end_kind, most, reliabilities, question_long, as_words, after, rest_refusal, sheet_refusal, question_in, questions_from, questions}
use Rattle.sheet.proofs.Turns.{Rest, ends, asks, rest_parts, past}
use Rattle.sheet_reader.specs.Within.{Stands, behind, question_here}

pub stands_first : (bs : List ℕ) → sheet_refusal bs ≡ 0 → Stands bs 0 0
unfolding questions sheet_refusal
stands_first bs h = record { accepted = h; left = most; rest = (passed _ _ _ h).1; holds = refl }

-- what an accepted rest holds, by its first word
none_held : (k w : ℕ) (ws : List ℕ) → kind w ≡ end_kind → (kind w ≡ head_kind → ⊥) × (questions_from reliabilities k (w ∷ ws) ≡ [])
unfolding questions_from end_kind head_kind
none_held zero w ws e = (λ h. absurd (omega (arith, e, h)), refl)
none_held (suc k) w ws e = (λ h. absurd (omega (arith, e, h)), rw e)

one_held : (k w : ℕ) (ws : List ℕ) → kind w ≡ head_kind →
    questions_from reliabilities (suc k) (w ∷ ws) ≡ question_in reliabilities w ws ∷ questions_from reliabilities k (after reliabilities (width (head_code w)) ws)
unfolding questions_from head_kind
one_held k w ws e = rw e

module _ {bs : List ℕ} {i at : ℕ} (t : Stands bs i at) where
  abbrev words : List ℕ
  words = as_words bs

  drop_next : drop (suc i) (questions bs) ≡ drop 1 (drop i (questions bs))
  drop_next = ap (λ (x : ℕ). drop x (questions bs)) (sym (add-one i)) ∙ sym (drop-drop 1 i (questions bs))

  -- no question is left
  pub record Done : Type 0 where
    pub no_head : kind (get_or words at 0) ≡ head_kind → ⊥
    pub none : drop i (questions bs) ≡ []
    pub stays : Stands bs (suc i) at

  -- question i stands here, and behind it the question after it
  pub record More : Type 0 where
    pub head : kind (get_or words at 0) ≡ head_kind
    pub list : drop i (questions bs) ≡ question_here reliabilities bs at ∷ drop (suc i) (questions bs)
    pub next : Stands bs (suc i) (behind reliabilities (head_code (get_or words at 0)) at)

  module _ {w : ℕ} {vs : List ℕ} (e : drop at words ≡ w ∷ vs) where
    word_is : w ≡ get_or words at 0
    word_is = sym (rw (get_or-drop, add-zero) at (ap (λ (l : List ℕ). get_or l 0 0) e))

    after_is : vs ≡ drop (at + 1) words
    after_is = sym (rw drop-drop at (ap (drop 1) e))

    done : kind w ≡ end_kind → Done
    done k =
        let h = none_held t.left w vs k in
        let n : drop i (questions bs) ≡ [] = sym t.holds ∙ rw e h.1 in
        record {
          no_head = λ x. h.0 (ap kind word_is ∙ x);
          none = n;
          stays = record { accepted = t.accepted; left = t.left; rest = t.rest; holds = t.holds ∙ n ∙ sym (drop_next ∙ ap (drop 1) n) };
        }

    more : (k : ℕ) → t.left ≡ suc k → kind w ≡ head_kind → rest_refusal reliabilities k (after reliabilities (width (head_code w)) vs) ≡ 0 → More
    unfolding question_here behind
    more k l h r =
        let on : List ℕ = drop (at + (1 + question_long reliabilities (width (head_code (get_or words at 0))))) words in
        let p : after reliabilities (width (head_code w)) vs ≡ on = rw (word_is, after_is) (past reliabilities _ at words) in
        let q : drop i (questions bs) ≡ question_here reliabilities bs at ∷ questions_from reliabilities k on =
        sym t.holds ∙ rw (e, l) (one_held k w vs h ∙ ap₂ ◌∷◌ (ap₂ (question_in reliabilities) word_is after_is) (ap (questions_from reliabilities k) p)) in
        let n : drop (suc i) (questions bs) ≡ questions_from reliabilities k on = drop_next ∙ ap (drop 1) q in
        record {
          head = ap kind (sym word_is) ∙ h;
          list = q ∙ ap (◌∷◌ (question_here reliabilities bs at)) (sym n);
          next = record { accepted = t.accepted; left = k; rest = ap (rest_refusal reliabilities k) (sym p) ∙ r; holds = sym n };
        }

  pub cases : Done ⊎ More
  cases = by t.left (drop at words) refl refl (rest_parts reliabilities t.left (drop at words) t.rest)
    where
      by : (k : ℕ) (vs : List ℕ) → t.left ≡ k → drop at words ≡ vs → Rest reliabilities k vs → Done ⊎ More
      by k [] l e x = elim x [ ]
      by k (w ∷ vs) l e (ends h r) = inl (done e h)
      by (suc k) (w ∷ vs) l e (asks h q r) = inr (more e k l h r)
