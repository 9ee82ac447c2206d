-- One turn of each loop that judges: a digit, a word, a question.
-- Assumes nothing.
use Rattle.basics.proofs.Kit.{◌≡◌, refl, sym, ap, ◌∙◌, Bool, true, false, ◌&&◌, ◌||◌, cond, List, [], ◌∷◌, ℕ, zero, suc, ◌+◌, ◌-◌, ◌/◌, ◌%◌, ◌^◌, ◌≤◌, ◌<◌, arith, length, get_or, drop, eqb, leb, ltb}
use mathlib.Core.Logic.{◌⊎◌, inl, inr}
use mathlib.Core.Bool.{and_assoc, and-true}
use native.Mathlib.Nat.{div-div-eq-div-mul, pow-succ', pow-zero, div-one, div-eq-sub-div, div-eq_of_lt, add-zero, zero-add, not-suc-le-zero}
use native.Mathlib.Numerals.{add-one}
use borrow.Author.Tests.{eq-eqb, ne_eqb, eqb-true, ltb-true}
use lib.ListN.{length-drop, drop_of_length-le}
use lib.Seq.{drop-drop, drop-cons}
use Rattle.refusal.specs.Refusal.{unless, first}
use Rattle.refusal.proofs.Tests.{passed, first_none, first_refuses}
use Rattle.code.specs.Code.{width, long}
use Rattle.code.specs.Bits.{row_long}
use Rattle.code.proofs.Words.{Below}
use Rattle.sheet.specs.declared.form.Form.{Form}
use Rattle.sheet.specs.declared.judging.Scan.{Scan}
use Rattle.sheet.specs.Sheet.{reliabilities, symbols, digits, kind, body, head_code, head_kind, end_kind, most, used, items, count, row_words, symbol_words, question_long, word_refusal, items_refusal, row_refusal, symbol_refusal, question_refusal, head_refusal, end_refusal, next_refusal, rest_refusal, after_row, after, questions_from, questions, sheet_refusal, as_words}
use Rattle.sheet.specs.Within.{RowForm, outside, ScanSays, judged_from}
use Rattle.sheet.specs.Calls.{judgement, judged}
use Rattle.sheet.proofs.Digits.{digits_below}
use Rattle.sheet.proofs.Items.{le_or_lt}
use Rattle.sheet.proofs.Forms.{row_outside, symbols_outside}
use Rattle.sheet.proofs.Bytes.{as_words_length}

-- A DIGIT
-- n digits, of which so many are left
pub record Scanned (v b n lo hi rest : ℕ) (good : Bool) (left : ℕ) : Type 0 where
  pub above : v / b ^ n ≡ rest / b ^ left
  pub tested : outside lo hi (digits b n v) ≡ (good && outside lo hi (digits b left rest))

-- what a pass found, by other names of the body and of the count
pub scan_is : {v w b n k lo hi : ℕ} {s : Scan} → v ≡ w → n ≡ k → ScanSays v b n lo hi s → ScanSays w b k lo hi s
scan_is e g s = rw (← e, ← g) s

module _ {v b n lo hi rest : ℕ} {good : Bool} where
  pub digit : (left : ℕ) → 0 < left → Scanned v b n lo hi rest good left → Scanned v b n lo hi (rest / b) (good && (ltb (rest % b) lo || leb hi (rest % b))) (left - 1)
  unfolding outside digits
  digit zero h s = absurd (not-suc-le-zero h)
  digit (suc k) h s =
      let e : suc k - 1 ≡ k = omega arith in
      rw e (record { above = s.above ∙ rw (pow-succ' b k, ← div-div-eq-div-mul); tested = s.tested ∙ rw and_assoc })

  pub digits_done : (left : ℕ) → left ≤ 0 → Scanned v b n lo hi rest good left → (rest ≡ v / b ^ n) × (good ≡ outside lo hi (digits b n v))
  unfolding outside digits
  digits_done (suc k) h s = absurd (omega arith)
  digits_done zero h s = (sym (s.above ∙ rw (pow-zero, div-one)), sym (s.tested ∙ and-true good))

-- A WORD
-- two ways to ask the same of items
module _ (f : Form) (some : 0 < f.base) (e : ℕ) (good fine : List ℕ → Bool) (same : (ds : List ℕ) → Below f.base ds → good ds ≡ fine ds) where
  same_items : (k n : ℕ) (ws : List ℕ) → items_refusal f e good k n ws ≡ items_refusal f e fine k n ws
  unfolding items_refusal word_refusal items
  same_items zero n ws = refl
  same_items (suc k) n [] = refl
  same_items (suc k) n (w ∷ ws) = rw (same (digits f.base (used f n) (body w)) (digits_below f.base some (used f n) (body w)), same_items k (n - f.each) ws)

pub row_judged : {f : Form} → RowForm f → (m : ℕ) (ws : List ℕ) →
    items_refusal f 5 (outside (f.base / 2) (f.base / 2 + 1)) (count f (row_long m)) (row_long m) ws ≡ row_refusal f m ws
unfolding row_refusal row_words
row_judged {f} z m ws = same_items f f.fine.some 5 _ _ (row_outside f z.even) _ _ ws

pub symbols_judged : (m : ℕ) (ws : List ℕ) → items_refusal symbols 6 (outside (2 ^ m) 16) (count symbols (long m)) (long m) ws ≡ symbol_refusal m ws
unfolding symbol_refusal symbol_words
symbols_judged m ws = same_items symbols symbols.fine.some 6 _ _ (symbols_outside m) _ _ ws

-- the words that items take: one more than those after it
pub count_more : (f : Form) → 0 < f.each → (n : ℕ) → 0 < n → count f n ≡ suc (count f (n - f.each))
unfolding count
count_more f some n h =
    div-eq-sub-div some (omega arith) ∙ rw add-one (ap suc (by (le_or_lt f.each n)))
  where
    by : (f.each ≤ n) ⊎ (n < f.each) → (n + (f.each - 1) - f.each) / f.each ≡ (n - f.each + (f.each - 1)) / f.each
    by (inl l) = ap (λ (x : ℕ). x / f.each) (omega arith)
    by (inr l) = div-eq_of_lt (omega arith) ∙ sym (div-eq_of_lt (omega arith))

-- n items in so many words from a word on: none, no word there, and one word
module _ (f : Form) (e : ℕ) (good : List ℕ → Bool) (ws : List ℕ) (n i : ℕ) where
  pub items_none : (k : ℕ) → k ≤ 0 → items_refusal f e good k n (drop i ws) ≡ 0
  unfolding items_refusal
  items_none k h = let z : k ≡ 0 = omega arith in rw z

  pub items_out : (k : ℕ) → 0 < k → length ws ≤ i → items_refusal f e good k n (drop i ws) ≡ 9
  unfolding items_refusal
  items_out zero h l = absurd (omega arith)
  items_out (suc k) h l = rw (drop_of_length-le ws l)

  pub items_step : (k : ℕ) → 0 < k → i < length ws →
      items_refusal f e good k n (drop i ws) ≡ first (word_refusal f e good n (get_or ws i 0)) (items_refusal f e good (k - 1) (n - f.each) (drop (i + 1) ws))
  unfolding items_refusal
  items_step zero h l = absurd (omega arith)
  items_step (suc k) h l = let z : suc k - 1 ≡ k = omega arith in rw (z, drop-cons ws i 0 l, add-one)

-- A QUESTION
pub judgement_some : (e n : ℕ) → (e ≡ 0 → ⊥) → judgement e n ≡ e
unfolding judgement
judgement_some zero n h = absurd (h refl)
judgement_some (suc e) n h = refl

judgement_unless : (b : Bool) (k e n : ℕ) → judgement (unless b (suc k) e) n ≡ unless b (suc k) (judgement e n)
unfolding judgement unless
judgement_unless true k e n = refl
judgement_unless false k e n = refl

pub judged_whole : (bs : List ℕ) → judged bs ≡ unless (eqb (length bs % 4) 0) 9 (judged_from reliabilities most (as_words bs))
unfolding judged sheet_refusal questions judged_from most
judged_whole bs = rw (zero-add (length (questions_from reliabilities 200 (as_words bs)))) (judgement_unless _ 8 _ _)

-- the words behind a question whose head stands at a place
pub past : (f : Form) (m at : ℕ) (ws : List ℕ) → after f m (drop (at + 1) ws) ≡ drop (at + (1 + question_long f m)) ws
unfolding after after_row question_long
past f m at ws =
    let e : at + 1 + row_words f m + symbol_words m ≡ at + (1 + (row_words f m + symbol_words m)) = omega arith in
    ap (drop (symbol_words m)) (drop-drop (row_words f m) (at + 1) ws) ∙ drop-drop (symbol_words m) (at + 1 + row_words f m) ws ∙ ap (λ (x : ℕ). drop x ws) e

-- an accepted rest of a sheet begins with an end, or with a question and an accepted rest
pub data Rest (f : Form) : (left : ℕ) → List ℕ → Type 0 where
  ends : {k w : ℕ} {ws : List ℕ} → kind w ≡ end_kind → end_refusal (most - k) w (length ws) ≡ 0 → Rest f k (w ∷ ws)
  asks : {k w : ℕ} {ws : List ℕ} → kind w ≡ head_kind → question_refusal f (head_code w) ws ≡ 0 → rest_refusal f k (after f (width (head_code w)) ws) ≡ 0 → Rest f (suc k) (w ∷ ws)

module _ (f : Form) where
  head_asks : (k w : ℕ) (ws : List ℕ) → head_refusal f k w ws ≡ 0 → (kind w ≡ head_kind) × (0 < k) × (question_refusal f (head_code w) ws ≡ 0)
  unfolding head_refusal
  head_asks k w ws e =
      let a = passed _ _ _ e in
      let b = passed _ _ _ a.1 in
      (eqb-true _ _ a.0, ltb-true 0 k b.0, b.1)

  pub rest_parts : (k : ℕ) (ws : List ℕ) → rest_refusal f k ws ≡ 0 → Rest f k ws
  unfolding rest_refusal next_refusal
  rest_parts zero [] e = absurd (omega arith)
  rest_parts (suc k) [] e = absurd (omega arith)
  rest_parts zero (w ∷ ws) e = by (eqb (kind w) end_kind) refl e
    where
      by : (t : Bool) → eqb (kind w) end_kind ≡ t → cond t (end_refusal (most - 0) w (length ws)) (first (head_refusal f 0 w ws) 0) ≡ 0 → Rest f 0 (w ∷ ws)
      by true t e = ends (eqb-true _ _ t) e
      by false t e = absurd (not-suc-le-zero (head_asks 0 w ws (first_none _ _ e).0).1)
  rest_parts (suc k) (w ∷ ws) e = by (eqb (kind w) end_kind) refl e
    where
      by : (t : Bool) → eqb (kind w) end_kind ≡ t →
          cond t (end_refusal (most - suc k) w (length ws)) (first (head_refusal f (suc k) w ws) (rest_refusal f k (after f (width (head_code w)) ws))) ≡ 0 → Rest f (suc k) (w ∷ ws)
      by true t e = ends (eqb-true _ _ t) e
      by false t e = let a = first_none _ _ e in let h = head_asks (suc k) w ws a.0 in asks h.0 h.2 a.1

  pub judged_none : (k : ℕ) → judged_from f k [] ≡ 9
  unfolding judged_from rest_refusal next_refusal judgement
  judged_none zero = refl
  judged_none (suc k) = refl

  judged_end : (k w : ℕ) (ws : List ℕ) → kind w ≡ end_kind → judged_from f k (w ∷ ws) ≡ judgement (end_refusal (most - k) w (length ws)) (most - k)
  unfolding judged_from rest_refusal next_refusal questions_from end_kind head_kind
  judged_end zero w ws e = rw (e, add-zero)
  judged_end (suc k) w ws e = rw (e, add-zero)

  module _ (w : ℕ) (ws : List ℕ) (n : kind w ≡ end_kind → ⊥) where
    judged_refused : (k : ℕ) → (head_refusal f k w ws ≡ 0 → ⊥) → judged_from f k (w ∷ ws) ≡ head_refusal f k w ws
    unfolding judged_from rest_refusal next_refusal
    judged_refused zero h = rw (ne_eqb (kind w) end_kind n, ← first_refuses _ _ h) (judgement_some _ _ h)
    judged_refused (suc k) h = rw (ne_eqb (kind w) end_kind n, ← first_refuses _ _ h) (judgement_some _ _ h)

    judged_more : (k : ℕ) → head_refusal f k w ws ≡ 0 → k ≤ most → (0 < k) × (judged_from f k (w ∷ ws) ≡ judged_from f (k - 1) (after f (width (head_code w)) ws))
    unfolding judged_from rest_refusal next_refusal questions_from first
    judged_more zero h l = absurd (not-suc-le-zero (head_asks 0 w ws h).1)
    judged_more (suc k) h l =
        let e : suc k - 1 ≡ k = omega arith in
        let a = head_asks (suc k) w ws h in
        (a.1, rw (e, ne_eqb (kind w) end_kind n, h, eq-eqb (kind w) head_kind a.0) (ap (judgement _) (omega arith)))

  module _ (bs : List ℕ) (k at : ℕ) (h : at < length bs / 4) where
    abbrev pub word_here : ℕ
    word_here = get_or (as_words bs) at 0

    abbrev pub head_here : ℕ
    head_here = head_refusal f k word_here (drop (at + 1) (as_words bs))

    here : drop at (as_words bs) ≡ word_here ∷ drop (at + 1) (as_words bs)
    here = rw add-one (drop-cons (as_words bs) at 0 (omega (arith, as_words_length bs)))

    pub turn_end : kind word_here ≡ end_kind → judged_from f k (drop at (as_words bs)) ≡ judgement (end_refusal (most - k) word_here (length bs / 4 - (at + 1))) (most - k)
    turn_end e = rw (here, ← as_words_length bs, ← length-drop (at + 1) (as_words bs)) (judged_end k _ _ e)

    pub turn_refused : (kind word_here ≡ end_kind → ⊥) → (head_here ≡ 0 → ⊥) → judged_from f k (drop at (as_words bs)) ≡ head_here
    turn_refused n r = rw here (judged_refused _ _ n k r)

    pub turn_more : (kind word_here ≡ end_kind → ⊥) → head_here ≡ 0 → k ≤ most →
        (0 < k) × (judged_from f k (drop at (as_words bs)) ≡ judged_from f (k - 1) (drop (at + (1 + question_long f (width (head_code word_here)))) (as_words bs)))
    turn_more n r l =
        let t = judged_more _ _ n k r l in
        (t.0, rw here (t.1 ∙ ap (judged_from f (k - 1)) (past f (width (head_code word_here)) at (as_words bs))))
