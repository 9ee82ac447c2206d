-- Words that hold items, for any form: what was written is accepted and read back, and what was accepted is written back.
-- Assumes nothing.
use Rattle.basics.proofs.Kit.{◌≡◌, refl, sym, ap, ap₂, ◌∙◌, Bool, true, false, ◌&&◌, List, [], ◌∷◌, ◌++◌, ℕ, zero, suc, ◌-◌, ◌*◌, ◌^◌, ◌≤◌, ◌<◌, min, arith, length, get_or, take, drop, leb}
use mathlib.Core.Path.{subst}
use mathlib.Core.Logic.{◌⊎◌, inl, inr}
use mathlib.Core.Bool.{false≢true}
use mathlib.Core.List.{append-nil}
use native.Mathlib.Nat.{div-eq_of_lt, lt_of_lt_of_le, min-eq_left, mul-suc, le_trans, pow-le-pow_right, min-le_left, mul-zero}
use borrow.Author.Tests.{eqb-true, eq-eqb, leb-true, leb-false}
use lib.ListN.{length-append, length-take, length-drop, take-append-drop, drop_of_length-le}
use lib.Seq.{take_all, take_at, drop_at}
use Rattle.refusal.specs.Refusal.{unless, first}
use Rattle.refusal.proofs.Tests.{passed, first_none}
use Rattle.code.proofs.Words.{Below}
use Rattle.sheet.specs.declared.form.Form.{Form}
use Rattle.sheet.specs.Sheet.{packed, worded, kind, body, used, items, unused, items_words, word_refusal, items_refusal, items_in}
use Rattle.sheet.proofs.Digits.{digits_length, digits_below, digits_packed, packed_digits, packed_lt}

pub both : (a b : Bool) → (a && b) ≡ true → (a ≡ true) × (b ≡ true)
both true b e = (refl, e)
both false b e = absurd (false≢true e)

pub le_or_lt : (a b : ℕ) → (a ≤ b) ⊎ (b < a)
le_or_lt a b = by (leb a b) refl
  where
    by : (t : Bool) → leb a b ≡ t → (a ≤ b) ⊎ (b < a)
    by true e = inl (leb-true a b e)
    by false e = inr (leb-false a b e)

-- a word's kind and body
pub kind_worded : (k v : ℕ) → v < 2 ^ 28 → kind (worded k v) ≡ k
unfolding worded
kind_worded k v h = omega arith

pub body_worded : (k v : ℕ) → v < 2 ^ 28 → body (worded k v) ≡ v
unfolding worded
body_worded k v h = omega arith

pub worded_again : (w : ℕ) → worded (kind w) (body w) ≡ w
unfolding worded
worded_again w = omega arith

pub below_parts : (b n : ℕ) (ds : List ℕ) → Below b ds → Below b (take n ds) × Below b (drop n ds)
below_parts b zero ds g = (tt, g)
below_parts b (suc n) [] g = (tt, tt)
below_parts b (suc n) (d ∷ ds) g = let r = below_parts b n ds g.1 in ((g.0, r.0), r.1)

pub below_join : (b : ℕ) (ds es : List ℕ) → Below b ds → Below b es → Below b (ds ++ es)
below_join b [] es g h = h
below_join b (d ∷ ds) es g h = (g.0, below_join b ds es g.1 h)

pub items_words_length : (f : Form) (k : ℕ) (ds : List ℕ) → length (items_words f k ds) ≡ k
unfolding items_words
items_words_length f zero ds = refl
items_words_length f (suc k) ds = ap suc (items_words_length f k (drop f.each ds))

-- a form, and what is asked of items
pub record Tested (f : Form) (good : List ℕ → Bool) : Type 0 where
  pub none : good [] ≡ true
  pub splits : (a b : List ℕ) → good (a ++ b) ≡ (good a && good b)

-- an accepted run of words is that of n items
pub record Held (f : Form) (good : List ℕ → Bool) (k n : ℕ) (ws : List ℕ) : Type 0 where
  pub ds : List ℕ
  pub long : length ds ≡ n
  pub fine : good ds ≡ true
  pub inside : Below f.base ds
  pub again : ws ≡ items_words f k ds ++ drop k ws

pub empty : {A : Type 0} (l : List A) → length l ≡ 0 → l ≡ []
empty [] e = refl
empty (x ∷ l) e = absurd (omega arith)

module _ (f : Form) where
  items_length : (n w : ℕ) → length (items f n w) ≡ used f n
  unfolding items
  items_length n w = digits_length f.base (used f n) (body w)

  -- the first word takes the first items
  part : (n w : ℕ) (ds : List ℕ) → length ds ≡ n - f.each → (take f.each (items f n w ++ ds) ≡ items f n w) × (drop f.each (items f n w ++ ds) ≡ ds)
  unfolding used
  part n w ds e = by (le_or_lt f.each n)
    where
      by : (f.each ≤ n) ⊎ (n < f.each) → (take f.each (items f n w ++ ds) ≡ items f n w) × (drop f.each (items f n w ++ ds) ≡ ds)
      by (inl h) = let l : length (items f n w) ≡ f.each = items_length n w ∙ min-eq_left h in (take_at (items f n w) ds f.each l, drop_at (items f n w) ds f.each l)
      by (inr h) =
          let l : length (items f n w) ≤ f.each = omega (arith, items_length n w) in
          let z : ds ≡ [] = empty ds (omega arith) in
          (rw (z, append-nil) (take_all f.each (items f n w) l), rw (z, append-nil) (drop_of_length-le (items f n w) l))

  pub items_in_length : (k n : ℕ) (ws : List ℕ) → n ≤ f.each * k → length (items_in f k n ws) ≡ n
  unfolding items_in used
  items_in_length zero n ws l = omega (arith, mul-zero f.each)
  items_in_length (suc k) n ws l =
      omega (
        arith,
        length-append (items f n (get_or ws 0 0)) (items_in f k (n - f.each) (drop 1 ws)),
        items_length n (get_or ws 0 0),
        items_in_length k (n - f.each) (drop 1 ws) (omega (arith, mul-suc f.each k)),
      )

-- a written word
record Word (f : Form) (ds : List ℕ) (w : ℕ) : Type 0 where
  small : packed f.base (take f.each ds) < 2 ^ 28
  right : kind w ≡ f.kind
  clear : unused f (length ds) w ≡ 0
  same : items f (length ds) w ≡ take f.each ds

module _ (f : Form) (good : List ℕ → Bool) (t : Tested f good) where
  word : (ds : List ℕ) → Below f.base ds → Word f ds (worded f.kind (packed f.base (take f.each ds)))
  unfolding used unused items
  word ds g =
      let v : ℕ = packed f.base (take f.each ds) in
      let b : Below f.base (take f.each ds) = (below_parts f.base f.each ds g).0 in
      let l : length (take f.each ds) ≡ min f.each (length ds) = length-take f.each ds in
      let n : v < f.base ^ min f.each (length ds) = subst (λ (x : ℕ). v < f.base ^ x) l (packed_lt f.base (take f.each ds) b) in
      let m : v < 2 ^ 28 = lt_of_lt_of_le n (le_trans (pow-le-pow_right f.fine.some (min-le_left f.each (length ds))) f.fine.fits) in
      let e : body (worded f.kind v) ≡ v = body_worded f.kind v m in
      record {
        small = m;
        right = kind_worded f.kind v m;
        clear = rw e (div-eq_of_lt n);
        same = rw e (rw (← l) (digits_packed f.base f.fine.some (take f.each ds) b));
      }

  pub items_words_below : (k : ℕ) (ds : List ℕ) → Below f.base ds → Below (2 ^ 32) (items_words f k ds)
  unfolding items_words worded
  items_words_below zero ds g = tt
  items_words_below (suc k) ds g =
      (omega (arith, (word ds g).small, f.fine.kinds), items_words_below k (drop f.each ds) (below_parts f.base f.each ds g).1)

  fine_parts : (ds : List ℕ) → good ds ≡ true → (good (take f.each ds) ≡ true) × (good (drop f.each ds) ≡ true)
  fine_parts ds h =
      both (good (take f.each ds)) (good (drop f.each ds))
      (sym (t.splits (take f.each ds) (drop f.each ds)) ∙ ap good (take-append-drop f.each ds) ∙ h)

  pub written_accepted : (e k : ℕ) (ds rest : List ℕ) → Below f.base ds → good ds ≡ true →
      items_refusal f e good k (length ds) (items_words f k ds ++ rest) ≡ 0
  unfolding items_refusal word_refusal first unless items_words
  written_accepted e zero ds rest g h = refl
  written_accepted e (suc k) ds rest g h =
      let w = word ds g in
      rw (w.right, eq-eqb f.kind f.kind refl, w.clear, w.same, (fine_parts ds h).0, ← length-drop f.each ds)
      (written_accepted e k (drop f.each ds) rest (below_parts f.base f.each ds g).1 (fine_parts ds h).1)

  pub written_back : (k : ℕ) (ds rest : List ℕ) → Below f.base ds → length ds ≤ f.each * k →
      items_in f k (length ds) (items_words f k ds ++ rest) ≡ ds
  unfolding items_in items_words
  written_back zero [] rest g l = refl
  written_back zero (d ∷ ds) rest g l = absurd (omega (arith, mul-zero f.each))
  written_back (suc k) ds rest g l =
      let w = word ds g in
      rw (w.same, ← length-drop f.each ds)
      (ap (λ (x : List ℕ). take f.each ds ++ x)
      (written_back k (drop f.each ds) rest (below_parts f.base f.each ds g).1 (omega (arith, length-drop f.each ds, mul-suc f.each k)))
      ∙ take-append-drop f.each ds)

  pub accepted_back : (e k n : ℕ) (ws : List ℕ) → n ≤ f.each * k → items_refusal f (suc e) good k n ws ≡ 0 → Held f good k n ws
  unfolding items_refusal word_refusal items_words used unused items
  accepted_back e zero n ws l h = record { ds = []; long = omega (arith, mul-zero f.each); fine = t.none; inside = tt; again = refl }
  accepted_back e (suc k) n [] l h = absurd (omega arith)
  accepted_back e (suc k) n (w ∷ ws) l h =
      let o = first_none _ _ h in
      let a = passed _ _ _ o.0 in
      let b = passed _ _ _ a.1 in
      more (eqb-true _ _ a.0) (eqb-true _ _ b.0) (passed _ _ _ b.1).0 (accepted_back e k (n - f.each) ws (omega (arith, mul-suc f.each k)) o.1)
    where
      more : kind w ≡ f.kind → unused f n w ≡ 0 → good (items f n w) ≡ true → Held f good k (n - f.each) ws → Held f good (suc k) n (w ∷ ws)
      more right clear fine r =
          let p = part f n w r.ds r.long in
          record {
            ds = items f n w ++ r.ds;
            long = omega (arith, length-append (items f n w) r.ds, items_length f n w, r.long);
            fine = t.splits (items f n w) r.ds ∙ ap₂ ◌&&◌ fine r.fine;
            inside = below_join f.base (items f n w) r.ds (digits_below f.base f.fine.some (used f n) (body w)) r.inside;
            again = rw (p.0, p.1) (ap₂ ◌∷◌ (sym (ap₂ worded (sym right) (packed_digits f.base (used f n) (body w) clear) ∙ worded_again w)) r.again);
          }
