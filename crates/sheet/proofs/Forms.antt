-- The forms: reliabilities in two's complement, and symbols. Their items fit, and both ways of a row are inverse to each other.
-- Assumes nothing.
use Rattle.basics.proofs.Kit.{◌≡◌, refl, sym, ap, ap₂, Bool, true, false, ◌&&◌, ◌||◌, cond, List, [], ◌∷◌, ◌++◌, ℕ, suc, ◌+◌, ◌-◌, ◌*◌, ◌/◌, ◌%◌, ◌^◌, ◌≤◌, ◌<◌, arith, length, leb, ltb, ℤ, pos, negsuc, nat_abs}
use mathlib.Core.Logic.{◌⊎◌, inl, inr}
use mathlib.Core.Bool.{and_assoc, or-false}
use native.Mathlib.Nat.{mod-lt, mod-add-div, mul-suc, mul-le-mul_left, mul-le-mul_right}
use borrow.Author.Tests.{ltb-true, ltb-false, leb-true, leb-false, lt-ltb, le-ltb, le-leb, lt-leb}
use lib.Dec.{lit≤, lit<}
use lib.Pow.{pow_mono}
use lib.ListN.{length-map}
use mir.Syntax.{w64}
use mir.Val.{Fits}
use Rattle.field.specs.Field.{width_good}
use Rattle.field.proofs.Tests.{to_T, widths}
use Rattle.code.specs.declared.shape.Shape.{Shape}
use Rattle.code.specs.Code.{width, long, symbols_good}
use Rattle.code.specs.Bits.{row_long}
use Rattle.code.proofs.Accepted.{width_fine}
use Rattle.code.proofs.Words.{Below, below, widen}
use Rattle.metric.specs.Row.{reliability_good, row_good}
use Rattle.metric.proofs.Bounds.{row_first, row_rest}
use Rattle.sheet.specs.declared.form.Form.{Form}
use Rattle.std.proofs.Props.{props}
use Rattle.sheet.specs.Forms.{Fine, three, six}
use Rattle.sheet.specs.Sheet.{reliabilities, symbols, unsigned_of, signed_of, row_items, row_of, sheet_bound, count, row_words, symbol_words, question_long}
use Rattle.sheet.specs.Within.{RowForm, outside}
use Rattle.sheet.proofs.Items.{Tested, le_or_lt}

row_splits : (f : Form) (k : ℕ) (a b : List ℕ) → row_good k (row_of f (a ++ b)) ≡ (row_good k (row_of f a) && row_good k (row_of f b))
unfolding row_good row_of
row_splits f k [] b = refl
row_splits f k (d ∷ ds) b = rw (and_assoc, row_splits f k ds b)

symbol_splits : (m : ℕ) (a b : List ℕ) → symbols_good m (a ++ b) ≡ (symbols_good m a && symbols_good m b)
unfolding symbols_good
symbol_splits m [] b = refl
symbol_splits m (d ∷ ds) b = rw (and_assoc, symbol_splits m ds b)

-- a form is its three numbers
fine_once : {k e b : ℕ} → IsProp (Fine k e b)
fine_once = Prim.hlevel props

pub rows_here : (z : Fine 2 3 (2 ^ 8)) → record { kind = 2; each = 3; base = 2 ^ 8; fine = z } ≡ reliabilities
rows_here z = ap (λ (x : Fine 2 3 (2 ^ 8)). record { kind = 2; each = 3; base = 2 ^ 8; fine = x }) (fine_once z three)

pub symbols_here : (z : Fine 3 6 (2 ^ 4)) → record { kind = 3; each = 6; base = 2 ^ 4; fine = z } ≡ symbols
symbols_here z = ap (λ (x : Fine 3 6 (2 ^ 4)). record { kind = 3; each = 6; base = 2 ^ 4; fine = x }) (fine_once z six)

-- today's forms
pub row_form : RowForm reliabilities
row_form = record {
  even = refl;
  other = λ e. omega (arith, e);
}

pub symbol_tested : (m : ℕ) → Tested symbols (symbols_good m)
unfolding symbols_good
symbol_tested m = record { none = refl; splits = symbol_splits m }

-- two's complement
pub unsigned_lt : {b : ℕ} (r : ℤ) → 0 < b → reliability_good (b / 2 - 1) r ≡ true → unsigned_of b r < b
unfolding unsigned_of reliability_good
unsigned_lt {b} (pos n) h g = omega (arith, leb-true n (b / 2 - 1) g)
unsigned_lt (negsuc n) h g = omega arith

signed_unsigned : (b : ℕ) (r : ℤ) → 2 ≤ b → reliability_good (b / 2 - 1) r ≡ true → signed_of b (unsigned_of b r) ≡ r
unfolding signed_of unsigned_of reliability_good
signed_unsigned b (pos n) h g = rw (lt-ltb n (b / 2) (omega (arith, leb-true n (b / 2 - 1) g)))
signed_unsigned b (negsuc n) h g =
    let l : suc n ≤ b / 2 - 1 = leb-true (suc n) (b / 2 - 1) g in
    rw (le-ltb (b - 1 - n) (b / 2) (omega arith)) (ap negsuc (omega arith))

unsigned_signed : (b d : ℕ) → d < b → unsigned_of b (signed_of b d) ≡ d
unfolding signed_of unsigned_of
unsigned_signed b d h = by (ltb d (b / 2))
  where
    by : (t : Bool) → unsigned_of b (cond t (pos d) (negsuc (b - 1 - d))) ≡ d
    by true = refl
    by false = omega arith

-- half the base is the one item that is no reliability
reliability_outside : (b d : ℕ) → b % 2 ≡ 0 → d < b → (ltb d (b / 2) || leb (b / 2 + 1) d) ≡ reliability_good (b / 2 - 1) (signed_of b d)
unfolding signed_of reliability_good
reliability_outside b d even l = by (ltb d (b / 2)) refl
  where
    high : (t : Bool) → leb (b / 2 + 1) d ≡ t → b / 2 ≤ d → t ≡ leb (suc (b - 1 - d)) (b / 2 - 1)
    high true e h = sym (le-leb (suc (b - 1 - d)) (b / 2 - 1) (omega (arith, leb-true (b / 2 + 1) d e)))
    high false e h = sym (lt-leb (suc (b - 1 - d)) (b / 2 - 1) (omega (arith, leb-false (b / 2 + 1) d e)))

    by : (t : Bool) → ltb d (b / 2) ≡ t → (t || leb (b / 2 + 1) d) ≡ leb (nat_abs (cond t (pos d) (negsuc (b - 1 - d)))) (b / 2 - 1)
    by true e = sym (le-leb d (b / 2 - 1) (omega (arith, ltb-true d (b / 2) e)))
    by false e = high (leb (b / 2 + 1) d) refl (ltb-false d (b / 2) e)

pub row_outside : (f : Form) → f.base % 2 ≡ 0 → (ds : List ℕ) → Below f.base ds → outside (f.base / 2) (f.base / 2 + 1) ds ≡ row_good (sheet_bound f) (row_of f ds)
unfolding outside row_good row_of
row_outside f even [] g = refl
row_outside f even (d ∷ ds) g = ap₂ ◌&&◌ (reliability_outside f.base d even g.0) (row_outside f even ds g.1)

pub symbols_outside : (m : ℕ) (ds : List ℕ) → Below 16 ds → outside (2 ^ m) 16 ds ≡ symbols_good m ds
unfolding outside symbols_good
symbols_outside m [] g = refl
symbols_outside m (d ∷ ds) g = rw (lt-leb 16 d g.0, or-false) (ap (λ (x : Bool). ltb d (2 ^ m) && x) (symbols_outside m ds g.1))

-- the words of so many items have room for them, and are no more than these
module _ (f : Form) where
  pub count_room : (n : ℕ) → n ≤ f.each * count f n
  unfolding count
  count_room n = omega (arith, f.fine.holds, mod-add-div (n + (f.each - 1)) f.each, mod-lt (n + (f.each - 1)) f.fine.holds)

  pub count_place : (n k : ℕ) → k < count f n → f.each * k < n
  unfolding count
  count_place n k h =
      omega (arith, f.fine.holds, mod-add-div (n + (f.each - 1)) f.each, mul-le-mul_left f.each h, mul-suc f.each k)

  pub count_le : (n : ℕ) → count f n ≤ n
  count_le n = by (le_or_lt (count f n) n)
    where
      by : (count f n ≤ n) ⊎ (n < count f n) → count f n ≤ n
      by (inl h) = h
      by (inr h) = absurd (omega (arith, count_place n n h, mul-le-mul_right n f.fine.holds))

-- rows in a form
module _ (f : Form) where
  pub row_tested : Tested f (λ ds. row_good (sheet_bound f) (row_of f ds))
  unfolding row_good row_of
  row_tested = record { none = refl; splits = row_splits f (sheet_bound f) }

  pub items_below : (rs : List ℤ) → 0 < f.base → row_good (sheet_bound f) rs ≡ true → Below f.base (row_items f rs)
  unfolding row_items
  items_below [] h g = tt
  items_below (r ∷ rs) h g = (unsigned_lt r h (row_first _ r rs g), items_below rs h (row_rest _ r rs g))

  pub row_back : (rs : List ℤ) → 2 ≤ f.base → row_good (sheet_bound f) rs ≡ true → row_of f (row_items f rs) ≡ rs
  unfolding row_items row_of
  row_back [] h g = refl
  row_back (r ∷ rs) h g = ap₂ ◌∷◌ (signed_unsigned f.base r h (row_first _ r rs g)) (row_back rs h (row_rest _ r rs g))

  pub items_back : (ds : List ℕ) → Below f.base ds → row_items f (row_of f ds) ≡ ds
  unfolding row_items row_of
  items_back [] g = refl
  items_back (d ∷ ds) g = ap₂ ◌∷◌ (unsigned_signed f.base d g.0) (items_back ds g.1)

  pub row_items_length : (rs : List ℤ) → length (row_items f rs) ≡ length rs
  unfolding row_items
  row_items_length rs = length-map rs (unsigned_of f.base)

  pub row_of_length : (ds : List ℕ) → length (row_of f ds) ≡ length ds
  unfolding row_of
  row_of_length ds = length-map ds (signed_of f.base)

-- symbols of either width have four bits
pub symbols_below : (m : ℕ) (ws : List ℕ) → m ≤ 4 → symbols_good m ws ≡ true → Below symbols.base ws
symbols_below m ws h g = widen (pow_mono {j = 4} h) ws (below m ws (to_T g))

-- the words of a row and of a word have room for them
pub row_room : (f : Form) (m : ℕ) → row_long m ≤ f.each * row_words f m
unfolding row_words
row_room f m = count_room f (row_long m)

pub symbol_room : (m : ℕ) → long m ≤ symbols.each * symbol_words m
unfolding symbol_words
symbol_room m = count_room symbols (long m)

-- a question is short
pub row_long_le : (m : ℕ) → width_good m ≡ true → row_long m ≤ 60
unfolding row_long long
row_long_le = widths (λ m. row_long m ≤ 60) (lit≤ tt) (lit≤ tt)

pub long_le : (m : ℕ) → width_good m ≡ true → long m ≤ 15
unfolding long
long_le = widths (λ m. long m ≤ 15) (lit≤ tt) (lit≤ tt)

pub bits_le : (s : Shape) → s.bits ≤ 60
bits_le s = omega (arith, s.numbers.bits_is, row_long_le s.m s.numbers.width_is)

pub n_le : (s : Shape) → s.n ≤ 15
n_le s = omega (arith, s.numbers.n_is, long_le s.m s.numbers.width_is)

pub question_long_le : (f : Form) (c : ℕ) → question_long f (width c) ≤ 75
unfolding question_long row_words symbol_words
question_long_le f c =
    let m : ℕ = width c in
    omega (arith, count_le f (row_long m), count_le symbols (long m), row_long_le m (width_fine c), long_le m (width_fine c))

-- so that a place past one fits
pub at_most : {a b k : ℕ} → a ≡ b → b ≤ k → a ≤ k
at_most e h = rw e h

pub next_in : {i n : ℕ} → i < n → i + 1 ≤ n
next_in h = omega arith

pub few_fits : {n : ℕ} → n ≤ 75 → Fits w64 (1 + n)
few_fits h = record { fits = omega arith }

pub past_fits : (at l : ℕ) {n : ℕ} → at < l / 4 → n ≤ 75 → l * 1 < 2 ^ 63 → Fits w64 (at + (1 + n))
past_fits at l h n s = record { fits = omega arith }
