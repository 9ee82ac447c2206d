-- Reliabilities and symbols as numbers, one digit a turn; words stored as bytes.
-- Assumes nothing.
use Rattle.basics.proofs.Kit.{◌≡◌, refl, sym, ap, ap₂, ◌∙◌, true, List, [], ◌∷◌, ◌++◌, ℕ, suc, ◌+◌, ◌-◌, ◌*◌, ◌/◌, ◌%◌, ◌^◌, ◌≤◌, ◌<◌, arith, length, get_or, take, drop, set, ℤ, pos, negsuc, nat_abs, ◌+ℤ◌}
use mathlib.Core.List.{append_assoc, append-nil}
use native.Mathlib.Nat.{lt_of_lt_of_le, pow-le-pow_right, mod-eq_of_lt, add-mod_right}
use native.Mathlib.Numerals.{add-one}
use borrow.Author.Tests.{leb-true, le-ltb}
use lib.Dec.{T}
use lib.ListN.{length-take, length-drop, length-append, take-append-drop, drop_of_length-le, get_or-map}
use lib.Seq.{drop-cons, sets-eq, get_or-take, take_at, drop_at, drop-drop, length-take-le}
use lib.Signed.{non_neg}
use mir.Syntax.{w16, w32}
use mir.Val.{SFits, Fits, to_z, of_z}
use mir.Facts.{to_z_pos, to_z-of_z}
use Rattle.code.proofs.Words.{Below}
use Rattle.metric.specs.Row.{reliability_good}
use Rattle.sheet.specs.declared.form.Form.{Form}
use Rattle.sheet.specs.Sheet.{digits, packed, unsigned_of, row_items, as_bytes}
use Rattle.sheet.proofs.Digits.{digits_length, packed_lt}
use Rattle.sheet.proofs.Items.{below_parts}
use Rattle.sheet.proofs.Bytes.{bytes_length}
use Rattle.sheet_writer.specs.Within.{begun, begun_at}

-- two's complement, as the code computes it: the base is added and taken off again
module _ (b : ℕ) (small : b < 2 ^ 15) where
  raised : ℤ → ℕ
  raised (pos n) = n + b
  raised (negsuc n) = b - 1 - n

  raised_is : (r : ℤ) → reliability_good (b / 2 - 1) r ≡ true → 0 < b → (r +ℤ pos b ≡ pos (raised r)) × (raised r % b ≡ unsigned_of b r) × (raised r < 2 ^ 16)
  unfolding unsigned_of reliability_good raised
  raised_is (pos n) g some = let h : n ≤ b / 2 - 1 = leb-true n (b / 2 - 1) g in (refl, add-mod_right n b ∙ mod-eq_of_lt (omega arith), omega arith)
  raised_is (negsuc n) g some =
      let h : suc n ≤ b / 2 - 1 = leb-true (suc n) (b / 2 - 1) g in
      (rw (le-ltb b (suc n) (omega arith)) (ap pos (omega arith)), mod-eq_of_lt (omega arith), omega arith)

  module _ (some : 0 < b) (r : ℤ) (f : SFits w16 r) (g : reliability_good (b / 2 - 1) r ≡ true) where
    pub wide_fits : SFits w32 (to_z w16 (of_z w16 r))
    wide_fits = rw (to_z-of_z f) (record { sfits = omega (arith, f.sfits) })

    abbrev sum : ℤ
    sum = to_z w32 (of_z w32 (to_z w16 (of_z w16 r))) +ℤ to_z w32 b

    sum_is : sum ≡ pos (raised r)
    sum_is = rw (to_z-of_z wide_fits, to_z-of_z f, to_z_pos w32 {n = b} (omega arith)) (raised_is r g some).0

    pub sum_fits : SFits w32 sum
    sum_fits = rw sum_is (record { sfits = omega (arith, (raised_is r g some).2) })

    pub sum_cast : T (non_neg (to_z w32 (of_z w32 sum))) × Fits w32 (nat_abs (to_z w32 (of_z w32 sum)))
    sum_cast = rw (to_z-of_z sum_fits, sum_is) (tt, record { fits = omega (arith, (raised_is r g some).2) })

    pub sum_value : nat_abs (to_z w32 (of_z w32 sum)) % b ≡ unsigned_of b r
    sum_value = rw (to_z-of_z sum_fits, sum_is) (raised_is r g some).1

-- one digit more
pub packed_end : (b : ℕ) (ds : List ℕ) (i : ℕ) → length ds ≤ i → packed b (drop i ds) ≡ 0
unfolding packed
packed_end b ds i h = rw (drop_of_length-le ds h)

pub digit_turn : (b k : ℕ) (ds : List ℕ) (i : ℕ) → 0 < i → i ≤ length (take k ds) →
    packed b (drop (i - 1) (take k ds)) ≡ get_or ds (i - 1) 0 + b * packed b (drop i (take k ds))
unfolding packed
digit_turn b k ds i some h =
    let e : suc (i - 1) ≡ i = omega arith in
    ap (packed b) (drop-cons (take k ds) (i - 1) 0 (omega arith))
    ∙ ap₂ (λ (x y : ℕ). x + b * packed b (drop y (take k ds))) (get_or-take k ds (i - 1) 0 (omega (arith, length-take k ds))) e

pub digit_bound : (b k : ℕ) (ds : List ℕ) (i : ℕ) → 0 < b → Below b ds → packed b (drop i (take k ds)) < b ^ k
digit_bound b k ds i some g =
    lt_of_lt_of_le (packed_lt b (drop i (take k ds)) (below_parts b i (take k ds) (below_parts b k ds g).0).1)
    (pow-le-pow_right some (omega (arith, length-drop i (take k ds), length-take k ds)))

-- a row's items
pub row_items_at : (f : Form) (rs : List ℤ) (i : ℕ) → get_or (row_items f rs) i 0 ≡ unsigned_of f.base (get_or rs i (pos 0))
unfolding row_items unsigned_of
row_items_at f rs i = get_or-map (unsigned_of f.base) rs i (pos 0)

-- four stores are a word
pub four_stores : (l : List ℕ) (n w : ℕ) → n + 4 ≤ length l →
    set (set (set (set l n (w % 256)) (n + 1) (w / 256 % 256)) (n + 2) (w / 256 / 256 % 256)) (n + 3) (w / 256 / 256 / 256 % 256)
    ≡ take n l ++ (digits 256 4 w ++ drop (n + 4) l)
unfolding digits
four_stores l n w h =
    let two : n + 2 ≡ suc (suc n) = omega arith in
    let three : n + 3 ≡ suc (suc (suc n)) = omega arith in
    let vs : List ℕ = (w % 256) ∷ (w / 256 % 256) ∷ (w / 256 / 256 % 256) ∷ (w / 256 / 256 / 256 % 256) ∷ [] in
    rw (add-one n, two, three) (sets-eq vs l n h ∙ append_assoc (take n l) vs (drop (n + 4) l))

-- an output whose first words were written
as_bytes_append : (a b : List ℕ) → as_bytes (a ++ b) ≡ as_bytes a ++ as_bytes b
unfolding as_bytes
as_bytes_append [] b = refl
as_bytes_append (w ∷ ws) b = ap (λ (x : List ℕ). digits 256 4 w ++ x) (as_bytes_append ws b) ∙ sym (append_assoc (digits 256 4 w) (as_bytes ws) (as_bytes b))

pub begun_none : (o : List ℕ) → begun [] o ≡ o
unfolding begun as_bytes
begun_none o = refl

pub begun_length : (ws o : List ℕ) → 4 * length ws ≤ length o → length (begun ws o) ≡ length o
unfolding begun
begun_length ws o h = omega (arith, length-append (as_bytes ws) (drop (4 * length ws) o), bytes_length ws, length-drop (4 * length ws) o)

begun_take : (ws o : List ℕ) → take (4 * length ws) (begun ws o) ≡ as_bytes ws
unfolding begun
begun_take ws o = take_at (as_bytes ws) (drop (4 * length ws) o) (4 * length ws) (bytes_length ws)

begun_drop : (ws o : List ℕ) → drop (4 * length ws) (begun ws o) ≡ drop (4 * length ws) o
unfolding begun
begun_drop ws o = drop_at (as_bytes ws) (drop (4 * length ws) o) (4 * length ws) (bytes_length ws)

-- more words after them
pub begun_join : (a b o : List ℕ) → take (4 * length a) (begun a o) ++ begun b (drop (4 * length a) (begun a o)) ≡ begun (a ++ b) o
unfolding begun
begun_join a b o =
    let e : 4 * length a + 4 * length b ≡ 4 * length (a ++ b) = omega (arith, length-append a b) in
    ap₂ (λ (x y : List ℕ). x ++ (as_bytes b ++ drop (4 * length b) y)) (begun_take a o) (begun_drop a o)
    ∙ ap (λ (x : List ℕ). as_bytes a ++ (as_bytes b ++ x)) (drop-drop (4 * length b) (4 * length a) o ∙ ap (λ (x : ℕ). drop x o) e)
    ∙ sym (append_assoc (as_bytes a) (as_bytes b) (drop (4 * length (a ++ b)) o))
    ∙ ap (λ (x : List ℕ). x ++ drop (4 * length (a ++ b)) o) (sym (as_bytes_append a b))

pub begun_one : (w : ℕ) (l : List ℕ) → digits 256 4 w ++ drop 4 l ≡ begun (w ∷ []) l
unfolding begun as_bytes
begun_one w l = ap (λ (x : List ℕ). x ++ drop 4 l) (sym (append-nil (digits 256 4 w)))

pub begun_word : (ws o : List ℕ) (w : ℕ) →
    take (4 * length ws) (begun ws o) ++ (digits 256 4 w ++ drop (4 * length ws + 4) (begun ws o)) ≡ begun (ws ++ w ∷ []) o
begun_word ws o w =
    ap (λ (x : List ℕ). take (4 * length ws) (begun ws o) ++ (digits 256 4 w ++ x)) (sym (drop-drop 4 (4 * length ws) (begun ws o)))
    ∙ ap (λ (x : List ℕ). take (4 * length ws) (begun ws o) ++ x) (begun_one w (drop (4 * length ws) (begun ws o)))
    ∙ begun_join ws (w ∷ []) o

pub begun_all : (ws o : List ℕ) → length o ≡ 4 * length ws → begun ws o ≡ as_bytes ws
unfolding begun
begun_all ws o h = rw (drop_of_length-le o {i = 4 * length ws} (omega arith), append-nil)

-- words from a place on: none, and one more
pub begun_at_none : (n : ℕ) (o : List ℕ) → begun_at n [] o ≡ o
unfolding begun_at
begun_at_none n o = rw (begun_none (drop n o)) (take-append-drop n o)

pub begun_at_more : (n w : ℕ) (ws o : List ℕ) → n + 4 ≤ length o → begun_at n (w ∷ ws) o ≡ begun_at (n + 4) ws (take n o ++ (digits 256 4 w ++ drop (n + 4) o))
unfolding begun_at begun as_bytes
begun_at_more n w ws o h =
    let d : List ℕ = digits 256 4 w in
    let l : length (take n o ++ d) ≡ n + 4 = omega (arith, length-append (take n o) d, length-take-le n o (omega arith), digits_length 256 4 w) in
    let e : n + 4 * suc (length ws) ≡ n + 4 + 4 * length ws = omega arith in
    rw (drop-drop (4 * suc (length ws)) n o, e, ← drop-drop (4 * length ws) (n + 4) o, append_assoc d (as_bytes ws) (drop (4 * length ws) (drop (n + 4) o)))
    (sym (rw (← append_assoc (take n o) d (drop (n + 4) o), take_at (take n o ++ d) (drop (n + 4) o) (n + 4) l, drop_at (take n o ++ d) (drop (n + 4) o) (n + 4) l) (append_assoc (take n o) d _)))
