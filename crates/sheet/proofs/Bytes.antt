-- Words as bytes, low byte first, and back.
-- Assumes nothing.
use Rattle.basics.proofs.Kit.{◌≡◌, refl, sym, ap, ap₂, ◌∙◌, true, ◌&&◌, List, [], ◌∷◌, ◌++◌, ℕ, zero, suc, ◌+◌, ◌*◌, ◌/◌, ◌%◌, ◌^◌, ◌≤◌, ◌<◌, arith, length, get_or, take, drop, ltb}
use mathlib.Core.Path.{subst}
use native.Mathlib.Nat.{div-eq_of_lt, not-suc-le-zero, add-zero, mul-suc, add_comm}
use borrow.Author.Tests.{ltb-true, lt-ltb}
use lib.Dec.{lit<}
use lib.ListN.{length-append, length-drop, take-append-drop, get_or-eq_default}
use lib.Seq.{take_at, drop_at, length-take-le, drop-drop, get_or-drop}
use Rattle.code.proofs.Words.{Below}
use Rattle.sheet.specs.Sheet.{digits, packed, as_bytes, words_from, as_words}
use Rattle.sheet.specs.Promise.{all_bytes}
use Rattle.sheet.proofs.Digits.{digits_length, digits_below, digits_packed, packed_digits}
use Rattle.sheet.proofs.Items.{both, below_parts, below_join}

pub bytes_length : (ws : List ℕ) → length (as_bytes ws) ≡ 4 * length ws
unfolding as_bytes
bytes_length [] = refl
bytes_length (w ∷ ws) = omega (arith, length-append (digits 256 4 w) (as_bytes ws), digits_length 256 4 w, bytes_length ws)

words_back : (ws : List ℕ) → Below (2 ^ 32) ws → words_from (length ws) (as_bytes ws) ≡ ws
unfolding as_bytes words_from
words_back [] g = refl
words_back (w ∷ ws) g =
    rw (take_at (digits 256 4 w) (as_bytes ws) 4 (digits_length 256 4 w), drop_at (digits 256 4 w) (as_bytes ws) 4 (digits_length 256 4 w))
    (ap₂ ◌∷◌ (packed_digits 256 4 w (div-eq_of_lt g.0)) (words_back ws g.1))

pub as_words_bytes : (ws : List ℕ) → Below (2 ^ 32) ws → as_words (as_bytes ws) ≡ ws
unfolding as_words
as_words_bytes ws g = ap (λ (x : ℕ). words_from x (as_bytes ws)) (omega (arith, bytes_length ws)) ∙ words_back ws g

all_below : (bs : List ℕ) → all_bytes bs ≡ true → Below 256 bs
unfolding all_bytes
all_below [] g = tt
all_below (b ∷ bs) g = let p = both (ltb b 256) (all_bytes bs) g in (ltb-true b 256 p.0, all_below bs p.1)

-- what was written is bytes
pub bytes : (bs : List ℕ) → Below 256 bs → all_bytes bs ≡ true
unfolding all_bytes
bytes [] g = refl
bytes (b ∷ bs) g = ap₂ ◌&&◌ (lt-ltb b 256 g.0) (bytes bs g.1)

pub as_bytes_below : (ws : List ℕ) → Below 256 (as_bytes ws)
unfolding as_bytes
as_bytes_below [] = tt
as_bytes_below (w ∷ ws) = below_join 256 (digits 256 4 w) (as_bytes ws) (digits_below 256 (lit< tt) 4 w) (as_bytes_below ws)

bytes_back : (n : ℕ) (bs : List ℕ) → length bs ≡ 4 * n → Below 256 bs → as_bytes (words_from n bs) ≡ bs
unfolding as_bytes words_from
bytes_back zero [] l g = refl
bytes_back zero (b ∷ bs) l g = absurd (omega arith)
bytes_back (suc n) bs l g =
    let p = below_parts 256 4 bs g in
    let h : length (take 4 bs) ≡ 4 = length-take-le 4 bs (omega arith) in
    ap₂ ◌++◌ (subst (λ (x : ℕ). digits 256 x (packed 256 (take 4 bs)) ≡ take 4 bs) h (digits_packed 256 (lit< tt) (take 4 bs) p.0))
    (bytes_back n (drop 4 bs) (omega (arith, length-drop 4 bs)) p.1)
    ∙ take-append-drop 4 bs

pub as_bytes_words : (bs : List ℕ) → all_bytes bs ≡ true → length bs % 4 ≡ 0 → as_bytes (as_words bs) ≡ bs
unfolding as_words
as_bytes_words bs g h = bytes_back (length bs / 4) bs (omega arith) (all_below bs g)

-- the word at a place
words_from_length : (n : ℕ) (bs : List ℕ) → length (words_from n bs) ≡ n
unfolding words_from
words_from_length zero bs = refl
words_from_length (suc n) bs = ap suc (words_from_length n (drop 4 bs))

pub as_words_length : (bs : List ℕ) → length (as_words bs) ≡ length bs / 4
unfolding as_words
as_words_length bs = words_from_length (length bs / 4) bs

pub no_word : (bs : List ℕ) (i : ℕ) → length bs / 4 ≤ i → get_or (as_words bs) i 0 ≡ 0
no_word bs i h = get_or-eq_default (as_words bs) 0 (omega (arith, as_words_length bs))

words_from_at : (n : ℕ) (bs : List ℕ) (i : ℕ) → i < n → get_or (words_from n bs) i 0 ≡ packed 256 (take 4 (drop (4 * i) bs))
unfolding words_from
words_from_at zero bs i h = absurd (not-suc-le-zero h)
words_from_at (suc n) bs zero h = refl
words_from_at (suc n) bs (suc i) h =
    words_from_at n (drop 4 bs) i (omega arith)
    ∙ ap (λ (x : List ℕ). packed 256 (take 4 x)) (drop-drop (4 * i) 4 bs ∙ ap (λ (x : ℕ). drop x bs) (sym (mul-suc 4 i ∙ add_comm (4 * i) 4)))

four : (bs : List ℕ) → 4 ≤ length bs → packed 256 (take 4 bs) ≡ get_or bs 0 0 + 256 * (get_or bs 1 0 + 256 * (get_or bs 2 0 + 256 * get_or bs 3 0))
unfolding packed
four [] h = absurd (omega arith)
four (a ∷ []) h = absurd (omega arith)
four (a ∷ b ∷ []) h = absurd (omega arith)
four (a ∷ b ∷ d ∷ []) h = absurd (omega arith)
four (a ∷ b ∷ d ∷ e ∷ bs) h = omega arith

pub word_at : (bs : List ℕ) (i : ℕ) → i < length bs / 4 →
    get_or (as_words bs) i 0 ≡ get_or bs (4 * i) 0 + 256 * (get_or bs (4 * i + 1) 0 + 256 * (get_or bs (4 * i + 2) 0 + 256 * get_or bs (4 * i + 3) 0))
unfolding as_words
word_at bs i h =
    words_from_at (length bs / 4) bs i h ∙ four (drop (4 * i) bs) (omega (arith, length-drop (4 * i) bs))
    ∙ simp (get_or-drop, add-zero)
