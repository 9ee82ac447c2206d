-- Words of layers as numbers: the bits of such a number, and its digits to base 16, which weigh what the word's do.
-- Assumes nothing.
use Rattle.basics.proofs.Kit.{◌≡◌, refl, sym, ap, ap₂, ◌∙◌, List, [], ◌∷◌, ◌++◌, ℕ, zero, suc, ◌+◌, ◌-◌, ◌*◌, ◌/◌, ◌%◌, ◌^◌, ◌≤◌, ◌<◌, arith, length, take, set}
use mathlib.Core.List.{append_assoc, append-nil}
use lib.ListN.{length-set}
use lib.Seq.{take-suc-set, take_all}
use native.Mathlib.Numerals.{add-one}
use native.Mathlib.Nat.{div-one, mul-add-div_right, div-eq_of_lt, pow-succ', one-le-pow, mul_assoc, zero-div}
use Rattle.order.specs.Number.{number}
use Rattle.code.proofs.Words.{Below}
use Rattle.bridge.proofs.Layering.{next}
use Rattle.trellis.specs.Rows.{symbol, merge, weave}
use Rattle.lanes.specs.Lanes.{lane}
use Rattle.ties.specs.Ties.{spaced}
use Rattle.search.specs.Within.{leading}

-- the number of so many bits
pub number_lt : (bs : List ℕ) → Below 2 bs → number 2 bs < 2 ^ length bs
unfolding number
number_lt [] h = omega arith
number_lt (zero ∷ bs) h = omega (arith, number_lt bs h.1, pow-succ' 2 (length bs))
number_lt (suc zero ∷ bs) h = omega (arith, number_lt bs h.1, pow-succ' 2 (length bs))
number_lt (suc (suc b) ∷ bs) h = absurd (omega (arith, h.0))

-- a bit above does not matter below
twice : (c k : ℕ) → c * 2 ^ suc k ≡ 2 * (c * 2 ^ k)
twice c k = ap (λ (x : ℕ). c * x) (pow-succ' 2 k) ∙ omega (arith, mul_assoc c 2 (2 ^ k), mul_assoc 2 c (2 ^ k))

under : (e k c v : ℕ) → e < k → (c * 2 ^ k + v) / 2 ^ e % 2 ≡ v / 2 ^ e % 2
under e zero c v h = absurd (omega arith)
under zero (suc k) c v h = rw (div-one (c * 2 ^ suc k + v), div-one v) (omega (arith, twice c k))
under (suc e) (suc k) c v h =
    let d : (c * 2 ^ suc k + v) / 2 ≡ c * 2 ^ k + v / 2 = omega (arith, twice c k) in
    next (c * 2 ^ suc k + v) e ∙ ap (λ (x : ℕ). x / 2 ^ e % 2) d ∙ under e k c (v / 2) (omega arith) ∙ sym (next v e)

leading_low : (k n c v : ℕ) → k ≤ n → leading k (c * 2 ^ n + v) ≡ leading k v
unfolding leading
leading_low zero n c v h = refl
leading_low (suc k) n c v h = ap₂ (λ (x : ℕ) (xs : List ℕ). x ∷ xs) (under k n c v h) (leading_low k n c v (omega arith))

pub leading_number : (bs : List ℕ) → Below 2 bs → leading (length bs) (number 2 bs) ≡ bs
unfolding leading number
leading_number [] h = refl
leading_number (b ∷ bs) h =
    let k : ℕ = length bs in
    let v : ℕ = number 2 bs in
    let t : (b * 2 ^ k + v) / 2 ^ k ≡ b + v / 2 ^ k = mul-add-div_right (one-le-pow k 2 (omega arith)) b v in
    let z : v / 2 ^ k ≡ 0 = div-eq_of_lt (number_lt bs h.1) in
    let e : (b * 2 ^ k + v) / 2 ^ k % 2 ≡ b = omega (arith, t, z, h.0) in
    ap₂ (λ (x : ℕ) (xs : List ℕ). x ∷ xs) e (leading_low k k b v (omega arith) ∙ leading_number bs h.1)

-- digits to base 16
spaced_zero : (n : ℕ) → spaced n 0 ≡ 0
unfolding spaced
spaced_zero zero = refl
spaced_zero (suc n) = rw (zero-div 2, spaced_zero n) refl

spaced_top : (n k c v : ℕ) → k < n → c < 2 → v < 2 ^ k → spaced n (c * 2 ^ k + v) ≡ c * 16 ^ k + spaced n v
unfolding spaced
spaced_top zero k c v l lc lv = absurd (omega arith)
spaced_top (suc n) zero c v l lc lv =
    let z : v ≡ 0 = omega arith in
    let e : (c * 1 + 0) / 2 ≡ 0 = omega arith in
    let m : (c * 1 + 0) % 2 ≡ c = omega arith in
    rw (z, e, m, spaced_zero n) (omega (arith, spaced_zero n))
spaced_top (suc n) (suc k) c v l lc lv =
    let d : (c * 2 ^ suc k + v) / 2 ≡ c * 2 ^ k + v / 2 = omega (arith, twice c k) in
    let m : (c * 2 ^ suc k + v) % 2 ≡ v % 2 = omega (arith, twice c k) in
    let p : c * 16 ^ suc k ≡ 16 * (c * 16 ^ k) = ap (λ (x : ℕ). c * x) (pow-succ' 16 k) ∙ omega (arith, mul_assoc c 16 (16 ^ k), mul_assoc 16 c (16 ^ k)) in
    rw (d, m) (omega (arith, spaced_top n k c (v / 2) (omega arith) lc (omega (arith, pow-succ' 2 k)), p))

pub spaced_number : (n : ℕ) (bs : List ℕ) → length bs ≤ n → Below 2 bs → spaced n (number 2 bs) ≡ number 16 bs
unfolding number
spaced_number n [] l h = spaced_zero n
spaced_number n (b ∷ bs) l h = spaced_top n (length bs) b (number 2 bs) l h.0 (number_lt bs h.1) ∙ ap (λ (x : ℕ). b * 16 ^ length bs + x) (spaced_number n bs (omega arith) h.1)

-- THE WORD OF FOUR NUMBERS, written symbol by symbol: the first i of n positions, and what is left
pub record Writing (n : ℕ) (words : List ℕ) (word : List ℕ) (i : ℕ) : Type 0 where
  pub long : length word ≡ n
  pub so_far : take i word ++ weave (λ j. leading (n - i) (lane words j)) ≡ weave (λ j. leading n (lane words j))

pub writing_start : (words word : List ℕ) → Writing (length word) words word 0
writing_start words word = record {
  long = refl;
  so_far = let e : length word - 0 ≡ length word = omega arith in ap (λ (k : ℕ). weave (λ j. leading k (lane words j))) e;
}

-- one symbol more, with k left after it
more : (words word : List ℕ) {whole : List ℕ} (k i x : ℕ) → i < length word → x ≡ symbol (λ j. lane words j / 2 ^ k % 2) → take i word ++ weave (λ j. leading (suc k) (lane words j)) ≡ whole →
    take (suc i) (set word i x) ++ weave (λ j. leading k (lane words j)) ≡ whole
unfolding weave merge leading
more words word k i x l e w =
    rw (take-suc-set word i x l)
    (append_assoc (take i word) (x ∷ []) (weave (λ j. leading k (lane words j)))
    ∙ ap (λ (a : ℕ). take i word ++ a ∷ weave (λ j. leading k (lane words j))) (e ∙ nested (lane words 0 / 2 ^ k % 2) (lane words 1 / 2 ^ k % 2) (lane words 2 / 2 ^ k % 2) (lane words 3 / 2 ^ k % 2))
    ∙ w)
  where
    nested : (a b c d : ℕ) → a + 2 * b + 4 * c + 8 * d ≡ a + 2 * (b + 2 * (c + 2 * d))
    nested a b c d = omega arith

pub writing_more : {n : ℕ} {words word : List ℕ} {i x : ℕ} → Writing n words word i → i < n → x ≡ symbol (λ j. lane words j / 2 ^ (n - 1 - i) % 2) → Writing n words (set word i x) (i + 1)
writing_more {n} {words} {word} {i} {x} w h e = record {
  long = length-set word i x ∙ w.long;
  so_far =
      let one : n - i ≡ suc (n - 1 - i) = omega arith in
      let next : n - (i + 1) ≡ n - 1 - i = omega arith in
      rw (next, add-one) (more words word (n - 1 - i) i x (omega (arith, w.long)) e (rw one at w.so_far));
}

pub writing_end : {n : ℕ} {words word : List ℕ} → Writing n words word n → word ≡ weave (λ j. leading n (lane words j))
unfolding weave merge leading
writing_end {n} {words} {word} w =
    let z : n - n ≡ 0 = omega arith in
    sym (append-nil word) ∙ sym (ap (λ (a : List ℕ). a ++ []) (take_all n word (omega (arith, w.long)))) ∙ (rw z at w.so_far)
