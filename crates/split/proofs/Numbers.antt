-- Binary words as numbers, position i weighing 2^i.
-- Assumes nothing.
use Rattle.basics.proofs.Kit.{◌≡◌, refl, sym, ap, ap₂, ◌∙◌, List, [], ◌∷◌, ℕ, zero, suc, ◌+◌, ◌-◌, ◌*◌, ◌/◌, ◌%◌, ◌^◌, ◌≤◌, ◌<◌, arith, length, drop}
use native.Mathlib.Nat.{div-one, pow-suc, pow-succ', div-div-eq-div-mul}
use lib.Bits as B
use lib.Count.{ones, ones_in, ones_step, ones-le}
use Rattle.field.specs.Field.{xor}
use Rattle.field.proofs.Xor as X
use Rattle.code.specs.Code.{long}
use Rattle.code.specs.Bits.{bits_of}
use Rattle.code.proofs.Words.{Below}
use Rattle.split.specs.Split.{Binary, weight, word_number, sum}
use Rattle.split.proofs.Layers as L

pub bits_below : (n k : ℕ) → Below 2 (bits_of n k)
unfolding bits_of
bits_below zero k = tt
bits_below (suc n) k = (omega arith, bits_below n (k / 2))

pub bits_binary : (m k : ℕ) → Binary m (bits_of (long m) k)
bits_binary m k = record { count = L.bits_length (long m) k; bits = L.all_of 2 (bits_of (long m) k) (bits_below (long m) k) }

-- a word from its number, and a number from its word
pub bits_number : (bs : List ℕ) → Below 2 bs → bits_of (length bs) (word_number bs) ≡ bs
unfolding bits_of word_number
bits_number [] p = refl
bits_number (b ∷ bs) p =
    let low : (b + 2 * word_number bs) % 2 ≡ b = omega (arith, p.0) in
    let high : (b + 2 * word_number bs) / 2 ≡ word_number bs = omega (arith, p.0) in
    ap₂ (λ (x : ℕ) (y : ℕ). x ∷ bits_of (length bs) y) low high ∙ ap (λ (x : List ℕ). b ∷ x) (bits_number bs p.1)

pub number_lt : (bs : List ℕ) → Below 2 bs → word_number bs < 2 ^ length bs
unfolding word_number
number_lt [] p = omega arith
number_lt (b ∷ bs) p = omega (arith, p.0, number_lt bs p.1, pow-suc 2 (length bs))

pub half_lt : (n x : ℕ) → x < 2 ^ suc n → x / 2 < 2 ^ n
half_lt n x h = omega (arith, pow-suc 2 n)

pub number_bits : (n x : ℕ) → x < 2 ^ n → word_number (bits_of n x) ≡ x
unfolding bits_of word_number
number_bits zero x h = omega arith
number_bits (suc n) x h = omega (arith, number_bits n (x / 2) (half_lt n x h))

-- the weight of a word is the number of its number's 1 bits
pub weight_ones : (n x : ℕ) → x < 2 ^ n → weight (bits_of n x) ≡ ones x
unfolding bits_of weight ones ones_in
weight_ones zero x h = let e : x ≡ 0 = omega arith in rw e refl
weight_ones (suc n) x h = ap (λ (k : ℕ). x % 2 + k) (weight_ones n (x / 2) (half_lt n x h)) ∙ sym (ones_step x)

-- a number with one 1 bit, or none
pub ones_none : (n x : ℕ) → x < 2 ^ n → ones x ≡ 0 → x ≡ 0
ones_none zero x h e = omega arith
ones_none (suc n) x h e =
    let half : x / 2 ≡ 0 = ones_none n (x / 2) (half_lt n x h) (omega (arith, ones_step x)) in
    omega (arith, ones_step x)

pub ones_one : (n x : ℕ) → x < 2 ^ n → ones x ≡ 1 → (j : ℕ) × (j < n) × (x ≡ 2 ^ j)
ones_one zero x h e = let z : x ≡ 0 = omega arith in absurd (omega (arith, e, ones-le 0 x h))
ones_one (suc n) x h e = go (x % 2) refl (ones_one n (x / 2) (half_lt n x h))
  where
    go : (b : ℕ) → x % 2 ≡ b → (ones (x / 2) ≡ 1 → (j : ℕ) × (j < n) × (x / 2 ≡ 2 ^ j)) → (j : ℕ) × (j < suc n) × (x ≡ 2 ^ j)
    go zero l rest = let t = rest (omega (arith, ones_step x)) in (suc t.0, omega (arith, t.1), omega (arith, t.2, pow-suc 2 t.0))
    go (suc b) l rest = let z : x / 2 ≡ 0 = ones_none n (x / 2) (half_lt n x h) (omega (arith, ones_step x)) in (0, omega arith, omega arith)

-- the word of a sum
pub bits_xor : (n a b : ℕ) → bits_of n (xor a b) ≡ sum (bits_of n a) (bits_of n b)
unfolding bits_of sum xor
bits_xor zero a b = refl
bits_xor (suc n) a b = ap₂ (λ (x : ℕ) (y : List ℕ). x ∷ y) (B.xor_mod a b 1) (ap (bits_of n) (X.half a b) ∙ bits_xor n (a / 2) (b / 2))

-- the last bits of a word
pub drop_bits : (q n x : ℕ) → q ≤ n → drop q (bits_of n x) ≡ bits_of (n - q) (x / 2 ^ q)
unfolding bits_of
drop_bits zero n x h = let e : n - 0 ≡ n = omega arith in rw (e, div-one x) refl
drop_bits (suc q) zero x h = absurd (omega arith)
drop_bits (suc q) (suc n) x h =
    let e : suc n - suc q ≡ n - q = omega arith in
    drop_bits q n (x / 2) (omega arith)
    ∙ ap₂ bits_of (sym e) (div-div-eq-div-mul x 2 (2 ^ q) ∙ ap (λ (y : ℕ). x / y) (sym (pow-succ' 2 q)))

pub sum_cancel : (bs ds : List ℕ) → length bs ≡ length ds → sum bs (sum bs ds) ≡ ds
unfolding sum
sum_cancel [] [] e = refl
sum_cancel [] (d ∷ ds) e = absurd (omega arith)
sum_cancel (b ∷ bs) [] e = absurd (omega arith)
sum_cancel (b ∷ bs) (d ∷ ds) e = ap₂ (λ (x : ℕ) (y : List ℕ). x ∷ y) (X.cancel b d) (sum_cancel bs ds (omega arith))

pub sum_uncancel : (bs ds : List ℕ) → length bs ≡ length ds → sum (sum bs ds) ds ≡ bs
unfolding sum
sum_uncancel [] [] e = refl
sum_uncancel [] (d ∷ ds) e = absurd (omega arith)
sum_uncancel (b ∷ bs) [] e = absurd (omega arith)
sum_uncancel (b ∷ bs) (d ∷ ds) e = ap₂ (λ (x : ℕ) (y : List ℕ). x ∷ y) (X.uncancel b d) (sum_uncancel bs ds (omega arith))

pub drop_sum : (q : ℕ) (bs ds : List ℕ) → length bs ≡ length ds → drop q (sum bs ds) ≡ sum (drop q bs) (drop q ds)
unfolding sum
drop_sum zero bs ds e = refl
drop_sum (suc q) [] [] e = refl
drop_sum (suc q) [] (d ∷ ds) e = absurd (omega arith)
drop_sum (suc q) (b ∷ bs) [] e = absurd (omega arith)
drop_sum (suc q) (b ∷ bs) (d ∷ ds) e = drop_sum q bs ds (omega arith)
