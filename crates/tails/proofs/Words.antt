-- A word for each tuple of cosets: it is 0 before its tail, and the tail of each layer has the bits of the coset's number.
-- Assumes nothing.
use Rattle.basics.proofs.Kit.{◌≡◌, refl, sym, ap, ap₂, ◌∙◌, true, List, [], ◌∷◌, ◌++◌, ℕ, zero, suc, ◌+◌, ◌*◌, ◌/◌, ◌%◌, ◌^◌, ◌<◌, arith, length}
use native.Mathlib.Nat.{mod-lt, zero-lt-suc, mod-one, zero-div, zero-mul, one-mul, not-suc-le-zero, le_of_suc-le-suc, pow-succ', div-one, mod-eq_of_lt}
use lib.Bits as B
use lib.ListN.{replicate, length-append, length-replicate}
use lib.Pow as P
use lib.Pow.{pow_pos}
use Rattle.field.specs.Field.{xor}
use Rattle.field.proofs.Xor as X
use Rattle.code.specs.Code.{long, syndrome_long, accepted}
use Rattle.code.proofs.Words.{Below}
use Rattle.split.specs.Split.{layer}
use Rattle.tails.specs.Tails.{pick, added, tail_columns, heads, columns}
use Rattle.tails.proofs.Picked.{halves}
use Rattle.tails.proofs.Codewords.{columns_long}

-- the symbol with bit k of the numbers of so many layers
symbol : (left : ℕ) → (tuple : ℕ → ℕ) → (k : ℕ) → ℕ
symbol zero t k = 0
symbol (suc l) t k = t 0 / 2 ^ k % 2 + 2 * symbol l (λ j. t (suc j)) k

symbol_lt : (l : ℕ) (t : ℕ → ℕ) (k : ℕ) → symbol l t k < 2 ^ l
unfolding symbol
symbol_lt zero t k = zero-lt-suc 0
symbol_lt (suc l) t k = omega (arith, symbol_lt l (λ j. t (suc j)) k, pow-succ' 2 l, mod-lt (t 0 / 2 ^ k) (zero-lt-suc 1))

symbol_bit : (l : ℕ) (t : ℕ → ℕ) (k j : ℕ) → j < l → symbol l t k / 2 ^ j % 2 ≡ t j / 2 ^ k % 2
unfolding symbol
symbol_bit zero t k j h = absurd (not-suc-le-zero h)
symbol_bit (suc l) t k zero h =
    let x : ℕ = t 0 / 2 ^ k % 2 in
    let e : (x + 2 * symbol l (λ j. t (suc j)) k) % 2 ≡ x = omega (arith, mod-lt (t 0 / 2 ^ k) (zero-lt-suc 1)) in
    ap (λ (y : ℕ). y % 2) (div-one (x + 2 * symbol l (λ j. t (suc j)) k)) ∙ e
symbol_bit (suc l) t k (suc j) h =
    let x : ℕ = t 0 / 2 ^ k % 2 in
    let s : ℕ = symbol l (λ j. t (suc j)) k in
    let e : (x + 2 * s) / 2 ≡ s = omega (arith, mod-lt (t 0 / 2 ^ k) (zero-lt-suc 1)) in
    ap (λ (y : ℕ). y % 2) (sym (halves (x + 2 * s) j)) ∙ ap (λ (y : ℕ). y / 2 ^ j % 2) e ∙ symbol_bit l (λ j. t (suc j)) k j (le_of_suc-le-suc h)

-- the last q symbols
tail : (q m : ℕ) → (tuple : ℕ → ℕ) → List ℕ
tail zero m t = []
tail (suc q) m t = symbol m t q ∷ tail q m t

tail_long : (q m : ℕ) (t : ℕ → ℕ) → length (tail q m t) ≡ q
unfolding tail
tail_long zero m t = refl
tail_long (suc q) m t = ap suc (tail_long q m t)

columns_count : (q : ℕ) → length (tail_columns q) ≡ q
unfolding tail_columns
columns_count zero = refl
columns_count (suc q) = ap suc (columns_count q)

tail_below : (q m : ℕ) (t : ℕ → ℕ) → Below (2 ^ m) (tail q m t)
unfolding tail
tail_below zero m t = tt
tail_below (suc q) m t = (symbol_lt m t q, tail_below q m t)

one_more : (b q x : ℕ) → b < 2 → x < 2 ^ q → xor (pick b 0 (2 ^ q)) x ≡ b * 2 ^ q + x
unfolding xor
one_more zero q x h l = omega (arith, zero-mul (2 ^ q))
one_more (suc zero) q x h l = ap (λ (y : ℕ). xor y x) (sym (one-mul (2 ^ q))) ∙ B.xor_shifted 1 q x l
one_more (suc (suc b)) q x h l = absurd (omega arith)

tail_number : (q m : ℕ) (t : ℕ → ℕ) (j : ℕ) → j < m → added (tail_columns q) (layer j (tail q m t)) ≡ t j % 2 ^ q
unfolding tail tail_columns added layer
tail_number zero m t j h = sym (mod-one (t j))
tail_number (suc q) m t j h =
    let s : 1 + q ≡ suc q = omega arith in
    ap₂ (λ (x y : ℕ). xor (pick x 0 (2 ^ q)) y) (symbol_bit m t q j h) (tail_number q m t j h)
    ∙ one_more (t j / 2 ^ q % 2) q (t j % 2 ^ q) (mod-lt (t j / 2 ^ q) (zero-lt-suc 1)) (mod-lt (t j) (pow_pos q))
    ∙ sym (P.mod-pow-add (t j) 1 q) ∙ ap (λ (x : ℕ). t j % 2 ^ x) s

-- zeros before it
front : (hs gs ds : List ℕ) (j : ℕ) → added (hs ++ gs) (layer j (replicate (length hs) 0 ++ ds)) ≡ added gs (layer j ds)
unfolding added layer
front [] gs ds j = refl
front (h ∷ hs) gs ds j =
    ap₂ (λ (x y : ℕ). xor (pick (x % 2) 0 h) y) (zero-div (2 ^ j)) (front hs gs ds j) ∙ X.zero_l (added gs (layer j ds))

zeros_below : (n z : ℕ) (ds : List ℕ) → 0 < n → Below n ds → Below n (replicate z 0 ++ ds)
zeros_below n zero ds h p = p
zeros_below n (suc z) ds h p = (h, zeros_below n z ds h p)

module _ (m r : ℕ) (a : accepted m r ≡ true) (t : ℕ → ℕ) where
  abbrev q : ℕ
  q = syndrome_long m r

  pub word : List ℕ
  word = replicate (length (heads m q)) 0 ++ tail q m t

  pub word_long : length word ≡ long m
  unfolding word columns
  word_long =
      length-append (replicate (length (heads m q)) 0) (tail q m t)
      ∙ ap₂ (λ (x y : ℕ). x + y) (length-replicate (length (heads m q)) 0) (tail_long q m t ∙ sym (columns_count q))
      ∙ sym (length-append (heads m q) (tail_columns q)) ∙ columns_long m r a

  pub word_below : Below (2 ^ m) word
  unfolding word
  word_below = zeros_below (2 ^ m) (length (heads m q)) (tail q m t) (pow_pos m) (tail_below q m t)

  pub word_number : (j : ℕ) → j < m → t j < 2 ^ q → added (columns m r) (layer j word) ≡ t j
  unfolding word columns
  word_number j h l = front (heads m q) (tail_columns q) (tail q m t) j ∙ tail_number q m t j h ∙ mod-eq_of_lt l
