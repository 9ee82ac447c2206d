-- The value of a word from those of its layers, and of a binary word at a square. By Horner's form.
-- Assumes nothing.
use Rattle.basics.proofs.Kit.{◌≡◌, refl, sym, ap, ap₂, ◌∙◌, Bool, true, ◌&&◌, List, [], ◌∷◌, ℕ, zero, suc, ◌+◌, ◌*◌, ◌/◌, ◌%◌, ◌^◌, ◌≤◌, ◌<◌, arith, length, get_or, ltb}
use mathlib.Core.Path.{fun_ext}
use native.Mathlib.Nat.{mod-lt, zero-lt-suc, not-suc-le-zero, le_of_suc-le-suc, zero-mul, suc-mul, div-one, pow-succ', div-div-eq-div-mul}
use lib.Dec.{T, lit≤, ltb→lt, lt→ltb}
use lib.Pow.{pow_pos}
use lib.ListN.{get_or-append}
use lib.Seq.{get_or-append-add}
use Rattle.field.specs.Field.{xor, times, alpha, width_good, square}
use Rattle.code.specs.Code.{long, value_at}
use Rattle.code.specs.Bits.{bits_of, all_bits, bit_at}
use Rattle.split.specs.Split.{layer, all_below, Binary}
use Rattle.split.specs.Split as S
use Rattle.split.specs.Promise.{LayerBits}
use Rattle.field.proofs.Tests.{widths, and_l, and_r, to_T, from_T}
use Rattle.field.proofs.Xor as X
use Rattle.field.proofs.Field as F
use Rattle.field.proofs.Field.{sum, field, times_lt}
use Rattle.code.proofs.Words.{Below, widen, horner, horner_lt, value_horner}

-- binary words
pub below : (n : ℕ) (xs : List ℕ) → T (all_below n xs) → Below n xs
unfolding all_below
below n [] t = tt
below n (x ∷ xs) t = (ltb→lt x n (and_l (ltb x n) (all_below n xs) t), below n xs (and_r (ltb x n) (all_below n xs) t))

pub all_of : (n : ℕ) (xs : List ℕ) → Below n xs → all_below n xs ≡ true
unfolding all_below
all_of n [] b = refl
all_of n (x ∷ xs) b = ap₂ (λ (y z : Bool). y && z) (from_T (ltb x n) (lt→ltb x n b.0)) (all_of n xs b.1)

pub bits : (m : ℕ) (bs : List ℕ) → Binary m bs → Below 2 bs
bits m bs b = below 2 bs (to_T b.bits)

pub layer_below : (j : ℕ) (ws : List ℕ) → Below 2 (layer j ws)
unfolding layer
layer_below j [] = tt
layer_below j (c ∷ cs) = (mod-lt (c / 2 ^ j) (zero-lt-suc 1), layer_below j cs)

pub layer_length : (j : ℕ) (ws : List ℕ) → length (layer j ws) ≡ length ws
unfolding layer
layer_length j [] = refl
layer_length j (c ∷ cs) = ap suc (layer_length j cs)

pub layer_at : (j : ℕ) (ws : List ℕ) (i : ℕ) → i < length ws → get_or (layer j ws) i 0 ≡ get_or ws i 0 / 2 ^ j % 2
unfolding layer
layer_at j [] i h = absurd (not-suc-le-zero h)
layer_at j (c ∷ cs) zero h = refl
layer_at j (c ∷ cs) (suc i) h = layer_at j cs i (le_of_suc-le-suc h)

pub layer_binary : (m j : ℕ) (ws : List ℕ) → length ws ≡ long m → Binary m (layer j ws)
layer_binary m j ws n = record { count = layer_length j ws ∙ n; bits = all_of 2 (layer j ws) (layer_below j ws) }

pub sum_length : (bs ds : List ℕ) → length bs ≡ length ds → length (S.sum bs ds) ≡ length ds
unfolding S.sum
sum_length [] ds e = e
sum_length (b ∷ bs) [] e = refl
sum_length (b ∷ bs) (d ∷ ds) e = ap suc (sum_length bs ds (omega arith))

pub sum_below : (bs ds : List ℕ) → Below 2 bs → Below 2 ds → Below 2 (S.sum bs ds)
unfolding S.sum
sum_below [] ds b e = tt
sum_below (b ∷ bs) [] p q = tt
sum_below (b ∷ bs) (d ∷ ds) p q = (X.below 1 b d p.0 q.0, sum_below bs ds p.1 q.1)

pub sum_binary : (m : ℕ) (bs ds : List ℕ) → Binary m bs → Binary m ds → Binary m (S.sum bs ds)
sum_binary m bs ds p q = record {
  count = sum_length bs ds (p.count ∙ sym q.count) ∙ q.count;
  bits = all_of 2 (S.sum bs ds) (sum_below bs ds (bits m bs p) (bits m ds q));
}

pub width_small : (m : ℕ) → width_good m ≡ true → m ≤ 4
width_small = widths (λ (m : ℕ). m ≤ 4) (lit≤ tt) (lit≤ tt)

-- BITS: those of a symbol are the layers' at its position
pub at_bits : (k j x : ℕ) → j < k → get_or (bits_of k x) j 0 ≡ x / 2 ^ j % 2
unfolding bits_of
at_bits zero j x h = absurd (not-suc-le-zero h)
at_bits (suc k) zero x h = sym (ap (λ (y : ℕ). y % 2) (div-one x))
at_bits (suc k) (suc j) x h =
    at_bits k j (x / 2) (le_of_suc-le-suc h) ∙ sym (ap (λ (y : ℕ). y % 2) (ap (λ (y : ℕ). x / y) (pow-succ' 2 j) ∙ sym (div-div-eq-div-mul x 2 (2 ^ j))))

pub bits_length : (n k : ℕ) → length (bits_of n k) ≡ n
unfolding bits_of
bits_length zero k = refl
bits_length (suc n) k = ap suc (bits_length n (k / 2))

pub layer_bits : LayerBits
unfolding LayerBits bit_at all_bits layer
layer_bits m j i [] h = refl
layer_bits m j zero (c ∷ cs) h =
    let e : 0 * m + j ≡ j = omega (arith, zero-mul m) in
    let l : j < length (bits_of m c) = rw (bits_length m c) h in
    rw (e, get_or-append (bits_of m c) (all_bits m cs) 0 j l) (at_bits m j c h)
layer_bits m j (suc i) (c ∷ cs) h =
    let e : suc i * m + j ≡ length (bits_of m c) + (i * m + j) = omega (arith, suc-mul i m, bits_length m c) in
    rw (e, get_or-append-add (bits_of m c) (all_bits m cs) (i * m + j) 0) (layer_bits m j i cs h)

-- sums over layers
sum_add : (k j : ℕ) (f g : ℕ → ℕ) → xor (sum k j f) (sum k j g) ≡ sum k j (λ i. xor (f i) (g i))
unfolding sum
sum_add zero j f g = X.self 0
sum_add (suc k) j f g = X.cross (f j) (sum k (suc j) f) (g j) (sum k (suc j) g) ∙ ap (xor (xor (f j) (g j))) (sum_add k (suc j) f g)

pub sum_same : (k j : ℕ) {f g : ℕ → ℕ} → ((i : ℕ) → f i ≡ g i) → sum k j f ≡ sum k j g
sum_same k j h = ap (sum k j) (fun_ext h)

sum_lt : (m k j : ℕ) (f : ℕ → ℕ) → ((i : ℕ) → f i < 2 ^ m) → sum k j f < 2 ^ m
unfolding sum
sum_lt m zero j f h = pow_pos m
sum_lt m (suc k) j f h = X.below m (f j) (sum k (suc j) f) (h j) (sum_lt m k (suc j) f h)

module _ (m : ℕ) (w : width_good m ≡ true) where
  sum_times : (x k j : ℕ) (f : ℕ → ℕ) → x < 2 ^ m → ((i : ℕ) → f i < 2 ^ m) → times m x (sum k j f) ≡ sum k j (λ i. times m x (f i))
  unfolding sum
  sum_times x zero j f hx h = F.times_zero_r m w x hx
  sum_times x (suc k) j f hx h =
      F.times_add_r m w x (f j) (sum k (suc j) f) hx (h j) (sum_lt m k (suc j) f h) ∙ ap (xor (times m x (f j))) (sum_times x k (suc j) f hx h)

  pub bit : {c : ℕ} → c < 2 → c < 2 ^ m
  bit h = omega (arith, F.two_lt m w)

  pub symbols : (bs : List ℕ) → Below 2 bs → Below (2 ^ m) bs
  symbols bs b = widen (omega (arith, F.two_lt m w)) bs b

  bits_lt : (x : ℕ) (bs : List ℕ) → x < 2 ^ m → Below 2 bs → horner m x bs < 2 ^ m
  bits_lt x bs hx b = horner_lt m w x bs hx (symbols bs b)

  horner_split : (x : ℕ) (ws : List ℕ) → x < 2 ^ m → Below (2 ^ m) ws → horner m x ws ≡ sum m 0 (λ j. times m (alpha m j) (horner m x (layer j ws)))
  unfolding horner layer
  horner_split x [] hx b = F.zero_split m w
  horner_split x (c ∷ cs) hx b =
      ap₂ (λ (a v : ℕ). xor a (times m x v)) (F.symbol_split m w c b.0) (horner_split x cs hx b.1)
      ∙ ap (xor (sum m 0 (λ j. times m (alpha m j) (c / 2 ^ j % 2)))) (sum_times x m 0 (λ j. times m (alpha m j) (horner m x (layer j cs))) hx (λ j. F.times_lt m w (alpha m j) (horner m x (layer j cs)) (F.alpha_lt m w j) (bits_lt x (layer j cs) hx (layer_below j cs))))
      ∙ sum_add m 0 (λ j. times m (alpha m j) (c / 2 ^ j % 2)) (λ j. times m x (times m (alpha m j) (horner m x (layer j cs))))
      ∙ sum_same m 0 (λ j.
      let ha : alpha m j < 2 ^ m = F.alpha_lt m w j in
      let hc : c / 2 ^ j % 2 < 2 ^ m = bit (mod-lt (c / 2 ^ j) (zero-lt-suc 1)) in
      let hv : horner m x (layer j cs) < 2 ^ m = bits_lt x (layer j cs) hx (layer_below j cs) in
      simp (field, times_lt))

  horner_square : (x : ℕ) (bs : List ℕ) → x < 2 ^ m → Below 2 bs → horner m (square m x) bs ≡ square m (horner m x bs)
  unfolding horner
  horner_square x [] hx b = sym (F.square_bit m w 0 (zero-lt-suc 1))
  horner_square x (c ∷ cs) hx b =
      let v : ℕ = horner m x cs in
      let hv : v < 2 ^ m = bits_lt x cs hx b.1 in
      ap (λ (y : ℕ). xor c (times m (square m x) y)) (horner_square x cs hx b.1)
      ∙ sym (F.square_add m w c (times m x v) (bit b.0) (F.times_lt m w x v hx hv) ∙ ap₂ xor (F.square_bit m w c b.0) (F.square_times m w x v hx hv))

  -- a binary word has its value by Horner's rule, below 2^m
  pub at_horner : (t : ℕ) (bs : List ℕ) → Below 2 bs → value_at m t bs ≡ horner m (alpha m t) bs
  at_horner t bs b = value_horner m w t bs (symbols bs b)

  pub at_lt : (t : ℕ) (bs : List ℕ) → Below 2 bs → value_at m t bs < 2 ^ m
  at_lt t bs b = rw (at_horner t bs b) (bits_lt (alpha m t) bs (F.alpha_lt m w t) b)

  -- THE VALUE OF A WORD, from the values of its layers
  pub value_split : (t : ℕ) (ws : List ℕ) → Below (2 ^ m) ws → value_at m t ws ≡ sum m 0 (λ j. times m (alpha m j) (value_at m t (layer j ws)))
  value_split t ws b =
      value_horner m w t ws b ∙ horner_split (alpha m t) ws (F.alpha_lt m w t) b
      ∙ sum_same m 0 (λ j. ap (times m (alpha m j)) (sym (at_horner t (layer j ws) (layer_below j ws))))

  -- AT THE SQUARE, a binary word's value is the square
  pub value_twice : (t : ℕ) (bs : List ℕ) → Below 2 bs → value_at m (t + t) bs ≡ square m (value_at m t bs)
  value_twice t bs b =
      at_horner (t + t) bs b ∙ ap (λ (x : ℕ). horner m x bs) (F.alpha_twice m w t)
      ∙ horner_square (alpha m t) bs (F.alpha_lt m w t) b ∙ ap (square m) (sym (at_horner t bs b))
