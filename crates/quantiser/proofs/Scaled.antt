-- `x * 32.0` of an `f32` is exact, or from 2^128 on an infinity, which is clipped as the exact product is: so 32 times a sample is rounded as
-- the float `x * 32.0` is. A finite float is counted in units of 2^-149, the smallest there is. Assumes nothing.
use Rattle.basics.proofs.Kit.{◌≡◌, refl, sym, ap, ◌∙◌, Bool, true, false, ◌&&◌, ℕ, zero, suc, ◌+◌, ◌-◌, ◌*◌, ◌/◌, ◌%◌, ◌^◌, ◌≤◌, ◌<◌, min, arith, eqb, leb, ltb, ℤ, pos, negsuc}
use mathlib.Core.Path.{subst}
use mathlib.Core.Bool.{false≢true}
use Prim.Native.Nat.{compare}
use native.Mathlib.Nat.{le_of_eq, le_of_suc-le-suc, le_trans, lt_of_lt_of_le, lt_of_not-le, min-eq_right, not-le_of_lt, le-div_iff_mul-le, le_of_mul-le-mul_right, lt_of_mul-lt-mul_right, mul_assoc, mul-div_cancel, mul-le-mul_right, mul-lt-mul_of_pos_right, mul-one, mul-pos, mul_right_comm, one-mul, zero-mul}
use lib.Dec.{T, lit<, lit≤, leb→le, ltb→lt, eqb→eq, not_T}
use lib.Pow.{pow-add, pow_pos, pow-lt}
use lib.Ieee.{Float, nan, inf, fin, up, down, binary32, mul, round, units, odd, fits, is_nan, unlike, size, nearest as to-even}
use lib.Ieee.Bits.{cond_no}
use lib.Ieee.Digits.{back, size-le}
use lib.Ieee.Exact.{HasValue, round_exact}
use lib.Ieee.Fits.{and_l, and_r, down_pos, round_is}
use lib.Ieee.Nearest.{nearest-ge}
use borrow.Author.Tests.{ltb-true, ltb-false}
use Rattle.quantiser.specs.Quantise.{clip, nearest, signed, rounded, quantised}
use Rattle.quantiser.proofs.Sizes.{of_value}

-- ---- where `round` overflows: w units, from 2^277 units (2^128) on
units_over : (s : Bool) (q k : ℕ) → 2 ^ 277 ≤ q * 2 ^ k → units binary32 s q k ≡ inf s
unfolding units
units_over s q k h = cond_no (ltb (q * 2 ^ k) (2 ^ 277)) (odd 25 s q k 149) (inf s) (not_T (ltb (q * 2 ^ k) (2 ^ 277)) (λ t. not-le_of_lt (ltb→lt (q * 2 ^ k) (2 ^ 277) t) h))

too_large : (s : Bool) (num den w : ℕ) → 0 < den → num * 2 ^ 149 ≡ w * den → 2 ^ 277 ≤ w → w < 2 ^ 301 → round binary32 s num den ≡ inf s
too_large s num den w D h lo hi =
    let n = num * 2 ^ 149 in
    let k = size (n / den) - 24 in
    let whole : n / den ≡ w = ap (λ (x : ℕ). x / den) h ∙ mul-div_cancel w D in
    let z : size (n / den) ≤ 301 = size-le (n / den) 301 (rw whole hi) in
    let few : k ≤ 277 = omega arith in
    let split : 2 ^ (277 - k) * 2 ^ k ≡ 2 ^ 277 = sym (pow-add 2 (277 - k) k) ∙ ap (λ (x : ℕ). 2 ^ x) (back 277 k few) in
    let level : 2 ^ (277 - k) * (den * 2 ^ k) ≡ 2 ^ 277 * den = sym (mul_assoc (2 ^ (277 - k)) den (2 ^ k)) ∙ mul_right_comm (2 ^ (277 - k)) den (2 ^ k) ∙ ap (λ (x : ℕ). x * den) split in
    let reach : 2 ^ (277 - k) * (den * 2 ^ k) ≤ n = le_trans (le_of_eq level) (le_trans (mul-le-mul_right den lo) (le_of_eq (sym h))) in
    round_is binary32 s num den
    ∙ units_over s (to-even (n / (den * 2 ^ k)) (compare (n % (den * 2 ^ k) * 2) (den * 2 ^ k))) k
    (le_trans (le_of_eq (sym split)) (mul-le-mul_right (2 ^ k) (le_trans ((le-div_iff_mul-le (mul-pos D (pow_pos k))).1 reach) (nearest-ge (n / (den * 2 ^ k)) (compare (n % (den * 2 ^ k) * 2) (den * 2 ^ k))))))

-- ---- a float of 32 bits in units: m · 2^(e + 149)
abbrev place : ℤ → ℕ
place (pos k) = k + 149
place (negsuc k) = 149 - suc k

-- what `fits` says of a finite float
record FloatInside (m : ℕ) (e : ℤ) : Type 0 where
  digits : m < 2 ^ 24
  deep : down e ≤ 2 ^ 149
  below : m * up e < 2 ^ 128 * down e

inside : (s : Bool) (m : ℕ) (e : ℤ) → T (fits binary32 (fin s m e)) → FloatInside m e
unfolding fits
inside s zero e t = record { digits = lit< tt; deep = shallow e (eqb→eq (up e * down e) 1 t); below = rw zero-mul (mul-pos (lit< tt) (down_pos e)) }
  where
    shallow : (e : ℤ) → up e * down e ≡ 1 → down e ≤ 2 ^ 149
    shallow (pos k) h = lit≤ tt
    shallow (negsuc k) h = le_trans (le_of_eq (sym (one-mul (2 ^ suc k)) ∙ h)) (lit≤ tt)
inside s (suc m) e t =
    let a = eqb (suc m % 2) 1 in
    let b = ltb (suc m) (2 ^ 24) in
    let c = leb (down e) (2 ^ 149) in
    let d = ltb (suc m * up e) (2 ^ 128 * down e) in
    let abc : T (a && b && c) = and_l (a && b && c) d t in record {
      digits = ltb→lt (suc m) (2 ^ 24) (and_r a b (and_l (a && b) c abc));
      deep = leb→le (down e) (2 ^ 149) (and_r (a && b) c abc);
      below = ltb→lt (suc m * up e) (2 ^ 128 * down e) (and_r (a && b && c) d t);
    }

in_units : (m : ℕ) (e : ℤ) → down e ≤ 2 ^ 149 → m * up e * 2 ^ 149 ≡ m * 2 ^ place e * down e
in_units m (pos k) h = mul_assoc m (2 ^ k) (2 ^ 149) ∙ ap (λ (x : ℕ). m * x) (sym (pow-add 2 k 149)) ∙ sym (mul-one (m * 2 ^ (k + 149)))
in_units m (negsuc k) h =
    let few : suc k ≤ 149 = le_of_suc-le-suc (lt_of_not-le (λ (g : 150 ≤ suc k). not-le_of_lt (pow-lt g) h)) in
    ap (λ (x : ℕ). x * 2 ^ 149) (mul-one m)
    ∙ ap (λ (x : ℕ). m * x) (sym (ap (λ (x : ℕ). 2 ^ x) (back 149 (suc k) few)) ∙ pow-add 2 (149 - suc k) (suc k))
    ∙ sym (mul_assoc m (2 ^ (149 - suc k)) (2 ^ suc k))

-- ---- the product
abbrev pub thirty_two : Float
thirty_two = fin false 1 (pos 5)

same_sign : (s : Bool) → unlike s false ≡ s
same_sign true = refl
same_sign false = refl

-- products of numerals beyond `omega`, as variables
by_32 : (m u P p d : ℕ) → m * u * P ≡ m * p * d → 32 * m * u * P ≡ m * (p * 32) * d
by_32 m u P p d h = omega arith

below_32 : (m u P d : ℕ) → m * u < P * d → 32 * m * u < P * 32 * d
below_32 m u P d h = omega arith

abbrev times_32 : Bool → ℕ → ℤ → Float
times_32 s m e = mul binary32 (fin s m e) thirty_two

as_round : (s : Bool) (m : ℕ) (e : ℤ) → times_32 s m e ≡ round binary32 s (32 * m * up e) (down e)
unfolding mul
as_round s m e = let n : m * up e * 32 ≡ 32 * m * up e = omega arith in rw (same_sign, n, mul-one)

-- the exact product in units
abbrev scaled : ℕ → ℤ → ℕ
scaled m e = m * 2 ^ (place e + 5)

-- below 2^277 units the float is exact; from there on it is an infinity, and the exact product is 128 or more
module _ (s : Bool) (m : ℕ) (e : ℤ) (i : FloatInside m e) where
  count : 32 * m * up e * 2 ^ 149 ≡ scaled m e * down e
  count = rw (pow-add 2 (place e) 5) (by_32 m (up e) (2 ^ 149) (2 ^ place e) (down e) (in_units m e i.deep))

  exact : scaled m e < 2 ^ 277 → HasValue (times_32 s m e) s (32 * m * up e) (down e)
  exact h =
      subst (λ (y : Float). HasValue y s (32 * m * up e) (down e)) (sym (as_round s m e))
      (round_exact binary32 s (32 * m * up e) (down e) m (place e + 5) (down_pos e) i.digits h count)

  bounded : scaled m e < 2 ^ 282
  bounded =
      let h : 32 * m * up e * 2 ^ 149 < 2 ^ 133 * down e * 2 ^ 149 = mul-lt-mul_of_pos_right (below_32 m (up e) (2 ^ 128) (down e) i.below) (pow_pos 149) in
      lt_of_mul-lt-mul_right (down e) (rw (count, mul_right_comm (2 ^ 133) (down e) (2 ^ 149)) at h)

  infinite : 2 ^ 277 ≤ scaled m e → times_32 s m e ≡ inf s
  infinite h = as_round s m e ∙ too_large s (32 * m * up e) (down e) (scaled m e) (down_pos e) count h (lt_of_lt_of_le bounded (lit≤ tt))

  far : 2 ^ 277 ≤ scaled m e → 128 * down e ≤ 32 * m * up e
  far h =
      let l : 2 ^ 128 * down e * 2 ^ 149 ≤ 32 * m * up e * 2 ^ 149 = rw (count, mul_right_comm (2 ^ 128) (down e) (2 ^ 149)) (mul-le-mul_right (down e) h) in
      le_trans (mul-le-mul_right (down e) (lit≤ tt)) (le_of_mul-le-mul_right l (pow_pos 149))

  -- so the float is a number, and is rounded as 32 times the sample is
  clipped : 128 * down e ≤ 32 * m * up e → min (nearest (32 * m * up e) (down e)) clip ≡ clip
  clipped h = min-eq_right ((le-div_iff_mul-le (mul-pos (lit< tt) (down_pos e))).1 (omega arith))

  product : (is_nan (times_32 s m e) ≡ false) × (rounded 1 (times_32 s m e) ≡ rounded 32 (fin s m e))
  unfolding is_nan rounded
  product = go (ltb (scaled m e) (2 ^ 277)) refl
    where
      finite : (y : Float) → HasValue y s (32 * m * up e) (down e) → is_nan y ≡ false
      finite nan h = absurd h
      finite (inf t) h = refl
      finite (fin t n d) h = refl

      go : (b : Bool) → ltb (scaled m e) (2 ^ 277) ≡ b → (is_nan (times_32 s m e) ≡ false) × (rounded 1 (times_32 s m e) ≡ rounded 32 (fin s m e))
      go true t =
          let h = exact (ltb-true (scaled m e) (2 ^ 277) t) in
          (finite (times_32 s m e) h, rw (of_value 1 (times_32 s m e) s (32 * m * up e) (down e) (down_pos e) h, one-mul))
      go false t =
          let h = ltb-false (scaled m e) (2 ^ 277) t in
          (ap is_nan (infinite h), ap (rounded 1) (infinite h) ∙ ap (λ (x : ℕ). signed s x) (sym (clipped (far h))))

pub scales :
    (x : Float) → T (fits binary32 x) → is_nan x ≡ false →
    (is_nan (mul binary32 x thirty_two) ≡ false) × (rounded 1 (mul binary32 x thirty_two) ≡ quantised x)
unfolding mul is_nan rounded quantised
scales nan h k = absurd (false≢true (sym k))
scales (inf s) h k = (refl, ap (λ (z : Bool). signed z clip) (same_sign s))
scales (fin s m e) h k = product s m e (inside s m e h)
