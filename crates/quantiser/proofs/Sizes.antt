-- A float rounded, by its bits: `rounded 1` in units of 2^-149, and what `size_of` makes of each range of the exponent's field.
-- `omega` takes numerals of at most 38 digits, so a power of two beyond them stands as a variable P in a lemma of its own.
-- Assumes nothing.
use Rattle.basics.proofs.Kit.{◌≡◌, refl, sym, ap, ◌∙◌, Bool, true, false, cond, ℕ, zero, suc, ◌+◌, ◌-◌, ◌*◌, ◌/◌, ◌%◌, ◌^◌, ◌≤◌, ◌<◌, min, arith, eqb, leb, pos, nat_abs}
use mathlib.Core.Path.{subst}
use mathlib.Core.Bool.{false≢true}
use Prim.Native.Nat.{zero-le}
use native.Mathlib.Nat.{le_of_suc-le-suc, lt_of_lt_of_le, mul-le-mul, mul-one, one-mul, mul_assoc, min-eq_right, min-le_right, le_of_eq, div-eq_of_lt, le-div_iff_mul-le}
use lib.Dec.{T, lit<, lit≤, eqb→eq}
use lib.Pow.{pow-add, pow_pos, pow_mono, shl_lt}
use lib.Ieee.{Float, nan, inf, fin, up, down, binary32, odd, of_fields, of_bits, to_bits, fits, is_nan, nan_bits}
use lib.Ieee.Bits.{of_bits-to_bits, nan_bits_is}
use lib.Ieee.Exact.{HasValue, odd_sign}
use lib.Ieee.Fits.{down_pos}
use lib.Ieee.Nearest.{div_same}
use borrow.Author.Tests.{lt-leb}
use Rattle.quantiser.specs.Quantise.{clip, nearest, signed, rounded}

-- equal fractions have one nearest whole number
nearest_same : (a b c d : ℕ) → 0 < b → 0 < d → a * d ≡ c * b → nearest a b ≡ nearest c d
nearest_same a b c d B D h = div_same (2 * a + b) (2 * b) (2 * c + d) (2 * d) (omega arith) (omega arith) (omega arith)

cross : (t m u d a c : ℕ) → m * u * c ≡ a * d → t * m * u * c ≡ t * a * d
cross t m u d a c h = simp mul_assoc (ap (λ (x : ℕ). t * x) (simp mul_assoc at h))

-- a float that is ±a / c is rounded as t · a / c is
pub of_value : (t : ℕ) (x : Float) (s : Bool) (a c : ℕ) → 0 < c → HasValue x s a c → rounded t x ≡ signed s (min (nearest (t * a) c) clip)
unfolding rounded
of_value t nan s a c C h = absurd h
of_value t (inf r) s a c C h = absurd h
of_value t (fin r m e) s a c C h =
    ap (λ (z : Bool). signed z (min (nearest (t * m * up e) (down e)) clip)) h.0
    ∙ ap (λ (n : ℕ). signed s (min n clip)) (nearest_same (t * m * up e) (down e) (t * a) c (down_pos e) C (cross t m (up e) (down e) a c h.1))

-- the size of the float with these fields, in units of 2^-149; an infinity's counts as the number that would come after the largest
unfoldable pub units : (exponent digits : ℕ) → ℕ
units zero t = t
units (suc x) t = (8388608 + t) * 2 ^ x

-- and to the nearest whole number, clipped
abbrev pub size : (exponent digits : ℕ) → ℕ
size x t = min (nearest (units x t) (2 ^ 149)) clip

abbrev pub of_units : (x : Float) (s : Bool) (a : ℕ) → HasValue x s a (2 ^ 149) → rounded 1 x ≡ signed s (min (nearest a (2 ^ 149)) clip)
of_units x s a h = of_value 1 x s a (2 ^ 149) (pow_pos 149) h ∙ ap (λ (n : ℕ). signed s (min (nearest n (2 ^ 149)) clip)) (one-mul a)

pub of_fields_lem : (s : Bool) (x t : ℕ) → is_nan (of_fields binary32 s x t) ≡ false → rounded 1 (of_fields binary32 s x t) ≡ signed s (size x t)
unfolding of_fields units is_nan rounded
of_fields_lem s zero t k = of_units (odd 24 s t 0 149) s t (subst (λ (a : ℕ). HasValue (odd 24 s t 0 149) s a (2 ^ 149)) (mul-one t) (odd_sign 24 s t 0 149))
of_fields_lem s (suc x) t k = go (eqb (suc x) 255) (eqb t 0) (eqb→eq (suc x) 255) (eqb→eq t 0) k
  where
    go : (p q : Bool) → (T p → suc x ≡ 255) → (T q → t ≡ 0) → is_nan (cond p (cond q (inf s) nan) (odd 24 s (8388608 + t) x 149)) ≡ false
        → rounded 1 (cond p (cond q (inf s) nan) (odd 24 s (8388608 + t) x 149)) ≡ signed s (size (suc x) t)
    go true true hp hq n =
        let e : x ≡ 254 = omega (arith, hp tt) in
        sym (ap (λ (y : ℕ). signed s (size (suc y) t)) e ∙ ap (λ (y : ℕ). signed s (size 255 y)) (hq tt))
    go true false hp hq n = absurd (false≢true (sym n))
    go false q hp hq n = of_units (odd 24 s (8388608 + t) x 149) s ((8388608 + t) * 2 ^ x) (odd_sign 24 s (8388608 + t) x 149)

-- ---- by its bits: the sign is the highest of 32
abbrev pub sized : (bits : ℕ) → ℕ
sized b = size (b / 8388608) (b % 8388608)

pub same_nan : (b : ℕ) → nan_bits binary32 b ≡ nan_bits binary32 (b % 2147483648)
unfolding nan_bits
same_nan b =
    let x : b % 2147483648 % 2147483648 ≡ b % 2147483648 = omega arith in
    let t : b % 2147483648 % 8388608 ≡ b % 8388608 = omega arith in
    rw (x, t)

of_bits_lem : (b : ℕ) → nan_bits binary32 b ≡ false → rounded 1 (of_bits binary32 b) ≡ signed (leb 2147483648 b) (sized (b % 2147483648))
unfolding of_bits
of_bits_lem b k =
    let t : b % 2147483648 % 8388608 ≡ b % 8388608 = omega arith in
    rw t (of_fields_lem (leb 2147483648 b) (b % 2147483648 / 8388608) (b % 8388608) (sym (nan_bits_is binary32 b) ∙ k))

-- a pattern with no sign
pub of_plain : (b : ℕ) → b < 2147483648 → nan_bits binary32 b ≡ false → rounded 1 (of_bits binary32 b) ≡ pos (sized b)
of_plain b h k = let e : b % 2147483648 ≡ b = omega arith in rw (of_bits_lem b k, lt-leb 2147483648 b h, e)

-- a float, by its sign and the pattern without it
pub by_sign : (y : Float) → T (fits binary32 y) → is_nan y ≡ false → (n : ℕ) → pos n ≡ rounded 1 (of_bits binary32 (to_bits binary32 y % 2147483648))
    → rounded 1 y ≡ signed (leb 2147483648 (to_bits binary32 y)) n
by_sign y h k n r =
    let b = to_bits binary32 y in
    let e = of_bits-to_bits binary32 y h in
    let bits : nan_bits binary32 b ≡ false = nan_bits_is binary32 b ∙ ap is_nan e ∙ k in
    let same : n ≡ sized (b % 2147483648) = ap nat_abs (r ∙ of_plain (b % 2147483648) (omega arith) (sym (same_nan b) ∙ bits)) in
    ap (rounded 1) (sym e) ∙ rw (of_bits_lem b bits, ← same)

-- ---- what `size_of` works out, in its three ranges of the exponent's field
small : (b : ℕ) → b / 8388608 < 126 → 0 ≡ sized b
unfolding units
small b h = sym (ap (λ (n : ℕ). min n 127) (div-eq_of_lt (stays _ (2 ^ 148) (less (b / 8388608) (b % 8388608) (omega arith) h))))
  where
    less : (x t : ℕ) → t < 8388608 → x < 126 → units x t < 2 ^ 148
    less zero t k h = lt_of_lt_of_le k (lit≤ tt)
    less (suc x) t k h = let q : 8388608 + t < 2 ^ 24 = omega arith in lt_of_lt_of_le (shl_lt 24 x q) (pow_mono {i = 24 + x} {j = 148} (omega arith))

    stays : (u P : ℕ) → u < P → 2 * u + 2 * P < 2 * (2 * P)
    stays u P h = omega arith

large : (x t : ℕ) → 134 ≤ x → 127 ≡ size x t
unfolding units
large zero t h = absurd (omega arith)
large (suc x) t h =
    let q : 8388608 ≤ 8388608 + t = omega arith in
    sym (min-eq_right ((le-div_iff_mul-le (lit< tt)).1 (reaches ((8388608 + t) * 2 ^ x) (2 ^ 133) (mul-le-mul q (pow_mono (le_of_suc-le-suc h))))))
  where
    reaches : (u P : ℕ) → 8388608 * P ≤ u → 127 * (2 * (65536 * P)) ≤ 2 * u + 65536 * P
    reaches u P k = omega arith

-- so the answers of the first two
pub is_small : (b : ℕ) → b < 2147483648 → nan_bits binary32 b ≡ false → b / 8388608 < 126 → pos 0 ≡ rounded 1 (of_bits binary32 b)
is_small b h k l = rw (of_plain b h k) (ap pos (small b l))

pub is_large : (b : ℕ) → b < 2147483648 → nan_bits binary32 b ≡ false → 134 ≤ b / 8388608 → pos 127 ≡ rounded 1 (of_bits binary32 b)
is_large b h k l = rw (of_plain b h k) (ap pos (large (b / 8388608) (b % 8388608) l))

pub middle : (x t : ℕ) → 126 ≤ x → nearest (units x t) (2 ^ 149) ≡ nearest ((8388608 + t) * 2 ^ (x - 126)) 16777216
unfolding units
middle zero t h = absurd (omega arith)
middle (suc x) t h =
    let d = suc x - 126 in
    let e : 2 ^ x ≡ 2 ^ d * 2 ^ 125 = ap (λ (n : ℕ). 2 ^ n) (omega arith) ∙ pow-add 2 d 125 in
    nearest_same ((8388608 + t) * 2 ^ x) (2 ^ 149) ((8388608 + t) * 2 ^ d) 16777216 (pow_pos 149) (lit< tt)
    (ap (λ (p : ℕ). (8388608 + t) * p * 16777216) e ∙ level (8388608 + t) (2 ^ d) (2 ^ 125))
  where
    level : (q p P : ℕ) → q * (p * P) * 16777216 ≡ q * p * (16777216 * P)
    level q p P = omega arith

-- ---- a rounded float's size is at most 127
size_of : (s : Bool) (n : ℕ) → nat_abs (signed s n) ≡ n
size_of false n = refl
size_of true zero = refl
size_of true (suc n) = refl

pub within : (t : ℕ) (x : Float) → nat_abs (rounded t x) ≤ clip
unfolding rounded
within t nan = zero-le
within t (inf s) = le_of_eq (size_of s clip)
within t (fin s m e) = rw size_of (min-le_right (nearest (t * m * up e) (down e)) clip)
