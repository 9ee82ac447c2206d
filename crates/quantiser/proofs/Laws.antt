-- The statements of specs/Laws.antt. A greater fraction has a greater nearest whole number, and a sign turns the order of sizes round.
-- Assumes nothing.
use Rattle.basics.proofs.Kit.{◌≡◌, refl, sym, ap, ◌∙◌, Bool, true, false, ◌&&◌, ◌||◌, [], ◌∷◌, ℕ, zero, suc, ◌+◌, ◌*◌, ◌≤◌, ◌<◌, min, arith, eqb, ltb, ℤ, pos, negsuc, nat_abs}
use mathlib.Core.Bool.{false≢true}
use mathlib.Core.List.{map}
use Prim.Native.Nat.{zero-le}
use native.Mathlib.Nat.{le_refl, le_trans, le_of_lt, lt_of_not-le, zero-mul, le_antisymm, le_of_suc-le-suc, lt_of_mul-lt-mul_right, div-mul-le_self, div-lt_iff_lt-mul, div-eq_of_lt}
use borrow.Author.Tests.{le-ltb, ne_eqb, le-leb}
use lib.Dec.{eqb→eq, le→leb, lit≤}
use lib.IntN.{neg_ℤ, neg_ℤ-neg_ℤ}
use lib.Signed.{◌≤ℤ◌, le_z_yes}
use lib.Ieee.{nan, inf, fin, up, down, neg, lt, eq, le}
use lib.Ieee.Fits.{down_pos, and_l, and_r}
use lib.Ieee.Nearest.{div_mono}
use Rattle.field.proofs.Tests.{to_T}
use Rattle.metric.specs.Row.{row_bound, reliability_good, row_good}
use Rattle.quantiser.specs.Quantise.{clip, nearest, signed, rounded, quantised}
use Rattle.quantiser.specs.Laws.{Nearest, WithinHalf, NearestOne, Reliability, RowTaken, Odd, Monotone}
use Rattle.quantiser.proofs.Sizes.{within}

nearest_is : (a b : ℕ) → 0 < b → Nearest a b (nearest a b)
nearest_is a b h =
    let n = nearest a b in
    let p : n * (2 * b) ≤ 2 * a + b = div-mul-le_self (2 * a + b) (2 * b) in
    let z : 0 < 2 * b = omega arith in
    let q : 2 * a + b < suc n * (2 * b) = (div-lt_iff_lt-mul z).0 (le_refl (suc n)) in
    record { not_above = omega arith; not_below = omega arith }

pub within_half : WithinHalf
unfolding WithinHalf quantised rounded
within_half s m e = (nearest (32 * m * up e) (down e), nearest_is (32 * m * up e) (down e) (down_pos e), refl)

pub nearest_one : NearestOne
unfolding NearestOne
nearest_one a b n k p q = le_antisymm (half n k p q) (half k n q p)
  where
    half : (n k : ℕ) → Nearest a b n → Nearest a b k → n ≤ k
    half n k p q =
        let l = p.not_above in
        let h = q.not_below in
        let x : n * b < suc k * b = omega arith in
        le_of_suc-le-suc (lt_of_mul-lt-mul_right b x)

clip_bound : clip ≤ row_bound
clip_bound = lit≤ tt

pub reliability : Reliability
unfolding Reliability quantised reliability_good
reliability x = le-leb (nat_abs (rounded 32 x)) row_bound (le_trans (within 32 x) clip_bound)

pub row_taken : RowTaken
unfolding RowTaken row_good Reliability
row_taken [] = refl
row_taken (x ∷ xs) = ap (λ (b : Bool). b && row_good row_bound (map quantised xs)) (reliability x) ∙ row_taken xs

pub odd : Odd
unfolding Odd quantised rounded neg
odd nan = refl
odd (inf true) = sym (neg_ℤ-neg_ℤ (pos clip))
odd (inf false) = refl
odd (fin true m e) = sym (neg_ℤ-neg_ℤ (pos (min (nearest (32 * m * up e) (down e)) clip)))
odd (fin false m e) = refl

-- ---- monotone
nearest_mono : (a b c d : ℕ) → 0 < b → 0 < d → a * d ≤ c * b → nearest a b ≤ nearest c d
nearest_mono a b c d B D h = div_mono (2 * a + b) (2 * b) (2 * c + d) (2 * d) (omega arith) (omega arith) (omega arith)

-- the clipped size of 32 · m · 2^e
abbrev size : ℕ → ℤ → ℕ
size m e = min (nearest (32 * m * up e) (down e)) clip

size_mono : (m n : ℕ) (e d : ℤ) → m * up e * down d ≤ n * up d * down e → size m e ≤ size n d
size_mono m n e d h =
    let l : nearest (32 * m * up e) (down e) ≤ nearest (32 * n * up d) (down d) = nearest_mono (32 * m * up e) (down e) (32 * n * up d) (down d) (down_pos e) (down_pos d) (omega arith) in
    omega arith

-- a finite sample of size 0, whatever its sign
size_zero : (m : ℕ) (e d : ℤ) → m * up e * down d ≡ 0 → size m e ≡ 0
size_zero m e d h =
    let l : size m e ≤ size 0 d = size_mono m 0 e d (omega arith) in
    let o : nearest (32 * 0 * up d) (down d) ≡ 0 = rw zero-mul (div-eq_of_lt (omega (arith, down_pos d))) in
    omega arith

-- ±p in the order of sizes
up_order : (p q : ℕ) → p ≤ q → pos p ≤ℤ pos q
up_order p q h = le_z_yes (le→leb p q h)

down_order : (p q : ℕ) → q ≤ p → neg_ℤ (pos p) ≤ℤ neg_ℤ (pos q)
down_order zero zero h = le_z_yes tt
down_order zero (suc q) h = absurd (omega arith)
down_order (suc p) zero h = le_z_yes tt
down_order (suc p) (suc q) h = le_z_yes (le→leb q p (le_of_suc-le-suc h))

across : (p q : ℕ) → neg_ℤ (pos p) ≤ℤ pos q
across zero q = le_z_yes (le→leb 0 q zero-le)
across (suc p) q = le_z_yes tt

least : (z : ℤ) → nat_abs z ≤ clip → signed true clip ≤ℤ z
least (pos n) h = le_z_yes tt
least (negsuc n) h = le_z_yes (le→leb n 126 (le_of_suc-le-suc h))

greatest : (z : ℤ) → nat_abs z ≤ clip → z ≤ℤ signed false clip
greatest (pos n) h = le_z_yes (le→leb n 127 h)
greatest (negsuc n) h = le_z_yes tt

-- what `le` says of two finite samples of one sign, by their sizes on one denominator
ordered : (a b : ℕ) (q : Bool) → (b < a → q ≡ false) → (ltb a b || (q && true)) ≡ true → a ≤ b
ordered a b q h t = le_of_suc-le-suc (lt_of_not-le (λ (l : b < a). false≢true (rw (le-ltb a b (le_of_lt l), h l) at t)))

-- and of a sample that is not negative against one that is: both are 0
both_zero : (a b : ℕ) → (eqb a b && eqb a 0) ≡ true → (a ≡ 0) × (b ≡ 0)
both_zero a b t = let z = eqb→eq a 0 (and_r (eqb a b) (eqb a 0) (to_T t)) in (z, sym (eqb→eq a b (and_l (eqb a b) (eqb a 0) (to_T t))) ∙ z)

pub monotone : Monotone
unfolding Monotone quantised rounded le lt eq
monotone nan y t = absurd (false≢true t)
monotone (inf s) nan t = absurd (false≢true t)
monotone (inf true) (inf y) t = least (rounded 32 (inf y)) (within 32 (inf y))
monotone (inf false) (inf false) t = up_order clip clip (le_refl clip)
monotone (inf false) (inf true) t = absurd (false≢true t)
monotone (inf true) (fin y n d) t = least (rounded 32 (fin y n d)) (within 32 (fin y n d))
monotone (inf false) (fin y n d) t = absurd (false≢true t)
monotone (fin s m e) nan t = absurd (false≢true t)
monotone (fin s m e) (inf false) t = greatest (rounded 32 (fin s m e)) (within 32 (fin s m e))
monotone (fin s m e) (inf true) t = absurd (false≢true t)
monotone (fin false m e) (fin false n d) t =
    let a = m * up e * down d in
    let b = n * up d * down e in
    up_order (size m e) (size n d) (size_mono m n e d (ordered a b (eqb a b) (λ l. ne_eqb a b (λ e. omega arith)) t))
monotone (fin true m e) (fin true n d) t =
    let a = m * up e * down d in
    let b = n * up d * down e in
    down_order (size m e) (size n d) (size_mono n m d e (ordered b a (eqb a b) (λ l. ne_eqb a b (λ e. omega arith)) t))
monotone (fin true m e) (fin false n d) t = across (size m e) (size n d)
monotone (fin false m e) (fin true n d) t =
    let z = both_zero (m * up e * down d) (n * up d * down e) t in
    rw (size_zero m e d z.0, size_zero n d e z.1) (le_z_yes tt)
