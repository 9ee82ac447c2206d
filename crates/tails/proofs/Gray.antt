-- The Gray code of k, k xor k / 2: a bijection of the numbers below 2^c, and each differs from the next in the bit of the next number's lowest 1.
-- Assumes nothing.
use Rattle.basics.proofs.Kit.{◌≡◌, refl, sym, ap, ap₂, ◌∙◌, ℕ, zero, suc, ◌-◌, ◌*◌, ◌/◌, ◌%◌, ◌^◌, ◌≤◌, ◌<◌, arith}
use native.Mathlib.Nat.{pow-succ', mod-lt, zero-lt-suc, not-suc-le-zero}
use lib.Bits as B
use lib.Count.{count_trailing_zeros, under}
use Rattle.field.specs.Field.{xor}
use Rattle.field.proofs.Xor as X
use Rattle.tails.proofs.Picked.{low}

unfoldable pub gray : (k : ℕ) → ℕ
gray k = xor k (k / 2)

pub gray_zero : gray 0 ≡ 0
unfolding gray
gray_zero = X.self 0

half_lt : (c k : ℕ) → k < 2 ^ suc c → k / 2 < 2 ^ c
half_lt c k h = omega (arith, pow-succ' 2 c)

pub gray_lt : (c k : ℕ) → k < 2 ^ c → gray k < 2 ^ c
unfolding gray
gray_lt c k h = X.below c k (k / 2) h (omega arith)

-- the upper bits of a Gray code are that of the upper bits
gray_half : (k : ℕ) → gray k / 2 ≡ gray (k / 2)
unfolding gray
gray_half k = X.half k (k / 2)

-- THE NUMBER with a Gray code
pub ungray : (count k : ℕ) → ℕ
ungray zero k = 0
ungray (suc c) k = xor k (ungray c (k / 2))

pub ungray_lt : (c k : ℕ) → k < 2 ^ c → ungray c k < 2 ^ c
unfolding ungray
ungray_lt zero k h = zero-lt-suc 0
ungray_lt (suc c) k h = X.below (suc c) k (ungray c (k / 2)) h (omega (arith, ungray_lt c (k / 2) (half_lt c k h), pow-succ' 2 c))

pub gray_ungray : (c k : ℕ) → k < 2 ^ c → gray (ungray c k) ≡ k
unfolding gray ungray
gray_ungray zero k h = X.self 0 ∙ omega arith
gray_ungray (suc c) k h =
    let u : ℕ = ungray c (k / 2) in
    let e : xor k u / 2 ≡ u = X.half k u ∙ ap (λ (x : ℕ). xor x (u / 2)) (sym (gray_ungray c (k / 2) (half_lt c k h))) ∙ X.uncancel u (u / 2) in
    ap (xor (xor k u)) e ∙ X.uncancel k u

-- THE NEXT ONE
by_bits : (a b : ℕ) → a % 2 ≡ b % 2 → a / 2 ≡ b / 2 → a ≡ b
by_bits a b e f = omega arith

other_bit : (a : ℕ) → suc a % 2 ≡ 1 - a % 2
other_bit a = omega arith

flip : (y : ℕ) → y < 2 → xor 1 y ≡ 1 - y
unfolding xor
flip zero h = refl
flip (suc zero) h = refl
flip (suc (suc y)) h = absurd (omega arith)

even_next : (k : ℕ) → k % 2 ≡ 0 → gray (suc k) ≡ xor (gray k) 1
unfolding gray xor
even_next k e =
    let d : k / 2 * 2 ^ 1 ≡ k = omega arith in
    let s : suc k ≡ xor k 1 = sym (ap (λ (x : ℕ). xor x 1) (sym d) ∙ B.xor_shifted (k / 2) 1 1 (omega arith) ∙ omega arith) in
    let h : suc k / 2 ≡ k / 2 = omega arith in
    ap₂ xor s h ∙ X.assoc k 1 (k / 2) ∙ ap (xor k) (X.comm 1 (k / 2)) ∙ sym (X.assoc k (k / 2) 1)

odd_next : (k p : ℕ) → k % 2 ≡ 1 → gray (suc (k / 2)) ≡ xor (gray (k / 2)) p → gray (suc k) ≡ xor (gray k) (2 * p)
unfolding gray
odd_next k p e f =
    let h : suc k / 2 ≡ suc (k / 2) = omega arith in
    let d : 2 * p / 2 ≡ p = omega arith in
    by_bits (gray (suc k)) (xor (gray k) (2 * p)) lows
    (gray_half (suc k) ∙ ap gray h ∙ f ∙ sym (X.half (gray k) (2 * p) ∙ ap₂ xor (gray_half k) d))
  where
    lows : gray (suc k) % 2 ≡ xor (gray k) (2 * p) % 2
    lows =
        let a : suc k % 2 ≡ 0 = omega arith in
        let b : 2 * p % 2 ≡ 0 = omega arith in
        let y : ℕ = k / 2 % 2 in
        let h : suc k / 2 ≡ suc (k / 2) = omega arith in
        let z : suc k / 2 % 2 ≡ 1 - y = ap (λ (x : ℕ). x % 2) h ∙ other_bit (k / 2) in
        low (suc k) (suc k / 2) ∙ ap₂ xor a z ∙ X.zero_l (1 - y)
        ∙ sym (low (gray k) (2 * p) ∙ ap₂ xor (low k (k / 2) ∙ ap (λ (x : ℕ). xor x y) e ∙ flip y (mod-lt (k / 2) (zero-lt-suc 1))) b ∙ X.zero_r (1 - y))

pub gray_next : (c d k : ℕ) → suc k < 2 ^ c → c ≤ d → gray (suc k) ≡ xor (gray k) (2 ^ count_trailing_zeros d (suc k))
unfolding count_trailing_zeros
gray_next zero d k h l = absurd (omega arith)
gray_next (suc c) zero k h l = absurd (not-suc-le-zero l)
gray_next (suc c) (suc d) k h l = go (suc k % 2) refl (λ (o : k % 2 ≡ 1). gray_next c d (k / 2) (omega (arith, pow-succ' 2 c)) (omega arith))
  where
    go : (b : ℕ) → suc k % 2 ≡ b → (k % 2 ≡ 1 → gray (suc (k / 2)) ≡ xor (gray (k / 2)) (2 ^ count_trailing_zeros d (suc (k / 2)))) →
        gray (suc k) ≡ xor (gray k) (2 ^ under b (count_trailing_zeros d (suc k / 2)))
    go zero e f =
        let o : k % 2 ≡ 1 = omega arith in
        let s : suc k / 2 ≡ suc (k / 2) = omega arith in
        odd_next k (2 ^ count_trailing_zeros d (suc (k / 2))) o (f o) ∙ ap (xor (gray k)) (sym (pow-succ' 2 (count_trailing_zeros d (suc (k / 2)))) ∙ ap (λ (x : ℕ). 2 ^ suc (count_trailing_zeros d x)) (sym s))
    go (suc b) e f = even_next k (omega (arith, mod-lt (suc k) (zero-lt-suc 1)))

-- the lowest 1 of a number below 2^c stands below place c
pub lowest_lt : (c d n : ℕ) → 0 < n → n < 2 ^ c → count_trailing_zeros d n < c
unfolding count_trailing_zeros
lowest_lt zero d n p h = absurd (omega arith)
lowest_lt (suc c) zero n p h = zero-lt-suc c
lowest_lt (suc c) (suc d) n p h = go (n % 2) refl (λ (e : n % 2 ≡ 0). lowest_lt c d (n / 2) (omega arith) (half_lt c n h))
  where
    go : (b : ℕ) → n % 2 ≡ b → (n % 2 ≡ 0 → count_trailing_zeros d (n / 2) < c) → under b (count_trailing_zeros d (n / 2)) < suc c
    go zero e f = let l : count_trailing_zeros d (n / 2) < c = f e in omega arith
    go (suc b) e f = zero-lt-suc c
