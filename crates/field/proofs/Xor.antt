-- The laws of xor.
-- Assumes nothing.
use Rattle.basics.proofs.Kit.{◌≡◌, refl, sym, ap, ap₂, ◌∙◌, cond, ℕ, zero, suc, ◌+◌, ◌*◌, ◌/◌, ◌%◌, ◌^◌, ◌<◌, arith, eqb}
use native.Mathlib.Nat.{mod-lt, zero-lt-suc}
use lib.Dec.{eqb→eq}
use lib.Arith.{bin_ind}
use lib.Bits as B
use lib.Bits.{bit_xor, differ, xor_step, xor_shr, xor_mod}
use Rattle.field.specs.Field.{xor}
use Rattle.field.proofs.Tests.{all, at}

two : 0 < 2
two = zero-lt-suc 1

pub comm : (a b : ℕ) → xor a b ≡ xor b a
unfolding xor
comm a b = B.xor_comm a b

pub self : (a : ℕ) → xor a a ≡ 0
unfolding xor
self a = B.xor_self a

pub zero_l : (a : ℕ) → xor 0 a ≡ a
unfolding xor
zero_l a = refl

pub zero_r : (a : ℕ) → xor a 0 ≡ a
unfolding xor
zero_r a = B.xor_zero_r a

pub below : (m a b : ℕ) → a < 2 ^ m → b < 2 ^ m → xor a b < 2 ^ m
unfolding xor
below m a b ha hb = B.xor_lt m a b ha hb

-- digits, by a test of all of them
odd : (a b : ℕ) → bit_xor a b % 2 ≡ differ (a % 2) (b % 2)
odd a b =
    xor_mod a b 1
    ∙ eqb→eq (bit_xor (a % 2) (b % 2)) (differ (a % 2) (b % 2))
    (at 2 (λ y. eqb (bit_xor (a % 2) y) (differ (a % 2) y)) (at 2 (λ x. all 2 (λ y. eqb (bit_xor x y) (differ x y))) tt (a % 2) (mod-lt a two)) (b % 2) (mod-lt b two))

three : (x y z : ℕ) → x < 2 → y < 2 → z < 2 → differ (differ x y) z ≡ differ x (differ y z)
three x y z hx hy hz =
    eqb→eq (differ (differ x y) z) (differ x (differ y z))
    (at 2 (λ z. eqb (differ (differ x y) z) (differ x (differ y z)))
    (at 2 (λ y. all 2 (λ z. eqb (differ (differ x y) z) (differ x (differ y z))))
    (at 2 (λ x. all 2 (λ y. all 2 (λ z. eqb (differ (differ x y) z) (differ x (differ y z))))) tt x hx) y hy) z hz)

assoc_bits : (a b c : ℕ) → bit_xor (bit_xor a b) c ≡ bit_xor a (bit_xor b c)
assoc_bits a =
    bin_ind (λ (n : ℕ). (b c : ℕ) → bit_xor (bit_xor n b) c ≡ bit_xor n (bit_xor b c)) (λ b c. refl)
    (λ n ih b c. xor_step (bit_xor n b) c
    ∙ ap₂ (λ (x y : ℕ). bit_xor x (c / 2) * 2 + differ y (c % 2)) (xor_shr n b 1) (odd n b)
    ∙ ap₂ (λ (x y : ℕ). x * 2 + y) (ih (b / 2) (c / 2)) (three (n % 2) (b % 2) (c % 2) (mod-lt n two) (mod-lt b two) (mod-lt c two))
    ∙ ap₂ (λ (x y : ℕ). bit_xor (n / 2) x * 2 + differ (n % 2) y) (sym (xor_shr b c 1)) (sym (odd b c))
    ∙ sym (xor_step n (bit_xor b c))) a

pub assoc : (a b c : ℕ) → xor (xor a b) c ≡ xor a (xor b c)
unfolding xor
assoc a b c = assoc_bits a b c

pub left_comm : (a b c : ℕ) → xor a (xor b c) ≡ xor b (xor a c)
left_comm a b c = sym (assoc a b c) ∙ ap (λ (x : ℕ). xor x c) (comm a b) ∙ assoc b a c

pub cross : (a b c d : ℕ) → xor (xor a b) (xor c d) ≡ xor (xor a c) (xor b d)
cross a b c d = simp (assoc, left_comm)

pub cancel : (a b : ℕ) → xor a (xor a b) ≡ b
cancel a b = sym (assoc a a b) ∙ ap (λ (x : ℕ). xor x b) (self a) ∙ zero_l b

pub uncancel : (a b : ℕ) → xor (xor a b) b ≡ a
uncancel a b = assoc a b b ∙ ap (xor a) (self b) ∙ zero_r a

-- numbers whose sum is 0 are the same
pub same : (a b : ℕ) → xor a b ≡ 0 → a ≡ b
same a b e = sym (uncancel a b) ∙ ap (λ (c : ℕ). xor c b) e ∙ zero_l b

-- the lowest digit of a sum, and the others
pub half : (a b : ℕ) → xor a b / 2 ≡ xor (a / 2) (b / 2)
unfolding xor
half a b = xor_shr a b 1

either : (a x y : ℕ) → x < 2 → y < 2 → cond (eqb (differ x y) 1) a 0 ≡ xor (cond (eqb x 1) a 0) (cond (eqb y 1) a 0)
either a zero zero hx hy = sym (zero_l 0)
either a zero (suc zero) hx hy = sym (zero_l a)
either a (suc zero) zero hx hy = sym (zero_r a)
either a (suc zero) (suc zero) hx hy = sym (self a)
either a zero (suc (suc y)) hx hy = absurd (omega arith)
either a (suc zero) (suc (suc y)) hx hy = absurd (omega arith)
either a (suc (suc x)) y hx hy = absurd (omega arith)

lowest : (a b : ℕ) → xor a b % 2 ≡ differ (a % 2) (b % 2)
unfolding xor
lowest a b = odd a b

pub chosen : (a b c : ℕ) → cond (eqb (xor b c % 2) 1) a 0 ≡ xor (cond (eqb (b % 2) 1) a 0) (cond (eqb (c % 2) 1) a 0)
chosen a b c = ap (λ (x : ℕ). cond (eqb x 1) a 0) (lowest b c) ∙ either a (b % 2) (c % 2) (mod-lt b two) (mod-lt c two)
