-- One column: the least cost with a tail bit more, and the key, which is a cost itself.
-- Assumes nothing.
use Rattle.basics.proofs.Kit.{◌≡◌, refl, sym, ap, ap₂, ◌∙◌, Bool, true, false, ℕ, suc, ◌+◌, ◌*◌, ◌^◌, ◌≤◌, ◌<◌, min, arith, leb}
use native.Mathlib.Nat.{two-pow-succ, zero-mul, one-mul}
use native.Mathlib.Decide.{dec_le}
use lib.Bits.{xor_block}
use borrow.Author.Tests.{leb-true, leb-false}
use Rattle.field.specs.Field.{xor}
use Rattle.field.proofs.Xor as X
use Rattle.trellis.specs.Trellis.{Column, pick, step, either, bit, choice}
use Rattle.coset.proofs.Pairs.{powers, power_some}

-- a power of two above s, and a power of two in a greater number
pub high_bit : (k s : ℕ) → s < 2 ^ k → xor s (2 ^ k) ≡ 2 ^ k + s
unfolding xor
high_bit k s l =
    let a : s ≡ 0 * 2 ^ k + s = omega (arith, zero-mul (2 ^ k)) in
    let b : 2 ^ k ≡ 1 * 2 ^ k + 0 = omega arith in
    ap₂ xor a b ∙ xor_block k 0 1 s 0 l (power_some k) ∙ omega (arith, X.zero_r s)

pub high_bit_off : (k s : ℕ) → s < 2 ^ k → xor (2 ^ k + s) (2 ^ k) ≡ s
high_bit_off k s l = ap (λ (x : ℕ). xor x (2 ^ k)) (sym (high_bit k s l)) ∙ X.uncancel s (2 ^ k)

stays_far : (k s : ℕ) → 2 ^ suc k ≤ s → 2 ^ suc k ≤ xor s (2 ^ k)
stays_far k s l = go (dec_le (2 ^ suc k) (xor s (2 ^ k)))
  where
    go : Dec (2 ^ suc k ≤ xor s (2 ^ k)) → 2 ^ suc k ≤ xor s (2 ^ k)
    go (yes a) = a
    go (no a) =
        absurd (omega (arith, X.below (suc k) (xor s (2 ^ k)) (2 ^ k) (omega arith) (omega (arith, two-pow-succ k, power_some k)), X.uncancel s (2 ^ k)))

pub step_le : (c : Column) (T : ℕ → ℕ) (s : ℕ) → step either c T s ≤ T s + c.c0
unfolding step
step_le c T s = omega arith

-- A TAIL BIT MORE: the column is 2^k, and from 2^k on the table has no way below big
module _ (k : ℕ) (c : Column) (T : ℕ → ℕ) (big : ℕ) (h : c.h ≡ 2 ^ k) (far : (s : ℕ) → 2 ^ k ≤ s → big ≤ T s) where
  pub with_zero : (s : ℕ) → s < 2 ^ k → T s + c.c0 ≤ big → step either c T s ≡ T s + c.c0
  unfolding step
  with_zero s l r = omega (arith, far (2 ^ k + s) (omega arith), ap T (ap (xor s) h ∙ high_bit k s l))

  pub with_one : (s : ℕ) → s < 2 ^ k → T s + c.c1 ≤ big → step either c T (2 ^ k + s) ≡ T s + c.c1
  unfolding step
  with_one s l r = omega (arith, far (2 ^ k + s) (omega arith), ap T (ap (xor (2 ^ k + s)) h ∙ high_bit_off k s l))

  pub still_far : (s : ℕ) → 2 ^ suc k ≤ s → big ≤ step either c T s
  unfolding step
  still_far s l =
      omega (
        arith,
        two-pow-succ k,
        stays_far k s l,
        far s (omega (arith, two-pow-succ k)),
        far (xor s (2 ^ k)) (omega (arith, two-pow-succ k, stays_far k s l)),
        ap T (ap (xor s) h),
      )

-- THE KEY IS A COST: that of the column where a 0 costs 2^16 times as much, and a 1 its place in the word besides
abbrev pub key_column : (k : ℕ) → Column → Column
key_column k c = record { h = c.h; c0 = c.c0 * 65536; c1 = c.c1 * 65536 + 2 ^ k }

pub key_step : (k : ℕ) (c : Column) (B N : ℕ → ℕ) (s : ℕ) → k ≤ 15 → ((u : ℕ) → N u < 2 ^ k) →
    step either c B s * 65536 + (choice c B s * 2 ^ k + N (xor s (pick (choice c B s) 0 c.h))) ≡ step either (key_column k c) (λ u. B u * 65536 + N u) s
unfolding step choice
key_step k c B N s l small = go (leb (B s + c.c0) (B (xor s c.h) + c.c1)) refl
  where
    go : (a : Bool) → leb (B s + c.c0) (B (xor s c.h) + c.c1) ≡ a →
        min (B s + c.c0) (B (xor s c.h) + c.c1) * 65536 + (bit a * 2 ^ k + N (xor s (pick (bit a) 0 c.h)))
        ≡ min (B s * 65536 + N s + c.c0 * 65536) (B (xor s c.h) * 65536 + N (xor s c.h) + (c.c1 * 65536 + 2 ^ k))
    go true e =
        omega (
          arith,
          leb-true (B s + c.c0) (B (xor s c.h) + c.c1) e,
          ap N (X.zero_r s),
          small s,
          zero-mul (2 ^ k),
        )
    go false e =
        omega (
          arith,
          leb-false (B s + c.c0) (B (xor s c.h) + c.c1) e,
          small (xor s c.h),
          powers k 15 l,
          one-mul (2 ^ k),
        )
