-- The fields of a line: bits one by one, signs, the least magnitude, and verdicts.
-- Assumes nothing.
use Rattle.basics.proofs.Kit.{◌≡◌, refl, ap, cond, List, [], ◌∷◌, ◌++◌, ℕ, zero, suc, ◌+◌, ◌≤◌, ◌<◌, min, arith, length, get_or, take, drop, set, ℤ, pos, negsuc, nat_abs}
use mathlib.Core.List.{map, append_assoc}
use native.Mathlib.Numerals.{add-one}
use borrow.Author.Tests.{le-ltb}
use lib.ListN.{length-map, drop_of_length-le}
use lib.Seq.{drop-cons}
use lib.Signed.{lt_z}
use Rattle.metric.specs.Metric.{is_neg, decided}
use Rattle.text.specs.Text.{space, dash, decimal_from, decimal, sign, signed, none_word, short_word, best_word, verdict_field, shortfall_field, bit_byte, bits_field, least_from, least_magnitude}
use Rattle.text.specs.Within.{ended, mark_part}

-- ---- bits
pub bits_length : (so : List ℤ) → length (bits_field so) ≡ length so
unfolding bits_field
bits_length so = length-map so _

each_at : (f : ℤ → ℕ) (so : List ℤ) (i : ℕ) → i < length so → get_or (map f so) i 0 ≡ f (get_or so i (pos 0))
each_at f [] i h = absurd (omega arith)
each_at f (s ∷ so) zero h = refl
each_at f (s ∷ so) (suc i) h = each_at f so i (omega arith)

pub bits_at : (so : List ℤ) (i : ℕ) → i < length so → get_or (bits_field so) i 0 ≡ bit_byte (decided (get_or so i (pos 0)))
unfolding bits_field
bits_at so i h = each_at _ so i h

-- a part filled from the front
pub bits_stored :
    (so : List ℤ) (part : List ℕ) (i : ℕ) → i < length so → length part ≡ length so →
    set (take i (bits_field so) ++ drop i part) i (bit_byte (decided (get_or so i (pos 0)))) ≡ take (suc i) (bits_field so) ++ drop (suc i) part
unfolding bits_field
bits_stored [] part i h e = absurd (omega arith)
bits_stored (s ∷ so) [] i h e = absurd (omega arith)
bits_stored (s ∷ so) (x ∷ part) zero h e = refl
bits_stored (s ∷ so) (x ∷ part) (suc i) h e = ap (◌∷◌ (bit_byte (decided s))) (bits_stored so part i (omega arith) (omega arith))

-- ---- signs
pub below_zero : (z : ℤ) → lt_z z (pos 0) ≡ is_neg z
unfolding is_neg
below_zero (pos n) = le-ltb n 0 (omega arith)
below_zero (negsuc n) = refl

pub sign_is : (z : ℤ) → sign z ≡ cond (lt_z z (pos 0)) (dash ∷ []) []
unfolding sign
sign_is z = rw below_zero

-- the parts in which a signed number is written; the machine's numbers are equal to those of the contract, not the same
pub signed_parts : {z y : ℤ} {x : ℕ} → y ≡ z → x ≡ nat_abs y → ended (signed z) space ≡ sign y ++ ended (decimal x) space
unfolding signed ended
signed_parts p q = rw (← p, q) (simp append_assoc)

-- ---- the least magnitude: the least of what was passed, and what follows
pub least_first : (so : List ℤ) (x : ℕ) → 0 < length so → x ≡ nat_abs (get_or so 0 (pos 0)) → least_from x (drop 1 so) ≡ least_magnitude so
unfolding least_magnitude
least_first [] x h e = absurd (omega arith)
least_first (s ∷ so) x h e = rw e

pub least_next :
    (so : List ℤ) (i d x : ℕ) → i < length so → x ≡ nat_abs (get_or so i (pos 0)) → least_from (min d x) (drop (i + 1) so) ≡ least_from d (drop i so)
unfolding least_from
least_next so i d x h e = rw (drop-cons so i (pos 0) h, e, add-one)

pub least_none : (so : List ℤ) → length so ≡ 0 → 0 ≡ least_magnitude so
unfolding least_magnitude
least_none [] e = refl
least_none (s ∷ so) e = absurd (omega arith)

pub least_end : (so : List ℤ) (i d : ℕ) → length so ≤ i → least_from d (drop i so) ≡ d
unfolding least_from
least_end so i d h = rw (drop_of_length-le so h)

-- ---- verdict and shortfall, by the bytes that are written
pub mark_none : {v : ℕ} (d : ℤ) → v ≡ 0 → mark_part v d ≡ 110 ∷ 111 ∷ 110 ∷ 101 ∷ 32 ∷ 45 ∷ 32 ∷ []
unfolding mark_part ended verdict_field shortfall_field none_word
mark_none d e = rw e

pub mark_short : {v : ℕ} {d y : ℤ} → v ≡ 1 → y ≡ d → mark_part v d ≡ (115 ∷ 104 ∷ 111 ∷ 114 ∷ 116 ∷ 32 ∷ []) ++ ended (signed y) space
unfolding mark_part ended verdict_field shortfall_field short_word
mark_short e p = rw (e, p)

pub mark_best :
    (v : ℕ) {d y : ℤ} → (v ≡ 0 → ⊥) → (v ≡ 1 → ⊥) → y ≡ d → mark_part v d ≡ (98 ∷ 101 ∷ 115 ∷ 116 ∷ 32 ∷ []) ++ ended (signed y) space
unfolding mark_part ended verdict_field shortfall_field best_word
mark_best zero e f p = absurd (e refl)
mark_best (suc zero) e f p = absurd (f refl)
mark_best (suc (suc v)) e f p = rw p
