-- At every bit some codewords have 0 and some have 1: the word of zeros, and the word whose bits are all 1.
-- Each is tested once, at all of the roots that a code may have; fewer roots ask less.
-- Assumes nothing.
use Rattle.basics.proofs.Kit.{◌≡◌, refl, ap, ◌∙◌, Bool, true, ◌&&◌, List, ℕ, zero, suc, ◌+◌, ◌-◌, ◌^◌, ◌≤◌, ◌<◌, arith, get_or, eqb}
use lib.Dec.{T, eqb→eq}
use lib.ListN.{replicate, length-replicate, get_or-replicate}
use Rattle.field.specs.Field.{width_good, xor, times, times_from, doubled, alpha}
use Rattle.code.specs.Code.{long, value_at, symbols_good, is_codeword}
use Rattle.code.specs.Bits.{bits_of, all_bits, bit_at, row_long}
use Rattle.code.specs.Promise.{BothThere}
use Rattle.field.proofs.Tests.{all, at, and_l, and_r, widths}
use Rattle.code.proofs.Words.{Below, below, horner, value_horner, parts_codeword}

-- the word of so many symbols c has symbols below 2^m, and its value is zero at α to α^(n-1)
right : (c : ℕ → ℕ) → (m : ℕ) → Bool
right c m = symbols_good m (replicate (long m) (c m)) && all (long m - 1) (λ t. eqb (horner m (alpha m (suc t)) (replicate (long m) (c m))) 0)

-- its bits are v
Bits : (c : ℕ → ℕ) (v m : ℕ) → Type 0
Bits c v m = all_bits m (replicate (long m) (c m)) ≡ replicate (row_long m) v

one : (c : ℕ → ℕ) (v : ℕ) → T (right c 3) → T (right c 4) → Bits c v 3 → Bits c v 4 →
    (m r b : ℕ) → width_good m ≡ true → r < long m → b < row_long m → (ws : List ℕ) × (is_codeword m r ws ≡ true) × (bit_at m b ws ≡ v)
unfolding right Bits bit_at
one c v p q d e m r b w hr hb =
    let ws : List ℕ = replicate (long m) (c m) in
    let f : ℕ → Bool = (λ t. eqb (horner m (alpha m (suc t)) ws) 0) in
    let t : T (right c m) = widths (λ (m : ℕ). T (right c m)) p q m w in
    let low : Below (2 ^ m) ws = below m ws (and_l (symbols_good m ws) (all (long m - 1) f) t) in
    let zeros : (s : ℕ) → s < long m - 1 → value_at m (suc s) ws ≡ 0 =
    (λ s h. value_horner m w (suc s) ws low ∙ eqb→eq (horner m (alpha m (suc s)) ws) 0 (at (long m - 1) f (and_r (symbols_good m ws) (all (long m - 1) f) t) s h)) in (
      ws,
      parts_codeword m r ws record { count = length-replicate (long m) (c m); symbols = low; zeros = from_one ws zeros },
      ap (λ (l : List ℕ). get_or l b 0) (widths (Bits c v) d e m w) ∙ get_or-replicate (row_long m) b v 0 hb,
    )
  where
    from_one : (ws : List ℕ) → ((s : ℕ) → s < long m - 1 → value_at m (suc s) ws ≡ 0) → (s : ℕ) → 1 ≤ s → s < 1 + r → value_at m s ws ≡ 0
    from_one ws z zero l h = absurd (omega arith)
    from_one ws z (suc s) l h = z s (omega arith)

pub both_there : BothThere
unfolding BothThere right Bits xor times times_from doubled alpha long row_long symbols_good bits_of all_bits horner
both_there m r b w hr hb = (one (λ m. 0) 0 tt tt refl refl m r b w hr hb, one (λ m. long m) 1 tt tt refl refl m r b w hr hb)
