-- The values on record of document 01 that are of metrics, and the order of the bits, each computed from the definitions.
-- Assumes nothing.
use Rattle.basics.proofs.Kit.{◌≡◌, refl, true, false, List, [], ◌∷◌, ◌++◌, ℕ, ℤ, pos, negsuc}
use mathlib.Core.List.{map}
use mathlib.Core.Option.{none, some}
use lib.ListN.{replicate}
use Rattle.code.specs.Code.{width, long}
use Rattle.code.specs.Bits.{bits_of, all_bits, bit_at, row_long}
use Rattle.metric.specs.Row.{row_bound, reliability_good, row_good}
use Rattle.metric.specs.Metric.{metric_of, metric, decided}

-- a row of one reliability, and a word of one symbol, of a code
abbrev row : (code : ℕ) → ℤ → List ℤ
row c r = replicate (row_long (width c)) r

abbrev word : (code : ℕ) → ℕ → List ℕ
word c s = replicate (long (width c)) s

-- 'Code 1, all reliabilities 10: metric 210 for the zero word'
-- 'All zero row, code 1: the word 7 seven times has metric 0'
pub on_record : (metric (width 1) (row 1 (pos 10)) (word 1 0) ≡ pos 210) × (metric (width 1) (row 1 (pos 0)) (word 1 7) ≡ pos 0)
unfolding width long row_long metric metric_of all_bits bits_of
on_record = (refl, refl)

-- the metrics of other values on record
pub beside :
    (metric (width 1) (row 1 (negsuc 9)) (word 1 7) ≡ pos 210)  -- all -10: the word 7 seven times
    × (metric (width 1) (negsuc 9 ∷ replicate 20 (pos 10)) (word 1 0) ≡ pos 190)  -- all 10 but bit 0 at -10: the zero word
    × (metric (width 1) (row 1 (pos 10)) (3 ∷ 6 ∷ 1 ∷ replicate 4 0) ≡ pos 110)  -- the second question of the sheet: short by 100
unfolding width long row_long metric metric_of all_bits bits_of
beside = (refl, refl, refl)

-- bit number of layer j at position i is i·m + (j-1): of the symbols 3 4 0 bits 0, 1 and 5 are 1
pub in_bit_order :
    (all_bits 3 (3 ∷ 4 ∷ 0 ∷ []) ≡ 1 ∷ 1 ∷ 0 ∷ 0 ∷ 0 ∷ 1 ∷ 0 ∷ 0 ∷ 0 ∷ [])
    × (metric 3 (pos 1 ∷ pos 2 ∷ pos 4 ∷ pos 8 ∷ pos 16 ∷ pos 32 ∷ pos 64 ∷ pos 0 ∷ negsuc 126 ∷ []) (3 ∷ 4 ∷ 0 ∷ []) ≡ negsuc 69)
    × (bit_at 4 7 (0 ∷ 8 ∷ []) ≡ 1)
unfolding metric metric_of all_bits bits_of bit_at
in_bit_order = (refl, refl, refl)

-- 'Row value 127 taken, -128 refused'
pub edges :
    (reliability_good row_bound (pos 127) ≡ true)
    × (reliability_good row_bound (negsuc 126) ≡ true)
    × (reliability_good row_bound (pos 128) ≡ false)
    × (reliability_good row_bound (negsuc 127) ≡ false)
    × (row_good row_bound (row 1 (pos 127)) ≡ true)
    × (row_good row_bound (replicate 20 (pos 127) ++ (negsuc 127 ∷ [])) ≡ false)
unfolding reliability_good row_good width long row_long
edges = (refl, refl, refl, refl, refl, refl)

-- a soft output of 0 decides nothing
pub decisions : map decided (pos 60 ∷ negsuc 59 ∷ pos 0 ∷ negsuc 0 ∷ []) ≡ some 0 ∷ some 1 ∷ none ∷ some 1 ∷ []
unfolding decided
decisions = refl
