-- The values on record of document 01 and the edges, each computed from the definitions. Samples stand by their bits.
-- Assumes nothing.
use Rattle.basics.proofs.Kit.{◌≡◌, refl, true, false, List, ◌∷◌, ℕ, ℤ, pos, negsuc}
use lib.ListN.{replicate}
use lib.Ieee.{Float, fin, binary32, of_bits, is_nan}
use Rattle.field.specs.Field.{width_good}
use Rattle.code.specs.Code.{code_good, number_refusal, parameter_refusal, width, long, message_long, bch_dimension, configuration_long, roots_good}
use Rattle.code.specs.Bits.{row_long}
use Rattle.quantiser.specs.Quantise.{rounded, quantised}
use Rattle.refusal.specs.Refusal.{unless, first}
use Rattle.quantiser.specs.Calls.{has_nan, quantise_refusal}

abbrev sample : (bits : ℕ) → Float
sample b = of_bits binary32 b

abbrev at : (bits : ℕ) → ℤ
at b = quantised (sample b)

-- which numbers the bits of the values on record stand for
pub samples_on_record :
    (sample 0x3f80_0000 ≡ fin false 1 (pos 0))  -- 1.0 = 1 · 2^0
    × (sample 0x3c80_0000 ≡ fin false 1 (negsuc 5))  -- 1/64 = 1 · 2^-6
    × (sample 0xbc80_0000 ≡ fin true 1 (negsuc 5))  -- -1/64
    × (sample 0x407f_0000 ≡ fin false 255 (negsuc 5))  -- 3.984375 = 255 · 2^-6
unfolding of_bits
samples_on_record = (refl, refl, refl, refl)

-- 'Samples 1.0, 1/64, -1/64, 3.984375: 32, 1, -1, 127'
pub on_record :
    (at 0x3f80_0000 ≡ pos 32)  -- 1.0
    × (at 0x3c80_0000 ≡ pos 1)  -- 1/64, 32 times which is 0.5
    × (at 0xbc80_0000 ≡ negsuc 0)  -- -1/64
    × (at 0x407f_0000 ≡ pos 127)  -- 3.984375, 32 times which is 127.5
unfolding quantised rounded of_bits
on_record = (refl, refl, refl, refl)

pub edges :
    (at 0x0000_0000 ≡ pos 0)  -- 0
    × (at 0x8000_0000 ≡ pos 0)  -- -0
    × (at 0x7f80_0000 ≡ pos 127)  -- infinity
    × (at 0xff80_0000 ≡ negsuc 126)  -- -infinity
    × (at 0x0000_0001 ≡ pos 0)  -- the least subnormal
    × (at 0x8000_0001 ≡ pos 0)  -- its negative
    × (at 0x3c7f_ffff ≡ pos 0)  -- the float below 1/64
    × (at 0x3c80_0001 ≡ pos 1)  -- the float above 1/64
    × (at 0xbc7f_ffff ≡ pos 0)  -- the float above -1/64
    × (at 0xbc80_0001 ≡ negsuc 0)  -- the float below -1/64
    × (at 0x3da0_0000 ≡ pos 3)  -- 2.5 / 32, where to even would be 2
    × (at 0x407c_ffff ≡ pos 126)  -- the float below 126.5 / 32
    × (at 0x407d_0000 ≡ pos 127)  -- 126.5 / 32
    × (at 0x407d_0001 ≡ pos 127)  -- the float above 126.5 / 32
    × (at 0xc07c_ffff ≡ negsuc 125)  -- the float above -126.5 / 32
    × (at 0xc07d_0000 ≡ negsuc 126)  -- -126.5 / 32
    × (at 0x7f7f_ffff ≡ pos 127)  -- the largest
    × (at 0xff7f_ffff ≡ negsuc 126)  -- its negative
unfolding quantised rounded of_bits
edges = (refl, refl, refl, refl, refl, refl, refl, refl, refl, refl, refl, refl, refl, refl, refl, refl, refl, refl)

-- so many samples with these bits
abbrev samples : (count bits : ℕ) → List Float
samples n b = replicate n (sample b)

abbrev refused : (code : ℕ) → (samples : List Float) → (output : ℕ) → ℕ
refused c xs o = first (number_refusal c) (quantise_refusal (width c) xs o)

abbrev refused_by : (m r : ℕ) → (samples : List Float) → (output : ℕ) → ℕ
refused_by m r xs o = first (parameter_refusal m r) (quantise_refusal m xs o)

pub refusals :
    (refused 1 (samples 21 0x3f80_0000) 21 ≡ 0)
    × (refused 3 (samples 60 0x3f80_0000) 60 ≡ 0)
    × (refused 2 (samples 21 0x7f80_0000) 21 ≡ 0)  -- infinities are taken
    × (refused 0 (samples 20 0x3f80_0000) 20 ≡ 1)  -- the code comes first
    × (refused 5 (samples 60 0x3f80_0000) 60 ≡ 0)
    × (refused 6 (samples 21 0x3f80_0000) 21 ≡ 1)
    × (refused 1 (samples 7 0x7fc0_0000) 7 ≡ 2)  -- n samples, of n·m
    × (refused 3 (samples 21 0x3f80_0000) 60 ≡ 2)
    × (refused 1 (samples 21 0x7fc0_0000) 20 ≡ 4)  -- the lengths come before a NaN
    × (refused 1 (samples 21 0x7fc0_0000) 21 ≡ 7)
    × (refused 1 (sample 0xffff_ffff ∷ samples 20 0x3f80_0000) 21 ≡ 7)  -- another NaN's bits
    × (refused_by 4 4 (samples 60 0x3f80_0000) 60 ≡ 0)
    × (refused_by 3 6 (samples 21 0x3f80_0000) 21 ≡ 0)
    × (refused_by 5 9 (samples 20 0x3f80_0000) 20 ≡ 1)  -- m comes first
    × (refused_by 3 7 (samples 20 0x3f80_0000) 20 ≡ 16)  -- then r
    × (refused_by 4 3 (samples 20 0x3f80_0000) 20 ≡ 16)  -- or the product
    × (refused_by 4 4 (samples 21 0x3f80_0000) 60 ≡ 2)
unfolding quantise_refusal number_refusal parameter_refusal unless first has_nan code_good width long message_long bch_dimension configuration_long roots_good width_good row_long is_nan of_bits
refusals = (refl, refl, refl, refl, refl, refl, refl, refl, refl, refl, refl, refl, refl, refl, refl, refl, refl)
