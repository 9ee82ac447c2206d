-- The scratch that decoder and marker are lent (document 02, CR 3): 16,384 signed 32-bit numbers, all zero after an accepted call.
-- Assumes nothing: these are definitions.
use Rattle.std.specs.Prelude.{List, ℕ, ℤ, pos, replicate}

abbrev pub scratch_long : ℕ
scratch_long = 16384

-- all zero
abbrev pub cleared : List ℤ
cleared = replicate scratch_long (pos 0)
