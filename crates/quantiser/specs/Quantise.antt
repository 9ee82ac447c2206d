-- One sample quantised (document 01, 'Metric and soft output'). A finite sample is m · 2^e, negative where s is true, with whole numbers m and e,
-- and 2^e is the fraction up e / down e. Assumes nothing: these are definitions.
use Rattle.std.specs.Prelude.{Bool, true, false, ℕ, ◌+◌, ◌*◌, ◌/◌, min, ℤ, pos, neg_ℤ, Float}
use Rattle.std.specs.Float.{nan, inf, fin}
use Rattle.std.specs.Float.Ieee.{up, down}

-- the whole number nearest to a / b, a half going up
abbrev pub nearest : (a b : ℕ) → ℕ
nearest a b = (2 * a + b) / (2 * b)

-- 'then clipped to -127 or 127'
abbrev pub clip : ℕ
clip = 127

-- a size with its sign: where a half goes up in size, it goes away from zero
abbrev pub signed : (negative : Bool) → (size : ℕ) → ℤ
signed false n = pos n
signed true n = neg_ℤ (pos n)

-- t times a sample, to the nearest whole number, halves away from zero, then clipped; infinities are clipped
unfoldable pub rounded : (t : ℕ) → Float → ℤ
rounded t (fin s m e) = signed s (min (nearest (t * m * up e) (down e)) clip)
rounded t (inf s) = signed s clip
rounded t nan = pos 0  -- never an answer: a NaN is refused

-- 'the nearest whole number to 32 times it, halves away from zero, then clipped'
unfoldable pub quantised : Float → ℤ
quantised x = rounded 32 x
