-- The laws of the fields, each once over m. A statement is a type; its proof stands in proofs/Laws.antt. Assumes nothing.
use Rattle.std.specs.Prelude.{◌≡◌, true, false, ℕ, ◌+◌, ◌-◌, ◌^◌, ◌<◌, eqb}
use Rattle.field.specs.Field.{width_good, xor, times, alpha, inverse, square}

-- the laws of three elements of the field over m
pub record FieldLaws (m a b d : ℕ) : Type 0 where
  pub sum_inside : xor a b < 2 ^ m
  pub sum_commutes : xor a b ≡ xor b a
  pub sum_associates : xor a (xor b d) ≡ xor (xor a b) d
  pub sum_neutral : xor 0 a ≡ a
  pub sum_opposite : xor a a ≡ 0
  pub product_inside : times m a b < 2 ^ m
  pub product_commutes : times m a b ≡ times m b a
  pub product_associates : times m a (times m b d) ≡ times m (times m a b) d
  pub product_neutral : times m 1 a ≡ a
  pub distributes : times m a (xor b d) ≡ xor (times m a b) (times m a d)
  pub inverse_inside : inverse m a < 2 ^ m
  pub inverse_right : eqb a 0 ≡ false → times m a (inverse m a) ≡ 1
  pub inverse_of_zero : inverse m 0 ≡ 0
  pub no_zero_divisors : times m a b ≡ 0 → eqb a 0 ≡ false → b ≡ 0
  pub square_of_sum : square m (xor a b) ≡ xor (square m a) (square m b)

unfoldable pub Fields : Type 0
Fields = (m a b d : ℕ) → width_good m ≡ true → a < 2 ^ m → b < 2 ^ m → d < 2 ^ m → FieldLaws m a b d

-- powers of α add in the exponent; α^(2^m - 1) = 1, and no smaller positive power is 1
pub record PowerLaws (m : ℕ) : Type 0 where
  pub inside : (e : ℕ) → alpha m e < 2 ^ m
  pub add : (d e : ℕ) → alpha m (d + e) ≡ times m (alpha m d) (alpha m e)
  pub whole_turn : alpha m (2 ^ m - 1) ≡ 1
  pub no_less : (e : ℕ) → 0 < e → e < 2 ^ m - 1 → eqb (alpha m e) 1 ≡ false

unfoldable pub Powers : Type 0
Powers = (m : ℕ) → width_good m ≡ true → PowerLaws m
