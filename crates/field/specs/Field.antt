-- The fields of 8 and of 16 elements (document 01, 'Codes and fields'): an element is a number below 2^m, bit j - 1 the coefficient of α^(j-1).
-- Assumes nothing: these are definitions.
use Rattle.std.specs.Prelude.{Bool, ◌&&◌, cond, ℕ, zero, suc, ◌+◌, ◌*◌, ◌/◌, ◌%◌, ◌^◌, ltb, leb, eqb}
use Rattle.std.specs.Int.Bits.{bit_xor}

-- m is 3 or 4
unfoldable pub width_good : (m : ℕ) → Bool
width_good m = leb 3 m && leb m 4

-- the sum of two elements: coefficient by coefficient, modulo 2
unfoldable pub xor : (a b : ℕ) → ℕ
xor a b = bit_xor a b

-- α times a: α is a zero of X³ + X + 1 for m = 3 and of X⁴ + X + 1 for m = 4
unfoldable pub doubled : (m a : ℕ) → ℕ
doubled m a = cond (ltb (2 * a) (2 ^ m)) (2 * a) (xor (2 * a) (2 ^ m + 3))

-- the product: the sum of α^j times a over the bits j of b
unfoldable pub times_from : (left m a b : ℕ) → ℕ
times_from zero m a b = 0
times_from (suc k) m a b = xor (cond (eqb (b % 2) 1) a 0) (times_from k m (doubled m a) (b / 2))

unfoldable pub times : (m a b : ℕ) → ℕ
times m a b = times_from m m a b

-- the powers of α
unfoldable pub alpha : (m e : ℕ) → ℕ
alpha m zero = 1
alpha m (suc e) = doubled m (alpha m e)

-- the element whose product with a is 1; the inverse of 0 is given as 0
unfoldable pub inverse_from : (left b : ℕ) → (m a : ℕ) → ℕ
inverse_from zero b m a = 0
inverse_from (suc k) b m a = cond (eqb (times m a b) 1) b (inverse_from k (suc b) m a)

unfoldable pub inverse : (m a : ℕ) → ℕ
inverse m a = inverse_from (2 ^ m) 0 m a

unfoldable pub square : (m a : ℕ) → ℕ
square m a = times m a a
