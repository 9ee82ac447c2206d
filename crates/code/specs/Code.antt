-- The codes over (m, r): m bits to a symbol, roots α to α^r, n = 2^m - 1 symbols of which n - r are message (document 01, 'Codes and fields').
-- Assumes nothing: these are definitions.
use Rattle.std.specs.Prelude.{Bool, true, ◌&&◌, cond, List, [], ◌∷◌, ℕ, zero, suc, ◌+◌, ◌*◌, ◌-◌, ◌^◌, ltb, leb, eqb, length, drop}
use Rattle.field.specs.Field.{xor, times, alpha, width_good}
use Rattle.refusal.specs.Refusal.{unless}

-- the code numbers: 1 is (7, 5), 2 is (7, 3), 3 is (15, 13), 4 is (15, 11), 5 is (15, 9)
unfoldable pub code_good : (code : ℕ) → Bool
code_good c = leb 1 c && leb c 5

-- another number is refused by 1
unfoldable pub number_refusal : (code : ℕ) → ℕ
number_refusal c = unless (code_good c) 1 0

-- m of a code
unfoldable pub width : (code : ℕ) → ℕ
width c = cond (leb 3 c) 4 3

-- r of a code; any other number has some code's
unfoldable pub roots : (code : ℕ) → ℕ
roots c = cond (eqb c 2) 4 (cond (eqb c 4) 4 (cond (eqb c 5) 6 2))

-- n
unfoldable pub long : (m : ℕ) → ℕ
long m = 2 ^ m - 1

-- k
unfoldable pub message_long : (m r : ℕ) → ℕ
message_long m r = long m - r

-- the sum of c_i · α^(i·t), from position i on
unfoldable pub value_from : (m t i : ℕ) → (word : List ℕ) → ℕ
value_from m t i [] = 0
value_from m t i (c ∷ cs) = xor (times m c (alpha m (i * t))) (value_from m t (suc i) cs)

-- the value of a word at α^t
unfoldable pub value_at : (m t : ℕ) → (word : List ℕ) → ℕ
value_at m t ws = value_from m t 0 ws

-- the value is zero at α^t, α^(t+1), .., so many of them
unfoldable pub vanishes : (left t : ℕ) → (m : ℕ) → (word : List ℕ) → Bool
vanishes zero t m ws = true
vanishes (suc k) t m ws = eqb (value_at m t ws) 0 && vanishes k (suc t) m ws

-- every symbol is below 2^m
unfoldable pub symbols_good : (m : ℕ) → (word : List ℕ) → Bool
symbols_good m [] = true
symbols_good m (c ∷ cs) = ltb c (2 ^ m) && symbols_good m cs

-- n symbols whose value is zero at every root α to α^r
unfoldable pub is_codeword : (m r : ℕ) → (word : List ℕ) → Bool
is_codeword m r ws = (eqb (length ws) (long m) && symbols_good m ws) && vanishes r 1 m ws

-- the message occupies positions n - k to n - 1, lowest position first
unfoldable pub message : (r : ℕ) → (word : List ℕ) → List ℕ
message r ws = drop r ws

-- how many bits the syndrome of a binary word has: m for its value at α, from three roots on another m for that at α^3, and from five on, for
-- m = 4, two more for that at α^5
abbrev pub syndrome_long : (m r : ℕ) → ℕ
syndrome_long m r = m + (cond (leb 3 r) m 0 + cond (leb 5 r && eqb m 4) 2 0)

-- the dimension of the BCH code, whose words are the binary words with syndrome 0; `BchDimension` of the crate split says why
unfoldable pub bch_dimension : (m r : ℕ) → ℕ
bch_dimension m r = long m - syndrome_long m r

-- m times the difference of the dimensions of the Reed-Solomon and the BCH code
unfoldable pub configuration_long : (m r : ℕ) → ℕ
configuration_long m r = m * (message_long m r - bch_dimension m r)

-- r from 1 to 6, and the product at most 16
unfoldable pub roots_good : (m r : ℕ) → Bool
roots_good m r = (leb 1 r && leb r 6) && leb (configuration_long m r) 16

-- the codes that may be chosen
unfoldable pub accepted : (m r : ℕ) → Bool
accepted m r = width_good m && roots_good m r

-- by parameters: another m is refused by 1, then r or the product by 16
unfoldable pub parameter_refusal : (m r : ℕ) → ℕ
parameter_refusal m r = unless (width_good m) 1 (unless (roots_good m r) 16 0)
