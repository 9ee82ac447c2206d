-- The bits of a word: layer j at position i has bit number i·m + (j - 1) (document 01, 'Codes and fields'). Assumes nothing: these are definitions.
use Rattle.std.specs.Prelude.{List, [], ◌∷◌, ◌++◌, ℕ, zero, suc, ◌*◌, ◌/◌, ◌%◌, get_or}
use Rattle.code.specs.Code.{long}

-- the bits of a symbol, that of layer 1 first
unfoldable pub bits_of : (m : ℕ) → (symbol : ℕ) → List ℕ
bits_of zero c = []
bits_of (suc k) c = (c % 2) ∷ bits_of k (c / 2)

-- the bits of a word, in bit order
unfoldable pub all_bits : (m : ℕ) → (word : List ℕ) → List ℕ
all_bits m [] = []
all_bits m (c ∷ cs) = bits_of m c ++ all_bits m cs

unfoldable pub bit_at : (m b : ℕ) → (word : List ℕ) → ℕ
bit_at m b ws = get_or (all_bits m ws) b 0

-- n · m: how many bits a word has, and how long a row is
unfoldable pub row_long : (m : ℕ) → ℕ
row_long m = long m * m
