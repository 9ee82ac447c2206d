-- Layers, syndromes, valid configurations and coset leaders over (m, r), for r from 1 to 6 (document 01, 'Split'; document 02, CR 3).
-- Layers and places of a configuration are counted from 0 here, so layer j is document 01's layer j + 1, and γ_(j+1) is α^j.
-- Assumes nothing: these are definitions.
use Rattle.std.specs.Prelude.{◌≡◌, Bool, true, ◌&&◌, cond, List, [], ◌∷◌, ◌++◌, ℕ, zero, suc, ◌+◌, ◌*◌, ◌-◌, ◌/◌, ◌%◌, ◌^◌, ◌≤◌, leb, ltb, eqb, length, drop, replicate}
use Rattle.field.specs.Field.{xor, times, alpha, square}
use Rattle.code.specs.Code.{long, value_at, syndrome_long}

-- a layer is a binary word: the bits of weight 2^j
unfoldable pub layer : (j : ℕ) → (word : List ℕ) → List ℕ
layer j [] = []
layer j (c ∷ cs) = (c / 2 ^ j % 2) ∷ layer j cs

-- at α^5 a binary word has, for m = 4, one of the values 0, 1, α^5, α^10 (the field of 4): numbered 0 to 3, and back
unfoldable pub number : (value : ℕ) → ℕ
number v = v % 2 + 2 * (v / 4 % 2)

unfoldable pub numbered : (number : ℕ) → ℕ
numbered d = d % 2 + 6 * (d / 2)

-- the syndrome of a binary word: its value at α; from three roots on with that at α^3, first + 2^m × second;
-- from five on, for m = 4, with the number of that at α^5
unfoldable pub syndrome : (m r : ℕ) → (binary : List ℕ) → ℕ
syndrome m r bs =
    value_at m 1 bs
    + 2 ^ m * (cond (leb 3 r) (value_at m 3 bs) 0 + 2 ^ m * cond (leb 5 r && eqb m 4) (number (value_at m 5 bs)) 0)

-- what a 1 at position i adds to the syndrome: a column of the BCH code's parity checks
unfoldable pub column : (m r i : ℕ) → ℕ
column m r i =
    alpha m (i * 1) + 2 ^ m * (cond (leb 3 r) (alpha m (i * 3)) 0 + 2 ^ m * cond (leb 5 r && eqb m 4) (number (alpha m (i * 5))) 0)

-- the sum of the columns of the 1 bits, from position i on
unfoldable pub columns_from : (m r i : ℕ) → (binary : List ℕ) → ℕ
columns_from m r i [] = 0
columns_from m r i (b ∷ bs) = xor (cond (eqb b 0) 0 (column m r i)) (columns_from m r (suc i) bs)

-- how many syndromes there are, and so cosets: a syndrome is a number below this
unfoldable pub cosets : (m r : ℕ) → ℕ
cosets m r = 2 ^ syndrome_long m r

-- the tuple of syndromes of a word's layers
unfoldable pub syndromes_from : (left j : ℕ) → (m r : ℕ) → (word : List ℕ) → List ℕ
syndromes_from zero j m r ws = []
syndromes_from (suc k) j m r ws = syndrome m r (layer j ws) ∷ syndromes_from k (suc j) m r ws

unfoldable pub syndromes : (m r : ℕ) → (word : List ℕ) → List ℕ
syndromes m r ws = syndromes_from m 0 m r ws

-- with m = 3 any fourth place is 0
unfoldable pub padded : (tuple : List ℕ) → List ℕ
padded ss = ss ++ replicate (4 - length ss) 0

-- a layer's value at α^t from its syndrome: at α^2 and α^4 the square and the fourth power of that at α; at α^6 the square
-- of that at α^3; at α^5, for m = 3, the fourth power of that at α^3, since α^12 = α^5
unfoldable pub layer_value : (m t s : ℕ) → ℕ
layer_value m t s =
    let a = s % 2 ^ m in
    let b = s / 2 ^ m % 2 ^ m in
    let d = s / 2 ^ m / 2 ^ m in
    cond (eqb t 1) a
    (cond (eqb t 2) (square m a)
    (cond (eqb t 3) b
    (cond (eqb t 4) (square m (square m a)) (cond (eqb t 5) (cond (eqb m 4) (numbered d) (square m (square m b))) (square m b)))))

-- the sum of γ_j times the layer's value at α^t
unfoldable pub glued : (j : ℕ) → (m t : ℕ) → (configuration : List ℕ) → ℕ
glued j m t [] = 0
glued j m t (s ∷ ss) = xor (times m (alpha m j) (layer_value m t s)) (glued (suc j) m t ss)

-- the sum is zero at α^t, α^(t+1), .., so many of them
unfoldable pub valid_at : (left t : ℕ) → (m : ℕ) → (configuration : List ℕ) → Bool
valid_at zero t m ss = true
valid_at (suc k) t m ss = eqb (glued 0 m t ss) 0 && valid_at k (suc t) m ss

-- a configuration is valid when the sum is zero at every root
unfoldable pub valid : (m r : ℕ) → (configuration : List ℕ) → Bool
valid m r ss = valid_at r 1 m ss

-- each number is below a bound
unfoldable pub all_below : (bound : ℕ) → List ℕ → Bool
all_below n [] = true
all_below n (x ∷ xs) = ltb x n && all_below n xs

-- a tuple of m syndromes that is valid
pub record Configuration (m r : ℕ) (ss : List ℕ) : Type 0 where
  pub count : length ss ≡ m
  pub syndromes : all_below (cosets m r) ss ≡ true
  pub is_valid : valid m r ss ≡ true

-- a binary word of the code's length
pub record Binary (m : ℕ) (bs : List ℕ) : Type 0 where
  pub count : length bs ≡ long m
  pub bits : all_below 2 bs ≡ true

unfoldable pub weight : (binary : List ℕ) → ℕ
weight [] = 0
weight (b ∷ bs) = b + weight bs

-- a binary word as a number, position i weighing 2^i
unfoldable pub word_number : (binary : List ℕ) → ℕ
word_number [] = 0
word_number (b ∷ bs) = b + 2 * word_number bs

-- the leader of a coset is its member of least weight, and of those tied in weight the one with the smallest number
pub record Leader (m r s : ℕ) (bs : List ℕ) : Type 0 where
  pub binary : Binary m bs
  pub of_coset : syndrome m r bs ≡ s
  pub least : (ds : List ℕ) → Binary m ds → syndrome m r ds ≡ s → weight bs ≤ weight ds
  pub first : (ds : List ℕ) → Binary m ds → syndrome m r ds ≡ s → weight ds ≡ weight bs → word_number bs ≤ word_number ds

-- a BCH word that ends in these bits
pub record BchEnding (m r : ℕ) (ds bs : List ℕ) : Type 0 where
  pub binary : Binary m bs
  pub of_code : syndrome m r bs ≡ 0
  pub ends : drop (syndrome_long m r) bs ≡ ds

-- the sum of two binary words
unfoldable pub sum : (bs ds : List ℕ) → List ℕ
sum [] ds = []
sum (b ∷ bs) [] = []
sum (b ∷ bs) (d ∷ ds) = xor b d ∷ sum bs ds
