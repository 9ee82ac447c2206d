-- Sums of a table's numbers, which tails and spots name too. Then the members of a coset as numbers and the least of them, for the promises of the
-- leader's parts: no promise of a call cites these, and proofs/Leaders.antt shows that they give the leader. Assumes nothing: these are definitions.
use Rattle.std.specs.Prelude.{cond, List, [], ◌∷◌, ℕ, zero, suc, ◌+◌, ◌*◌, ◌/◌, ◌%◌, ◌^◌, min, eqb, length}
use Rattle.std.specs.Int.Count.{ones}
use Rattle.field.specs.Field.{xor}

-- a number of a table where the lowest bit of k is 1
abbrev pub where_odd : (k number : ℕ) → ℕ
where_odd k h = cond (eqb (k % 2) 0) 0 h

-- the sum of the numbers of a table at the 1 bits of k
unfoldable pub picked : (table : List ℕ) → (k : ℕ) → ℕ
picked [] k = 0
picked (h ∷ hs) k = xor (where_odd k h) (picked hs (k / 2))

-- by weight, and then by number
unfoldable pub rank : (number : ℕ) → ℕ
rank x = 32768 * ones x + x

-- the least rank of a word and of its sums with so many BCH words
unfoldable pub least_rank : (rows : List ℕ) → (word : ℕ) → (many : ℕ) → ℕ
least_rank rs x zero = rank x
least_rank rs x (suc k) = min (least_rank rs x k) (rank (xor x (picked rs k)))

-- the first member of coset s
unfoldable pub foremost : (heads rows : List ℕ) → (s : ℕ) → ℕ
foremost hs rs s = least_rank rs (picked hs s) (2 ^ length rs) % 32768
