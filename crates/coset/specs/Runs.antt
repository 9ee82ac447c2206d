-- How the coset search goes: a column in place by pairs of rows, the tails by doubling, rows of keys and tables kept; what the calls ask, and what
-- they leave. Assumes nothing: these are definitions.
use Rattle.std.specs.Prelude.{◌≡◌, List, ℕ, suc, ◌+◌, ◌-◌, ◌*◌, ◌/◌, ◌%◌, ◌^◌, ◌≤◌, ◌<◌, min, ℤ, pos, length, get_or}
use Rattle.field.specs.Field.{xor}
use Rattle.lanes.specs.Lanes.{entry, lane, lanes, row, put}
use Rattle.rows.specs.Rows.{sum, less, limit, Sums}
use Rattle.trellis.specs.Rows.{front}
use Rattle.coset.specs.Coset.{Keys}

-- ONE COLUMN IN PLACE: the first of the pair of rows that v is in
abbrev pub leader : (h v : ℕ) → ℕ
leader h v = min v (xor v h)

-- in one layer, the pairs whose first row is in from, .., to - 1 are done, and the others are as they were
pub record Ran (h z o size from to : ℕ) (T T' : ℕ → ℕ) : Type 0 where
  pub done : (v : ℕ) → v < size → from ≤ leader h v → leader h v < to → T' v ≡ min (T v + z) (T (xor v h) + o)
  pub before : (v : ℕ) → v < size → leader h v < from → T' v ≡ T v
  pub after : (v : ℕ) → v < size → to ≤ leader h v → T' v ≡ T v

-- in four layers
abbrev pub RanRows : (h size from to : ℕ) → (z o t t' : List ℕ) → Type 0
RanRows h size from to z o t t' = (j : ℕ) → j < 4 → Ran h (lane z j) (lane o j) size from to (front t j) (front t' j)

-- what a pair of rows s and u asks, where sums stay below l, and what it leaves
pub record Pair (l : ℕ) (t : List ℕ) (s u : ℕ) (z o : List ℕ) : Type 0 where
  pub s_in : s * 4 + 4 ≤ length t
  pub u_in : u * 4 + 4 ≤ length t
  pub s_z : Sums l (row t s) z
  pub s_o : Sums l (row t s) o
  pub u_z : Sums l (row t u) z
  pub u_o : Sums l (row t u) o

abbrev pub paired : (t : List ℕ) → (s u : ℕ) → (z o : List ℕ) → List ℕ
paired t s u z o = put (put t s (less (sum (row t s) z) (sum (row t u) o))) u (less (sum (row t u) z) (sum (row t s) o))

-- what a run of pairs asks: the column leads up from each of its rows
pub record Run (l h size from to : ℕ) (t z o : List ℕ) : Type 0 where
  pub q : ℕ
  pub size_is : size ≡ 2 ^ q
  pub inside : h < size
  pub long : length t ≡ size * 4
  pub order : from ≤ to
  pub to_in : to ≤ size
  pub up : (s : ℕ) → from ≤ s → s < to → s < xor s h
  pub room : (s j : ℕ) → s < size → from ≤ leader h s → j < 4 → (entry t s j + lane z j < l) × (entry t s j + lane o j < l)

-- the highest bit of h
pub record Top (h r : ℕ) : Type 0 where
  pub e : ℕ
  pub power : r ≡ 2 ^ e
  pub low : r ≤ h
  pub high : h < 2 ^ suc e

-- THE TAILS BY DOUBLING: every row of the first half gives one of the second
pub record Double (half : ℕ) (g z o : List ℕ) : Type 0 where
  pub inside : (half + half) * 4 ≤ length g
  pub even : half % 2 ≡ 0
  pub room : (s j : ℕ) → s < half → j < 4 → (entry g s j + lane z j < 2 ^ 15) × (entry g s j + lane o j < 2 ^ 15)

-- the first n rows of the first half are done
pub record Doubled (half n : ℕ) (z o g g' : List ℕ) : Type 0 where
  pub long : length g' ≡ length g
  pub zeros : (s j : ℕ) → s < n → j < 4 → entry g' s j ≡ entry g s j + lane z j
  pub ones : (s j : ℕ) → s < n → j < 4 → entry g' (half + s) j ≡ entry g s j + lane o j
  pub left : (s j : ℕ) → n ≤ s → s < half → j < 4 → entry g' s j ≡ entry g s j

-- KEYS: a row of costs with the number `low` behind each
unfoldable pub keyed : (r : List ℕ) → (low : ℕ) → List ℕ
keyed r low = lanes (λ j. lane r j * 65536 + low)

abbrev pub Keyable : (r : List ℕ) → (low : ℕ) → Type 0
Keyable r low = (j : ℕ) → j < 4 → lane r j * 65536 + low < limit

-- what `key_tails` asks, and what it leaves: the first n rows have their own numbers behind their costs
pub record Tails (size : ℕ) (g t : List ℕ) : Type 0 where
  pub length_g : length g ≡ size * 4
  pub length_t : length t ≡ size * 4
  pub short : size ≤ 2 ^ 15
  pub room : (s j : ℕ) → s < size → j < 4 → entry g s j < 2 ^ 15

pub record Numbered (g : List ℕ) (n : ℕ) (t : List ℕ) : Type 0 where
  pub long : length t ≡ length g
  pub keys : (s j : ℕ) → s < n → j < 4 → entry t s j ≡ entry g s j * 65536 + s

-- what position i asks: the keys behind it, and what a 1 there weighs
pub record Behind (q size : ℕ) (hs zs os : List ℕ) (i bit : ℕ) (t : List ℕ) : Type 0 where
  pub inside : i + q < length hs
  pub bit_is : bit ≡ 2 ^ (length hs - suc i)
  pub keys : Keys size hs zs os (suc i) t

-- the costs of the first n keys are kept, from place `at` on
pub record Copied (t : List ℕ) (at n : ℕ) (kept kept' : List ℤ) : Type 0 where
  pub long : length kept' ≡ length kept
  pub here : (k : ℕ) → k < n → get_or kept' (at + k) (pos 0) ≡ pos (get_or t k 0 / 65536)
  pub rest : (k : ℕ) → at + n ≤ k → get_or kept' k (pos 0) ≡ get_or kept k (pos 0)

-- the table of position i is kept, where i is not 0, and those behind it still are
pub record Keeps (i : ℕ) (t : List ℕ) (kept kept' : List ℤ) : Type 0 where
  pub long : length kept' ≡ length kept
  pub here : (k : ℕ) → 0 < i → k < length t → get_or kept' ((i - 1) * length t + k) (pos 0) ≡ pos (get_or t k 0 / 65536)
  pub rest : (k : ℕ) → i * length t ≤ k → get_or kept' k (pos 0) ≡ get_or kept k (pos 0)

-- A TABLE KEPT comes back: what `restore` asks of the numbers, and what it leaves of the first n
pub record Cost (x : ℤ) : Type 0 where
  pub value : ℕ
  pub is : x ≡ pos value
  pub small : value < 2 ^ 15

pub record Restore (g : List ℕ) (kept : List ℤ) : Type 0 where
  pub inside : length g ≤ length kept
  pub costs : (k : ℕ) → k < length g → Cost (get_or kept k (pos 0))

pub record Restored (kept : List ℤ) (n : ℕ) (g g' : List ℕ) : Type 0 where
  pub long : length g' ≡ length g
  pub same : (k : ℕ) → k < n → pos (get_or g' k 0) ≡ get_or kept k (pos 0)
