-- How the soft pass goes: a column in place by pairs of rows, halves laid on each other, the costs of the tails added; what the calls ask, and what
-- they leave. Assumes nothing: these are definitions.
use Rattle.std.specs.Prelude.{◌≡◌, List, ℕ, ◌+◌, ◌-◌, ◌*◌, ◌%◌, ◌≤◌, ◌<◌, min, ℤ, length}
use Rattle.lanes.specs.Lanes.{entry, row, limit}
use Rattle.rows.specs.Rows.{sum, less, Sums}
use Rattle.coset.specs.Coset.{Kept}
use Rattle.coset.specs.Runs.{paired}

-- two rows that differ by a column: what `advance_rows` asks, and what it leaves
pub record AdvanceRows (a t : List ℕ) (s u : ℕ) (z o : List ℕ) : Type 0 where
  pub s_in : s * 4 + 4 ≤ length a
  pub u_in : u * 4 + 4 ≤ length a
  pub s_behind : s * 4 + 4 ≤ length t
  pub u_behind : u * 4 + 4 ≤ length t
  pub s_z : Sums limit (sum (row a s) z) (row t s)
  pub u_z : Sums limit (sum (row a u) z) (row t u)
  pub u_o : Sums limit (sum (row a u) o) (row t s)
  pub s_o : Sums limit (sum (row a s) o) (row t u)

pub record AdvancedRows (a t : List ℕ) (s u : ℕ) (z o zero one to zero' one' : List ℕ) : Type 0 where
  pub next : to ≡ paired a s u z o
  pub zero_is : zero' ≡ less zero (less (sum (sum (row a s) z) (row t s)) (sum (sum (row a u) z) (row t u)))
  pub one_is : one' ≡ less one (less (sum (sum (row a u) o) (row t s)) (sum (sum (row a s) o) (row t u)))

-- row u laid on row s: what `fold_rows` asks
pub record FoldRows (a : List ℕ) (s u : ℕ) : Type 0 where
  pub s_in : s * 4 + 4 ≤ length a
  pub u_in : u * 4 + 4 ≤ length a

-- what `fold` asks
pub record Fold (half : ℕ) (a : List ℕ) : Type 0 where
  pub inside : (half + half) * 4 ≤ length a

-- what `add` asks
pub record Add (size : ℕ) (a g : List ℕ) : Type 0 where
  pub even : size % 2 ≡ 0
  pub length_a : size * 4 ≤ length a
  pub length_g : size * 4 ≤ length g
  pub room : (s j : ℕ) → s < size → j < 4 → entry a s j + entry g s j < limit

-- the first n rows are as a rule says, and the others as they were
pub record Made (rule : ℕ → ℕ → ℕ) (n : ℕ) (a to : List ℕ) : Type 0 where
  pub long : length to ≡ length a
  pub made : (s j : ℕ) → s < n → j < 4 → entry to s j ≡ rule s j
  pub left : (s j : ℕ) → n ≤ s → j < 4 → entry to s j ≡ entry a s j

-- the rules of `fold` and of `add`
abbrev pub laid : (half : ℕ) → (a : List ℕ) → (s j : ℕ) → ℕ
laid half a s j = min (entry a s j) (entry a (half + s) j)

abbrev pub added : (a g : List ℕ) → (s j : ℕ) → ℕ
added a g s j = entry a s j + entry g s j

-- what `behind` asks: a head, the tables kept, and room for a table
pub record Behind (q size i : ℕ) (hs zs os : List ℕ) (kept : List ℤ) (g : List ℕ) : Type 0 where
  pub tables : Kept q size hs zs os kept
  pub inside : i < length hs - q
  pub length_kept : (length hs - q - 1) * (size * 4) ≤ length kept
  pub length_g : length g ≡ size * 4
