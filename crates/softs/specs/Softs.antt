-- What the writing of soft outputs asks and leaves. A reader need not believe these definitions. Assumes nothing: these are definitions.
use Rattle.std.specs.Prelude.{◌≡◌, true, List, ℕ, ◌+◌, ◌*◌, ◌^◌, ◌<◌, ◌≤◌, length, get_or, ℤ, pos, ◌-ℤ◌}
use Rattle.field.specs.Field.{width_good}
use Rattle.lanes.specs.Lanes.{entry, lane}

-- soft output i * m + j from the least costs
abbrev pub soft_of : (zero one : List ℕ) → (i j : ℕ) → ℤ
soft_of zs os i j = pos (2 * entry os i j) -ℤ pos (2 * entry zs i j)

-- what `soft_rows` asks: costs whose doubles differ by a number of sixteen signed bits
pub record SoftsWithin (m n : ℕ) (zero one : List ℕ) (soft : List ℤ) : Type 0 where
  pub width : width_good m ≡ true
  pub length_zero : length zero ≡ n * 4
  pub length_one : length one ≡ n * 4
  pub length_soft : length soft ≡ n * m
  pub small : (i j : ℕ) → i < n → j < m → (entry zero i j < 2 ^ 14) × (entry one i j < 2 ^ 14)

-- the soft outputs of the first n positions are written
pub record Softened (m : ℕ) (zero one : List ℕ) (n : ℕ) (before soft : List ℤ) : Type 0 where
  pub long : length soft ≡ length before
  pub done : (i j : ℕ) → i < n → j < m → get_or soft (i * m + j) (pos 0) ≡ soft_of zero one i j

-- one position's soft outputs, from two rows, at a place
pub record SoftWithin (m at : ℕ) (z o : List ℕ) (soft : List ℤ) : Type 0 where
  pub width : width_good m ≡ true
  pub fits : at + m ≤ length soft
  pub small : (j : ℕ) → j < m → (lane z j < 2 ^ 14) × (lane o j < 2 ^ 14)

pub record SoftWritten (m at : ℕ) (z o : List ℕ) (before soft : List ℤ) : Type 0 where
  pub long : length soft ≡ length before
  pub done : (j : ℕ) → j < m → get_or soft (at + j) (pos 0) ≡ pos (2 * lane o j) -ℤ pos (2 * lane z j)
  pub kept : (i : ℕ) → i < at → get_or soft i (pos 0) ≡ get_or before i (pos 0)
