-- What the functions that compute a word's metric ask. No call offered to callers cites these. Assumes nothing: these are definitions.
use Rattle.std.specs.Prelude.{◌≡◌, true, List, ℕ, ◌*◌, ◌≤◌, length, ℤ, nat_abs}
use Rattle.field.specs.Field.{width_good}
use Rattle.metric.specs.Row.{row_bound, row_good}

-- a row for words of so many symbols
pub record WordWith (m : ℕ) (row : List ℤ) (long : ℕ) : Type 0 where
  pub width : width_good m ≡ true
  pub count : length row ≡ long * m
  pub few : length row ≤ 60
  pub good : row_good row_bound row ≡ true

-- a row that begins with a symbol's entries, and the metric of what follows them
pub record SymbolMore (m : ℕ) (row : List ℤ) (sum : ℤ) : Type 0 where
  pub width : m ≤ 4
  pub count : m ≤ length row
  pub good : row_good row_bound row ≡ true
  pub small : nat_abs sum ≤ 7620
