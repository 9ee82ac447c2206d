-- What is promised of the table of columns. Assumes nothing: these are definitions.
use Rattle.std.specs.Prelude.{◌≡◌, List, ℕ, ◌<◌, get_or}
use Rattle.code.specs.Code.{long}
use Rattle.split.specs.Split.{column}

-- the columns of six roots, for each position
pub record Columns (m : ℕ) (table : List ℕ) : Type 0 where
  pub each : (i : ℕ) → i < long m → get_or table i 0 ≡ column m 6 i
