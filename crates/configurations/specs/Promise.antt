-- What is promised of code 3's table. A statement is a type; its proof stands in proofs/Tabled.antt. Assumes nothing.
use Rattle.std.specs.Prelude.{◌≡◌, ℕ, ◌<◌}
use Rattle.tails.specs.Tails.{configuration}
use Rattle.configurations.specs.Configurations.{ValidTable, tuple, listed}

-- the list that the constant table is
unfoldable pub TableRight : Type 0
TableRight = ValidTable listed

-- what stands in it is what the generator yields for code 3, which `ConfiguredRight` of the crate tails is about
pub record Generated : Type 0 where
  pub each : (k : ℕ) → k < 256 → (b : ℕ) × (b < 256) × (configuration 4 2 b ≡ tuple k listed)
  pub all : (b : ℕ) → b < 256 → (k : ℕ) × (k < 256) × (tuple k listed ≡ configuration 4 2 b)

unfoldable pub TableGenerated : Type 0
TableGenerated = Generated
