-- What the functions for the crates above ask: numbers that are known to be elements. Assumes nothing: these are definitions.
use Rattle.std.specs.Prelude.{◌≡◌, true, List, ℕ, ◌-◌, ◌^◌, ◌<◌, length, get_or}
use Rattle.field.specs.Field.{width_good, alpha}

pub record Elements (m a b : ℕ) : Type 0 where
  pub width : width_good m ≡ true
  pub first : a < 2 ^ m
  pub second : b < 2 ^ m

pub record Inside (m a : ℕ) : Type 0 where
  pub width : width_good m ≡ true
  pub inside : a < 2 ^ m

pub record Nonzero (m a : ℕ) : Type 0 where
  pub width : width_good m ≡ true
  pub inside : a < 2 ^ m
  pub positive : 0 < a

-- e is the least exponent at which α has the value a
pub record Log (m a e : ℕ) : Type 0 where
  pub small : e < 2 ^ m - 1
  pub power : alpha m e ≡ a

-- the tables of the field over m: the exponents of the elements from 1 on, and the powers of α from exponent 0
pub record Tables (m : ℕ) (logs antilogs : List ℕ) : Type 0 where
  pub width : width_good m ≡ true
  pub logs_long : length logs ≡ 2 ^ m
  pub antilogs_long : length antilogs ≡ 2 ^ m - 1
  pub log_at : (a : ℕ) → 0 < a → a < 2 ^ m → Log m a (get_or logs a 0)
  pub antilog_at : (e : ℕ) → e < 2 ^ m - 1 → get_or antilogs e 0 ≡ alpha m e
