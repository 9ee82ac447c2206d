-- The numbers of a kind of word that holds items. Assumes nothing: these are definitions.
use Rattle.std.specs.Prelude.{ℕ, ◌^◌, ◌<◌, ◌≤◌}
use lib.Dec.{lit≤, lit<}

-- a word has room for its items, one at least, and an item fits an i16
pub record Fine (kind each base : ℕ) : Type 0 where
  pub kinds : kind < 16
  pub some : 0 < base
  pub small : base < 2 ^ 15
  pub holds : 0 < each
  pub few : each ≤ 28
  pub fits : base ^ each ≤ 2 ^ 28

-- three items of 8 bits, and six of 4
pub three : Fine 2 3 (2 ^ 8)
three = record { kinds = lit< tt; some = lit< tt; small = lit< tt; holds = lit< tt; few = lit≤ tt; fits = lit≤ tt }

pub six : Fine 3 6 (2 ^ 4)
six = record { kinds = lit< tt; some = lit< tt; small = lit< tt; holds = lit< tt; few = lit≤ tt; fits = lit≤ tt }
