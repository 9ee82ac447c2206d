-- The numbers of a code that was chosen. Assumes nothing: these are definitions.
use Rattle.std.specs.Prelude.{◌≡◌, true, ℕ, ◌^◌, ◌<◌}
use Rattle.field.specs.Field.{width_good}
use Rattle.code.specs.Code.{long, message_long, syndrome_long, accepted}
use Rattle.code.specs.Bits.{row_long}

-- m and r of a code that may be chosen, with the numbers that follow from them
pub record Numbers (m r n k bits q size : ℕ) : Type 0 where
  pub accepted_is : accepted m r ≡ true
  pub width_is : width_good m ≡ true
  pub few : r < long m
  pub n_is : n ≡ long m
  pub k_is : k ≡ message_long m r
  pub bits_is : bits ≡ row_long m
  pub q_is : q ≡ syndrome_long m r
  pub size_is : size ≡ 2 ^ q
