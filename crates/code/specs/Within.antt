-- What the functions for the crates above ask of their inputs. Assumes nothing: these are definitions.
use Rattle.std.specs.Prelude.{◌≡◌, true, List, ℕ, ◌+◌, ◌^◌, ◌≤◌, ◌<◌, length, drop}
use Rattle.field.specs.Field.{width_good}
use Rattle.code.specs.declared.shape.Shape.{Shape}
use Rattle.code.specs.Code.{long, message_long, symbols_good, is_codeword, message}
use Rattle.code.specs.Numbers.{Numbers}

-- the numbers of a code that was chosen follow from its m and r: every code keeps this
abbrev pub Coded : Shape → Type 0
Coded s = Numbers s.m s.r s.n s.k s.bits s.q s.size

-- a word of n symbols below 2^m, and a number of roots, or the exponent of one, below n
pub record WordWithin (m r : ℕ) (ws : List ℕ) : Type 0 where
  pub width : width_good m ≡ true
  pub count : length ws ≡ long m
  pub symbols : symbols_good m ws ≡ true
  pub few : r < long m

-- symbols below 2^m, and a point of the field or a number of roots
pub record PartWithin (m x : ℕ) (ws : List ℕ) : Type 0 where
  pub width : width_good m ≡ true
  pub point : x < 2 ^ m
  pub symbols : symbols_good m ws ≡ true

-- a point of the field, and a place with symbols below 2^m after it
pub record PlaceWithin (m x at : ℕ) (ws : List ℕ) : Type 0 where
  pub width : width_good m ≡ true
  pub point : x < 2 ^ m
  pub room : at < length ws
  pub symbols : symbols_good m (drop (at + 1) ws) ≡ true

-- r places with symbols below 2^m after them
pub record QuotientWithin (m r : ℕ) (ws : List ℕ) : Type 0 where
  pub width : width_good m ≡ true
  pub few : r < 2 ^ m
  pub room : r ≤ length ws
  pub symbols : symbols_good m (drop r ws) ≡ true

-- a message of k symbols below 2^m, and an output of n
pub record MessageWithin (m r : ℕ) (ms : List ℕ) (output : ℕ) : Type 0 where
  pub width : width_good m ≡ true
  pub few : r < long m
  pub count : length ms ≡ message_long m r
  pub room : output ≡ long m
  pub symbols : symbols_good m ms ≡ true

-- a codeword with its message
pub record Carries (m r : ℕ) (ms ws : List ℕ) : Type 0 where
  pub codeword : is_codeword m r ws ≡ true
  pub carried : message r ws ≡ ms
