-- What is promised of metrics, over a set of words. A statement is a type; proofs/Promise.antt names the proof of each. Assumes nothing.
use Rattle.std.specs.Prelude.{◌≡◌, Bool, true, cond, List, map, ◌↔◌, ℕ, ◌*◌, ◌≤◌, ◌<◌, length, get_or, ℤ, pos, negsuc, ◌-ℤ◌}
use Rattle.std.proofs.Math.Option.{none, some}
use Rattle.field.specs.Field.{width_good}
use Rattle.code.specs.Code.{long, symbols_good, is_codeword}
use Rattle.code.specs.Bits.{all_bits, bit_at, row_long}
use Rattle.metric.specs.Row.{row_bound, row_good}
use Rattle.metric.specs.Metric.{metric, at_most, Greatest, GreatestWith, Soft, Decoded, Marked, decided}
use Rattle.metric.specs.Right.{SoftRight, DecodedRight, MarkedRight}

-- what greatest metrics need to be there: the words have a bit for each entry of the row, and at each some have 0 and some have 1
pub record WordsFor (m : ℕ) (among : List ℕ → Bool) (rs : List ℤ) : Type 0 where
  pub count : ℕ
  pub row : length rs ≡ count * m
  pub words : (ws : List ℕ) → among ws ≡ true → (length ws ≡ count) × (symbols_good m ws ≡ true)
  pub some : (ws : List ℕ) × (among ws ≡ true)
  pub both : (b v : ℕ) → b < length rs → v < 2 → (ws : List ℕ) × (among ws ≡ true) × (bit_at m b ws ≡ v)

-- the codewords do
unfoldable pub CodewordsFor : Type 0
CodewordsFor = (m r : ℕ) (rs : List ℤ) → width_good m ≡ true → r < long m → length rs ≡ row_long m → WordsFor m (is_codeword m r) rs

-- a row has a greatest metric, and one of each value at a bit
unfoldable pub GreatestThere : Type 0
GreatestThere = (m : ℕ) (among : List ℕ → Bool) (rs : List ℤ) → WordsFor m among rs → (g : ℤ) × Greatest m among rs g

unfoldable pub GreatestWithThere : Type 0
GreatestWithThere =
    (m : ℕ) (among : List ℕ → Bool) (rs : List ℤ) (b v : ℕ) → WordsFor m among rs → b < length rs → v < 2 → (g : ℤ) × GreatestWith m among rs b v g

-- and only one
unfoldable pub GreatestOne : Type 0
GreatestOne = (m : ℕ) (among : List ℕ → Bool) (rs : List ℤ) (g h : ℤ) → Greatest m among rs g → Greatest m among rs h → g ≡ h

unfoldable pub GreatestWithOne : Type 0
GreatestWithOne =
    (m : ℕ) (among : List ℕ → Bool) (rs : List ℤ) (b v : ℕ) (g h : ℤ) → GreatestWith m among rs b v g → GreatestWith m among rs b v h → g ≡ h

-- soft outputs stay within -15,240 .. 15,240: no row is longer than 60
unfoldable pub SoftWidth : Type 0
SoftWidth =
    (m : ℕ) (among : List ℕ → Bool) (rs : List ℤ) (b : ℕ) (g h : ℤ) → length rs ≤ 60 → row_good row_bound rs ≡ true →
    GreatestWith m among rs b 0 g → GreatestWith m among rs b 1 h →
    (at_most (g -ℤ h) (pos 15240) ≡ true) × (at_most (negsuc 15239) (g -ℤ h) ≡ true)

-- the best metric is the greater of the two at any bit
unfoldable pub BestOfTwo : Type 0
BestOfTwo =
    (m : ℕ) (among : List ℕ → Bool) (rs : List ℤ) (b : ℕ) (e g h : ℤ) → Greatest m among rs e → GreatestWith m among rs b 0 g → GreatestWith m among rs b 1 h →
    e ≡ cond (at_most h g) g h

-- a bit is decided as v exactly when every best word has v there
unfoldable pub DecidedRight : Type 0
DecidedRight =
    (m : ℕ) (among : List ℕ → Bool) (rs : List ℤ) (b v : ℕ) (g s : ℤ) → Greatest m among rs g → Soft m among rs b s →
    (decided s ≡ some v) ↔ ((ws : List ℕ) → among ws ≡ true → metric m rs ws ≡ g → bit_at m b ws ≡ v)

-- and where it is undecided, some best word has 0 there and some has 1
unfoldable pub UndecidedBoth : Type 0
UndecidedBoth =
    (m : ℕ) (among : List ℕ → Bool) (rs : List ℤ) (b : ℕ) (g s : ℤ) → Greatest m among rs g → Soft m among rs b s → decided s ≡ none →
    (v : ℕ) → v < 2 → (ws : List ℕ) × (among ws ≡ true) × (metric m rs ws ≡ g) × (bit_at m b ws ≡ v)

-- one best word: it has the greatest metric, and every word of the set that has it is this one
pub record OneBest (m : ℕ) (among : List ℕ → Bool) (rs : List ℤ) (ws : List ℕ) : Type 0 where
  pub best : Greatest m among rs (metric m rs ws)
  pub only : (vs : List ℕ) → among vs ≡ true → metric m rs vs ≡ metric m rs ws → vs ≡ ws

-- a row has no undecided bit exactly when it has one best word, and its bits are then decided as those of that word
unfoldable pub UndecidedNone : Type 0
UndecidedNone =
    (m : ℕ) (among : List ℕ → Bool) (rs : List ℤ) (ws : List ℕ) (best : ℤ) (so : List ℤ) → WordsFor m among rs → Decoded m among rs ws best so →
    (((b : ℕ) → b < length rs → decided (get_or so b (pos 0)) ≡ none → ⊥) ↔ ((vs : List ℕ) × OneBest m among rs vs))
    × ((vs : List ℕ) → OneBest m among rs vs → map decided so ≡ map some (all_bits m vs))

-- a row has a decoding, and only one
unfoldable pub DecodedThere : Type 0
DecodedThere =
    (m : ℕ) (among : List ℕ → Bool) (rs : List ℤ) → WordsFor m among rs →
    (ws : List ℕ) × (best : ℤ) × (soft : List ℤ) × Decoded m among rs ws best soft

unfoldable pub DecodedOne : Type 0
DecodedOne =
    (m : ℕ) (among : List ℕ → Bool) (rs : List ℤ) (vs ws : List ℕ) (e g : ℤ) (so to : List ℤ) → Decoded m among rs vs e so → Decoded m among rs ws g to →
    (vs ≡ ws) × (e ≡ g) × (so ≡ to)

-- a row and a word have a verdict, and only one, with one shortfall
unfoldable pub MarkedThere : Type 0
MarkedThere =
    (m : ℕ) (among : List ℕ → Bool) (rs : List ℤ) (ws : List ℕ) → WordsFor m among rs → (v : ℕ) × (d : ℤ) × Marked v d m among rs ws

unfoldable pub MarkedOne : Type 0
MarkedOne =
    (m : ℕ) (among : List ℕ → Bool) (rs : List ℤ) (ws : List ℕ) (v w : ℕ) (d e : ℤ) → Marked v d m among rs ws → Marked w e m among rs ws → (v ≡ w) × (d ≡ e)

-- what document 03 asks follows
unfoldable pub SoftEnough : Type 0
SoftEnough =
    (m : ℕ) (among : List ℕ → Bool) (rs so : List ℤ) → length so ≡ length rs →
    ((b : ℕ) → b < length rs → Soft m among rs b (get_or so b (pos 0))) → SoftRight m among rs so

unfoldable pub DecodedEnough : Type 0
DecodedEnough =
    (m : ℕ) (among : List ℕ → Bool) (rs : List ℤ) (ws : List ℕ) (best : ℤ) (so : List ℤ) → Decoded m among rs ws best so → DecodedRight m among rs ws best so

unfoldable pub MarkedEnough : Type 0
MarkedEnough =
    (m : ℕ) (among : List ℕ → Bool) (rs : List ℤ) (ws : List ℕ) (v : ℕ) (d : ℤ) → Marked v d m among rs ws → MarkedRight m among rs ws v d
