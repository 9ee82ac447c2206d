-- What a code is to the search: columns, and the tuples of cosets that its codewords have; and the costs of a row, four layers to a position. A reader
-- need not believe these definitions: proofs/ ties them to codewords and metrics. Assumes nothing: these are definitions.
use Rattle.std.specs.Prelude.{◌≡◌, true, cond, List, ℕ, ◌+◌, ◌*◌, ◌≤◌, ◌<◌, ltb, ℤ, pos, length, get_or}
use Rattle.field.specs.Field.{width_good}
use Rattle.code.specs.Code.{long, symbols_good, is_codeword}
use Rattle.code.specs.Bits.{row_long}
use Rattle.split.specs.Split.{layer}
use Rattle.tails.specs.Tails.{added}
use Rattle.metric.specs.Cost.{cost_zero, cost_one}
use Rattle.lanes.specs.Lanes.{entry}

-- the reliability at position i of layer j; the fourth layer of m = 3 has none, and costs nothing
abbrev pub reliability : (m : ℕ) → (row : List ℤ) → (i j : ℕ) → ℤ
reliability m rs i j = cond (ltb j m) (get_or rs (i * m + j) (pos 0)) (pos 0)

-- the costs of the first n positions
pub record Costed (m n : ℕ) (row : List ℤ) (zs os : List ℕ) : Type 0 where
  pub zeros : (i j : ℕ) → i < n → j < 4 → entry zs i j ≡ cost_zero (reliability m row i j)
  pub ones : (i j : ℕ) → i < n → j < 4 → entry os i j ≡ cost_one (reliability m row i j)

-- a word is a codeword exactly when the cosets of its layers are one of the tuples
pub record Glue (m r : ℕ) (hs : List ℕ) (tuples : ℕ) (coset : (k j : ℕ) → ℕ) : Type 0 where
  pub width : width_good m ≡ true
  pub few : r < long m
  pub count : length hs ≡ long m
  pub there : (ws : List ℕ) → is_codeword m r ws ≡ true → (k : ℕ) × (k < tuples) × ((j : ℕ) → j < 4 → added hs (layer j ws) ≡ coset k j)
  pub only : (ws : List ℕ) → length ws ≡ long m → symbols_good m ws ≡ true → (k : ℕ) → k < tuples → ((j : ℕ) → j < 4 → added hs (layer j ws) ≡ coset k j) → is_codeword m r ws ≡ true
  pub high : (k j : ℕ) → k < tuples → m ≤ j → j < 4 → coset k j ≡ 0

-- a code and the costs of a row of it
pub record Setting (m r : ℕ) (hs : List ℕ) (tuples : ℕ) (coset : (k j : ℕ) → ℕ) (row : List ℤ) (zs os : List ℕ) : Type 0 where
  pub glue : Glue m r hs tuples coset
  pub length_row : length row ≡ row_long m
  pub costs : Costed m (long m) row zs os
