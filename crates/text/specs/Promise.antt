-- What is promised of the bits that a line shows (document 02, CR 6). A statement is a type; proofs/Promise.antt names the proof of each.
-- Assumes nothing.
use Rattle.std.specs.Prelude.{◌≡◌, Bool, true, cond, List, [], ◌∷◌, map, ◌↔◌, ◌⊎◌, ℕ, ◌+◌, ◌<◌, eqb, length, get_or, ℤ}
use Rattle.field.specs.Field.{width_good}
use Rattle.code.specs.Code.{long, is_codeword}
use Rattle.code.specs.Bits.{all_bits, row_long}
use Rattle.metric.specs.Metric.{Decoded}
use Rattle.metric.specs.Promise.{OneBest}
use Rattle.text.specs.Text.{question_mark, digit, bits_field}

-- a row shows no question mark exactly when it has one best word, and its bits then spell that word
pub record Shown (m : ℕ) (among : List ℕ → Bool) (rs soft : List ℤ) : Type 0 where
  pub no_mark : ((b : ℕ) → get_or (bits_field soft) b 0 ≡ question_mark → ⊥) ↔ ((ws : List ℕ) × OneBest m among rs ws)
  pub spelt : (ws : List ℕ) → OneBest m among rs ws → bits_field soft ≡ map digit (all_bits m ws)

-- for the rows and the codewords of every code
unfoldable pub ShownRight : Type 0
ShownRight =
    (m r : ℕ) (rs : List ℤ) (ws : List ℕ) (best : ℤ) (so : List ℤ) → width_good m ≡ true → r < long m → length rs ≡ row_long m →
    Decoded m (is_codeword m r) rs ws best so → Shown m (is_codeword m r) rs so

-- how many question marks a field has
unfoldable pub marks : (bits : List ℕ) → ℕ
marks [] = 0
marks (b ∷ bs) = cond (eqb b question_mark) 1 0 + marks bs

-- a row shows no question mark, or more of them than its code has roots
unfoldable pub MarksMany : Type 0
MarksMany =
    (m r : ℕ) (rs : List ℤ) (ws : List ℕ) (best : ℤ) (so : List ℤ) → width_good m ≡ true → length rs ≡ row_long m →
    Decoded m (is_codeword m r) rs ws best so → (marks (bits_field so) ≡ 0) ⊎ (r < marks (bits_field so))
