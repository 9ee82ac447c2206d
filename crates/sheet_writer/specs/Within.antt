-- What the inner functions ask and compute. No call offered to callers cites these. Assumes nothing: these are definitions.
use Rattle.std.specs.Prelude.{◌≡◌, List, [], ◌∷◌, ◌++◌, ℕ, ◌+◌, ◌*◌, ◌^◌, ◌≤◌, ◌<◌, length, get_or, take, drop, ℤ}
use Rattle.code.specs.Code.{width}
use Rattle.sheet.specs.declared.form.Form.{Form}
use Rattle.sheet.specs.Sheet.{question_long, all_words, as_bytes}
use Rattle.sheet.specs.Within.{RowForm}
use Rattle.sheet_writer.specs.Calls.{listed, list_refusal}

-- how many words the questions of these codes take
unfoldable pub words_needed : Form → (codes : List ℕ) → ℕ
words_needed f [] = 0
words_needed f (c ∷ cs) = 1 + question_long f (width c) + words_needed f cs

-- an output whose first words were written
unfoldable pub begun : (words output : List ℕ) → List ℕ
begun ws o = as_bytes ws ++ drop (4 * length ws) o

-- one whose words from a place on were written
unfoldable pub begun_at : (place : ℕ) → (words output : List ℕ) → List ℕ
begun_at n ws o = take n o ++ begun ws (drop n o)

-- what says of each place which item stands there may be asked of them all, and each is below a base
pub record Items (pre : ℕ → Type 0) (post : ℕ → ℕ → Type 0) (base : ℕ) (ds : List ℕ) : Type 0 where
  pub few : length ds ≤ 2 ^ 63
  pub asked : (i : ℕ) → i < length ds → pre i
  pub says : (i x : ℕ) → i < length ds → post i x → x ≡ get_or ds i 0
  pub below : (i : ℕ) → i < length ds → get_or ds i 0 < base

-- a list that is accepted, and an output of its sheet's length
pub record ListWithin (f : Form) (cs ns : List ℕ) (rs : List ℤ) (ws : List ℕ) (output : ℕ) : Type 0 where
  pub form : RowForm f
  pub same : length cs ≡ length ns
  pub few : length cs ≤ 200
  pub taken : list_refusal f cs ns rs ws ≡ 0
  pub room : output ≡ 4 * (length (all_words f (listed cs ns rs ws)) + 1)
