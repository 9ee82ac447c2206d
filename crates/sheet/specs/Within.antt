-- What the inner functions ask and compute, where it is no definition of the format. No call offered to callers cites these.
-- Assumes nothing: these are definitions.
use Rattle.std.specs.Prelude.{◌≡◌, Bool, true, ◌&&◌, ◌||◌, List, [], ◌∷◌, ℕ, ◌+◌, ◌-◌, ◌/◌, ◌%◌, ◌^◌, ◌<◌, ◌≤◌, ltb, leb, length}
use Rattle.sheet.specs.declared.form.Form.{Form}
use Rattle.sheet.specs.declared.judging.Scan.{Scan}
use Rattle.sheet.specs.Sheet.{symbols, most, digits, rest_refusal, questions_from}
use Rattle.sheet.specs.Calls.{judgement}

-- a form of reliabilities has a kind of its own, and an even base: the least number of two's complement is one item
pub record RowForm (f : Form) : Type 0 where
  pub even : f.base % 2 ≡ 0
  pub other : f.kind ≡ symbols.kind → ⊥

-- no item stands from `low` up to, but not including, `high`
unfoldable pub outside : (low high : ℕ) → (items : List ℕ) → Bool
outside l h [] = true
outside l h (d ∷ ds) = (ltb d l || leb h d) && outside l h ds

-- what stands above n digits, and whether none of them stands there
pub record ScanSays (v base n low high : ℕ) (s : Scan) : Type 0 where
  pub rest_is : s.rest ≡ v / base ^ n
  pub good_is : s.good ≡ outside low high (digits base n v)

-- what is judged of the rest of a sheet in which so many heads are still allowed
unfoldable pub judged_from : Form → (left : ℕ) → List ℕ → ℕ
judged_from f k ws = judgement (rest_refusal f k ws) (most - k + length (questions_from f k ws))
