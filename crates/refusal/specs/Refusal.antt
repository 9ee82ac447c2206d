-- What a call is refused by, and what it answers and leaves behind then. Assumes nothing: these are definitions.
use Rattle.std.specs.Prelude.{◌≡◌, Bool, cond, ℕ, zero, suc, Result, Ok, Err}
use Rattle.refusal.specs.declared.Refusal.{Refusal}
use Rattle.refusal.specs.declared.Refusal.TheVariants.{
  Code,
  RowLength,
  WordLength,
  Output,
  Reliability,
  Symbol,
  Sample,
  NoCodeword,
  RunsOut,
  Kind,
  UnusedBits,
  Count,
  AfterEnd,
  SymbolKind,
  Fill,
  Roots,
  Scratch,
  NoBchWord,
  Configuration,
}

-- document 01's number of a refusal
abbrev pub number : Refusal → ℕ
number Code = 1
number RowLength = 2
number WordLength = 3
number Output = 4
number Reliability = 5
number Symbol = 6
number Sample = 7
number NoCodeword = 8
number RunsOut = 9
number Kind = 10
number UnusedBits = 11
number Count = 12
number AfterEnd = 13
number SymbolKind = 14
number Fill = 15
number Roots = 16
number Scratch = 17
number NoBchWord = 18
number Configuration = 19

-- 0 where a call was not refused
abbrev pub number_of : {A : Type 0} → Result A Refusal → ℕ
number_of (Ok x) = 0
number_of (Err e) = number e

-- the value of an answer; another where it was refused
abbrev pub value_or : {A : Type 0} → (other : A) → Result A Refusal → A
value_or y (Ok x) = x
value_or y (Err e) = y

-- refused, unless something holds
abbrev pub ensured : (holds : Bool) → Refusal → Result Unit Refusal
ensured b e = cond b (Ok tt) (Err e)

-- a number unless something holds; then whatever comes next
unfoldable pub unless : (holds : Bool) → (number next : ℕ) → ℕ
unless b n e = cond b e n

-- what refuses first
unfoldable pub first : (number next : ℕ) → ℕ
first zero e = e
first (suc n) e = suc n

-- a call answers 0 and has done its work, or answers the refusal's number and has kept its outputs
unfoldable pub Outcome : (refusal answer : ℕ) → (Done Kept : Type 0) → Type 0
Outcome zero r Done Kept = (r ≡ 0) × Done
Outcome (suc n) r Done Kept = (r ≡ suc n) × Kept
