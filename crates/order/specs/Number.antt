-- A word as one number, for the crates that search: its symbols are digits, position 0 leading. A reader need not believe it: proofs/Numbers.antt
-- shows that words of one length are ordered as their numbers. Assumes nothing: these are definitions.
use Rattle.std.specs.Prelude.{List, [], ◌∷◌, ℕ, ◌+◌, ◌*◌, ◌^◌, ◌<◌, length}

unfoldable pub number : (base : ℕ) → (word : List ℕ) → ℕ
number b [] = 0
number b (c ∷ cs) = c * b ^ length cs + number b cs

-- symbols that are digits
abbrev pub Digits : (base : ℕ) → (word : List ℕ) → Type 0
Digits b [] = Unit {0}
Digits b (c ∷ cs) = (c < b) × Digits b cs
