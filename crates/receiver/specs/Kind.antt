-- The byte that stands for how a symbol comes. Assumes nothing: these are definitions.
use Rattle.std.specs.Prelude.{◌≡◌, ℕ, ◌<◌, Result, MatchResult}
use Rattle.refusal.specs.declared.Refusal.{Refusal}
use Rattle.refusal.specs.declared.Refusal.TheVariants.{SymbolKind}
use Rattle.receiver.specs.declared.Kind.{Kind}
use Rattle.receiver.specs.declared.Kind.TheVariants.{LostOne, LostTwo, Single, Paired}

abbrev pub kind_number : Kind → ℕ
kind_number LostOne = 0
kind_number LostTwo = 1
kind_number Single = 2
kind_number Paired = 3

-- the kind that a byte stands for, or a refusal of any other byte
abbrev pub Decodes : ℕ → Result Kind Refusal → Type 0
Decodes byte r = MatchResult r (λ kind. kind_number kind ≡ byte) (λ e. (e ≡ SymbolKind) × (3 < byte))
