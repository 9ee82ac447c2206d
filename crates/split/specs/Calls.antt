-- What `split` answers and leaves behind, for every input; z is what the choice of the code is refused by. Refusals in document 01's order: code 1, 16;
-- lengths 3, 4; symbols 6; membership 8. Assumes nothing: these are definitions.
use Rattle.std.specs.Prelude.{◌≡◌, List, [], ◌∷◌, ◌++◌, ℕ, zero, suc, ◌<◌, length}
use Rattle.refusal.specs.Refusal.{first, Outcome}
use Rattle.code.specs.Bits.{row_long}
use Rattle.code.specs.Calls.{member_refusal}
use Rattle.split.specs.Split.{layer, syndrome, syndromes, padded, Leader, sum}

-- each layer with a leader added, layer 1 first
unfoldable pub remainders : (left j : ℕ) → (leaders : ℕ → List ℕ) → (word : List ℕ) → List ℕ
remainders zero j ls ws = []
remainders (suc k) j ls ws = sum (layer j ws) (ls j) ++ remainders k (suc j) ls ws

-- the configuration, and for each layer the BCH word left when the leader is added
pub record SplitRight (m r : ℕ) (word configuration output : List ℕ) : Type 0 where
  pub tuple : configuration ≡ padded (syndromes m r word)
  pub leaders : ℕ → List ℕ
  pub lead : (j : ℕ) → j < m → Leader m r (syndrome m r (layer j word)) (leaders j)
  pub left : output ≡ remainders m 0 leaders word

-- four places that are 0
abbrev pub zeros : List ℕ
zeros = 0 ∷ 0 ∷ 0 ∷ 0 ∷ []

-- where the call is refused the configuration is all 0
unfoldable pub SplitSays : (z m r : ℕ) → (word : List ℕ) → (answer : ℕ) → (configuration output output_now : List ℕ) → Type 0
SplitSays z m r ws a ss o p =
    Outcome (first z (member_refusal m r ws (length o) (row_long m))) a (SplitRight m r ws ss p) ((ss ≡ zeros) × (p ≡ o))
