-- What is promised of cosets by their tails, for every code that may be chosen. A statement is a type; its proof stands in proofs/, in the file that is
-- named beside it. Assumes nothing.
use Rattle.std.specs.Prelude.{◌≡◌, true, List, ℕ, ◌*◌, ◌^◌, ◌<◌, length}
use Rattle.code.specs.Code.{long, symbols_good, is_codeword, syndrome_long, configuration_long, accepted}
use Rattle.split.specs.Split.{layer, syndrome, Configuration, Binary}
use Rattle.tails.specs.Tails.{added, columns, turns, visited, basis_long, combined, syndrome_of, configuration}

-- (Cosets) the columns give each layer the number of its coset, below 2^q: two layers have the same number exactly when they have the same syndrome,
-- which is that of the coset
pub record Numbers (m r : ℕ) (bs ds : List ℕ) : Type 0 where
  pub inside : added (columns m r) bs < 2 ^ syndrome_long m r
  pub syndrome_is : syndrome m r bs ≡ syndrome_of m r (added (columns m r) bs)
  pub same_number : syndrome m r bs ≡ syndrome m r ds → added (columns m r) bs ≡ added (columns m r) ds
  pub same_syndrome : added (columns m r) bs ≡ added (columns m r) ds → syndrome m r bs ≡ syndrome m r ds

unfoldable pub TailCosets : Type 0
TailCosets = (m r : ℕ) (bs ds : List ℕ) → accepted m r ≡ true → Binary m bs → Binary m ds → Numbers m r bs ds

-- the layers of a word have these cosets; for m = 3 the fourth layer is all 0
abbrev pub HasCosets : (m r : ℕ) → (word : List ℕ) → (tuple : ℕ → ℕ) → Type 0
HasCosets m r ws t = (j : ℕ) → j < 4 → added (columns m r) (layer j ws) ≡ t j

-- the codewords are the words whose layers have the cosets of one of so many tuples
pub record CodewordsHave (m r count : ℕ) (tuple : ℕ → ℕ → ℕ) : Type 0 where
  pub none_missing : (ws : List ℕ) → is_codeword m r ws ≡ true → (i : ℕ) × (i < count) × HasCosets m r ws (tuple i)
  pub none_else : (ws : List ℕ) → length ws ≡ long m → symbols_good m ws ≡ true → (i : ℕ) → i < count → HasCosets m r ws (tuple i) → is_codeword m r ws ≡ true

-- (Codewords) these are the sums of the vectors of the basis
unfoldable pub CodewordsCombined : Type 0
CodewordsCombined = (m r : ℕ) → accepted m r ≡ true → CodewordsHave m r (2 ^ basis_long m r) (combined m r)

-- (Walk) which are the tuples that the walk visits, no other and none left out
unfoldable pub VisitedAll : Type 0
VisitedAll =
    (m r : ℕ) → accepted m r ≡ true →
    ((i : ℕ) → i < 16 * turns m r → (b : ℕ) × (b < 2 ^ basis_long m r) × ((j : ℕ) → j < 4 → visited m r i j ≡ combined m r b j))
    × ((b : ℕ) → b < 2 ^ basis_long m r → (i : ℕ) × (i < 16 * turns m r) × ((j : ℕ) → j < 4 → visited m r i j ≡ combined m r b j))

-- (Walk) so a word is a codeword exactly when its layers have the cosets of a visited tuple
unfoldable pub CodewordsVisited : Type 0
CodewordsVisited = (m r : ℕ) → accepted m r ≡ true → CodewordsHave m r (16 * turns m r) (visited m r)

-- (Configured) in document 01's numbers: the valid configurations, each valid, none missing, each once
pub record Configured (m r : ℕ) : Type 0 where
  pub each_valid : (k : ℕ) → k < 2 ^ configuration_long m r → Configuration m r (configuration m r k)
  pub none_missing : (ss : List ℕ) → Configuration m r ss → (k : ℕ) × (k < 2 ^ configuration_long m r) × (configuration m r k ≡ ss)
  pub once : (k l : ℕ) → k < 2 ^ configuration_long m r → l < 2 ^ configuration_long m r → configuration m r k ≡ configuration m r l → k ≡ l

unfoldable pub ConfiguredRight : Type 0
ConfiguredRight = (m r : ℕ) → accepted m r ≡ true → Configured m r
