-- What is promised of layers and cosets. A statement is a type; its proof stands in proofs/, in the file that is
-- named beside it. Assumes nothing.
use Rattle.std.specs.Prelude.{◌≡◌, true, List, ℕ, ◌+◌, ◌*◌, ◌≤◌, ◌<◌, length, get_or, take, drop}
use Rattle.field.specs.Field.{width_good}
use Rattle.code.specs.Code.{width, roots, long, symbols_good, is_codeword, bch_dimension, accepted}
use Rattle.code.specs.Bits.{bit_at, row_long}
use Rattle.split.specs.Split.{layer, syndrome, columns_from, syndromes, cosets, valid, all_below, Binary, Leader, BchEnding, sum}
use Rattle.split.specs.Calls.{SplitRight}

-- (Layers) bit number i·m + j of a word is the bit of layer j at position i
unfoldable pub LayerBits : Type 0
LayerBits = (m j i : ℕ) (ws : List ℕ) → j < m → bit_at m (i * m + j) ws ≡ get_or (layer j ws) i 0

-- (Glue) a word is a codeword exactly when its layers' syndromes are a valid configuration
unfoldable pub GluedRight : Type 0
GluedRight =
    (m r : ℕ) (ws : List ℕ) → width_good m ≡ true → r ≤ 6 → length ws ≡ long m → symbols_good m ws ≡ true →
    is_codeword m r ws ≡ valid m r (syndromes m r ws)

-- (Cosets) the syndrome of a binary word is below the number of cosets
unfoldable pub SyndromeInside : Type 0
SyndromeInside = (m r : ℕ) (bs : List ℕ) → width_good m ≡ true → Binary m bs → syndrome m r bs < cosets m r

-- (Columns) the syndrome of a binary word is the sum of the columns of its 1 bits
unfoldable pub SyndromeColumns : Type 0
SyndromeColumns = (m r : ℕ) (bs : List ℕ) → width_good m ≡ true → Binary m bs → syndrome m r bs ≡ columns_from m r 0 bs

-- (Leaders) each coset has a leader, and no other
unfoldable pub LeaderThere : Type 0
LeaderThere = (m r s : ℕ) → accepted m r ≡ true → s < cosets m r → (bs : List ℕ) × Leader m r s bs

unfoldable pub OneLeader : Type 0
OneLeader = (m r s : ℕ) (bs ds : List ℕ) → Leader m r s bs → Leader m r s ds → bs ≡ ds

-- (Cosets) a binary word plus a member of its coset, so plus its leader, is a BCH word: its syndrome is 0
unfoldable pub SumIsBch : Type 0
SumIsBch =
    (m r : ℕ) (bs ds : List ℕ) → width_good m ≡ true → Binary m bs → Binary m ds → syndrome m r ds ≡ syndrome m r bs → syndrome m r (sum bs ds) ≡ 0

-- (Dimension) for every choice of the last bits, as many as the dimension, one BCH word ends in them, and no other
unfoldable pub BchDimension : Type 0
BchDimension =
    (m r : ℕ) (ds : List ℕ) → width_good m ≡ true → r ≤ 6 → length ds ≡ bch_dimension m r → all_below 2 ds ≡ true →
    ((bs : List ℕ) × BchEnding m r ds bs) × ((bs cs : List ℕ) → BchEnding m r ds bs → BchEnding m r ds cs → bs ≡ cs)

-- (Dimension) the BCH dimensions of codes 1 to 5
unfoldable pub BchDimensions : Type 0
BchDimensions =
    (bch_dimension (width 1) (roots 1) ≡ 4) × (bch_dimension (width 2) (roots 2) ≡ 1) × (bch_dimension (width 3) (roots 3) ≡ 11)
    × (bch_dimension (width 4) (roots 4) ≡ 7) × (bch_dimension (width 5) (roots 5) ≡ 5)

-- (Whole) where a split is right, the output is n·m long and each of its layers is a BCH word: binary, with syndrome 0
unfoldable pub PartsAreBch : Type 0
PartsAreBch =
    (m r : ℕ) (ws configuration output : List ℕ) → width_good m ≡ true → length ws ≡ long m → SplitRight m r ws configuration output →
    (length output ≡ row_long m)
    × ((j : ℕ) → j < m → Binary m (take (long m) (drop (j * long m) output)) × (syndrome m r (take (long m) (drop (j * long m) output)) ≡ 0))
