-- What is promised of joining and of splitting, for every code that may be chosen. A statement is a type; its proof stands in proofs/, in the file that is
-- named beside it. Assumes nothing.
use Rattle.std.specs.Prelude.{◌≡◌, true, List, ℕ, eqb, length, take}
use Rattle.code.specs.Code.{long, is_codeword, accepted}
use Rattle.code.specs.Bits.{row_long}
use Rattle.split.specs.Split.{syndrome, padded, Configuration, Binary}
use Rattle.split.specs.Calls.{SplitSays}
use Rattle.join.specs.Calls.{is_configuration, JoinRight, JoinSays}

-- (Bch) of the binary words those with syndrome 0 are the codewords: the BCH code is the binary part of the Reed-Solomon code
unfoldable pub BchCodewords : Type 0
BchCodewords = (m r : ℕ) (bs : List ℕ) → accepted m r ≡ true → Binary m bs → is_codeword m r bs ≡ eqb (syndrome m r bs) 0

-- (Laws) the four places that are taken are the valid configurations, with 0 in any place that is left
unfoldable pub TakenConfigurations : Type 0
TakenConfigurations =
    (m r : ℕ) (ss : List ℕ) → accepted m r ≡ true → length ss ≡ 4 →
    (is_configuration m r ss ≡ true → Configuration m r (take m ss) × (ss ≡ padded (take m ss)))
    × ((ts : List ℕ) → Configuration m r ts → is_configuration m r (padded ts) ≡ true)

-- (Laws) the promise leaves no choice: it says every symbol
unfoldable pub JoinedOne : Type 0
JoinedOne = (m r : ℕ) (ss bs us ws : List ℕ) → JoinRight m r ss bs us → JoinRight m r ss bs ws → us ≡ ws

-- (Laws) what is joined is a codeword
unfoldable pub JoinedCodeword : Type 0
JoinedCodeword = (z m r : ℕ) (ss bs o ws : List ℕ) → JoinSays z m r ss bs 0 o ws → is_codeword m r ws ≡ true

-- (Laws) splitting what was joined, by the same choice of a code, gives the configuration, an array of four places, and the BCH words back
unfoldable pub JoinedSplit : Type 0
JoinedSplit =
    (z m r answer : ℕ) (ss ts bs o ws q u : List ℕ) → (z ≡ 0 → accepted m r ≡ true) → length ss ≡ 4 → JoinSays z m r ss bs 0 o ws →
    length q ≡ row_long m → SplitSays z m r ws answer ts q u → (answer ≡ 0) × (ts ≡ ss) × (u ≡ bs)

-- (Laws) joining what a codeword was split into gives the codeword back
unfoldable pub SplitJoined : Type 0
SplitJoined =
    (z m r answer : ℕ) (ws ss q bs o u : List ℕ) → (z ≡ 0 → accepted m r ≡ true) → SplitSays z m r ws 0 ss q bs → length o ≡ long m →
    JoinSays z m r ss bs answer o u → (answer ≡ 0) × (u ≡ ws)

-- (Laws) different parts never join to the same word
unfoldable pub PartsDiffer : Type 0
PartsDiffer =
    (z m r : ℕ) (ss ts bs ds o q ws : List ℕ) → (z ≡ 0 → accepted m r ≡ true) → length ss ≡ 4 → length ts ≡ 4 → JoinSays z m r ss bs 0 o ws →
    JoinSays z m r ts ds 0 q ws → (ss ≡ ts) × (bs ≡ ds)
