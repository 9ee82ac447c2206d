-- The soft pass over the cosets of four layers at once: what its functions ask, and what they leave. Assumes nothing: these are definitions.
use Rattle.std.specs.Prelude.{◌≡◌, List, ℕ, ◌+◌, ◌-◌, ◌*◌, ◌^◌, ◌≤◌, ◌<◌, ℤ, length}
use Rattle.trellis.specs.Trellis.{step, only, back, final, least_of, holding, meet}
use Rattle.trellis.specs.Rows.{column, front, layer}
use Rattle.lanes.specs.Lanes.{entry, lane, limit}
use Rattle.coset.specs.Coset.{none, Kept}

-- what `advance` asks: a is the table before a column, t that behind it
pub record Advance (q size h : ℕ) (a t z o : List ℕ) : Type 0 where
  pub size_is : size ≡ 2 ^ q
  pub inside : h < size
  pub some : 0 < h
  pub length_a : length a ≡ size * 4
  pub length_t : length t ≡ size * 4
  pub room_z : (s u j : ℕ) → s < size → u < size → j < 4 → entry a s j + lane z j + entry t u j < limit
  pub room_o : (s u j : ℕ) → s < size → u < size → j < 4 → entry a s j + lane o j + entry t u j < limit

-- the least of cap and of the first n rows, lane by lane
abbrev pub lowest : (cap n : ℕ) → (rows : ℕ → ℕ → ℕ) → (j : ℕ) → ℕ
lowest cap n t j = least_of (λ s. t s j) cap n

-- the least with a given bit at the column
abbrev pub met : (size h cap : ℕ) → (a t z o : List ℕ) → (bit j : ℕ) → ℕ
met size h cap a t z o b = lowest cap size (λ s j. step (only b) (column h z o j) (front a j) s + entry t s j)

-- what `pass` asks: a has what each coset costs besides, at most cap; the tables kept; a head at least; no cost above top, and cap and the costs of any
-- word together small; room for a table of costs and for the outputs
pub record Pass (q size cap : ℕ) (a g hs zs os : List ℕ) (kept : List ℤ) (zero one : List ℕ) : Type 0 where
  pub top : ℕ
  pub cost_zs : (i j : ℕ) → i < length hs → j < 4 → entry zs i j ≤ top
  pub cost_os : (i j : ℕ) → i < length hs → j < 4 → entry os i j ≤ top
  pub tables : Kept q size hs zs os kept
  pub head : q < length hs
  pub length_a : length a ≡ size * 4
  pub length_g : length g ≡ size * 4
  pub length_kept : (length hs - q - 1) * (size * 4) ≤ length kept
  pub start : (s j : ℕ) → s < size → j < 4 → entry a s j ≤ cap
  pub cap_small : cap + length hs * top < limit
  pub length_zero : length zero ≡ length hs * 4
  pub length_one : length one ≡ length hs * 4

-- the numbers for the bit v of the first n columns: the least where a meets the whole table with that bit held
abbrev pub Passed : (size cap : ℕ) → (a hs zs os : List ℕ) → (v n : ℕ) → (out : List ℕ) → Type 0
Passed size cap a hs zs os v n out =
    (i j : ℕ) → i < n → j < 4 → entry out i j ≡ meet cap size (front a j) (back (holding i v) (layer hs zs os j) (final none) 0 (length hs))
