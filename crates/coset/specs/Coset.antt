-- The coset search of four layers at once: for each layer and coset the least cost of its words and the first word that has it, and on the way the
-- least costs of all that comes from a position on. A coset is numbered by its tail: the last q columns are the powers of two, so that every
-- coset has one word that is 0 before them. It knows columns, costs and xor, and no code. Assumes nothing: these are definitions.
use Rattle.std.specs.Prelude.{◌≡◌, List, ℕ, suc, ◌+◌, ◌-◌, ◌*◌, ◌^◌, ◌≤◌, ◌<◌, ℤ, pos, length, get_or}
use Rattle.order.specs.Number.{number}
use Rattle.trellis.specs.Trellis.{step, either, back, free, final, trace}
use Rattle.trellis.specs.Rows.{column, front, layer}
use Rattle.lanes.specs.Lanes.{entry, lane}

-- stands for 'no way': above every cost
abbrev pub none : ℕ
none = 2 ^ 20

-- from position i on: the least cost of bits of layer j that add up to s, and the first bits that have it
abbrev pub least : (hs zs os : List ℕ) → (i j s : ℕ) → ℕ
least hs zs os i j s = back free (layer hs zs os j) (final none) i (length hs - i) s

abbrev pub first : (hs zs os : List ℕ) → (i j s : ℕ) → List ℕ
first hs zs os i j s = trace (layer hs zs os j) (final none) i (length hs - i) s

-- both in one number, the key: it is the cost of the bits where a 0 costs 2^16 times as much, and a 1 its place in the word besides
abbrev pub key : (hs zs os : List ℕ) → (i j s : ℕ) → ℕ
key hs zs os i j s = least hs zs os i j s * 65536 + number 2 (first hs zs os i j s)

-- the layers: n columns below 2^q, the last q of them the powers of two, the others (the heads) not 0; and four costs of a 0 and of a 1 to a column
pub record Layers (q size : ℕ) (hs zs os : List ℕ) : Type 0 where
  pub top : ℕ
  pub some : 0 < q
  pub fits : q ≤ length hs
  pub few : length hs ≤ 15
  pub size_is : size ≡ 2 ^ q
  pub length_zs : length zs ≡ length hs * 4
  pub length_os : length os ≡ length hs * 4
  pub inside : (i : ℕ) → i < length hs → get_or hs i 0 < size
  pub heads : (i : ℕ) → i < length hs → 0 < get_or hs i 0
  pub tails : (k : ℕ) → k < q → get_or hs (length hs - suc k) 0 ≡ 2 ^ k
  pub cost_zs : (i j : ℕ) → i < length hs → j < 4 → entry zs i j ≤ top
  pub cost_os : (i j : ℕ) → i < length hs → j < 4 → entry os i j ≤ top
  pub room : length hs * top < 2 ^ 15

-- the same with no greatest cost named: each cost, as many times as there are columns, stays below 2^15
pub record Fit (q size : ℕ) (hs zs os : List ℕ) : Type 0 where
  pub some : 0 < q
  pub fits : q ≤ length hs
  pub few : length hs ≤ 15
  pub size_is : size ≡ 2 ^ q
  pub length_zs : length zs ≡ length hs * 4
  pub length_os : length os ≡ length hs * 4
  pub inside : (i : ℕ) → i < length hs → get_or hs i 0 < size
  pub heads : (i : ℕ) → i < length hs → 0 < get_or hs i 0
  pub tails : (k : ℕ) → k < q → get_or hs (length hs - suc k) 0 ≡ 2 ^ k
  pub room_zs : (i j : ℕ) → i < length hs → j < 4 → entry zs i j * length hs < 2 ^ 15
  pub room_os : (i j : ℕ) → i < length hs → j < 4 → entry os i j * length hs < 2 ^ 15

-- a table of the least costs from position i on, and one of the keys
pub record Costs (size : ℕ) (hs zs os : List ℕ) (i : ℕ) (g : List ℕ) : Type 0 where
  pub long : length g ≡ size * 4
  pub costs : (s j : ℕ) → s < size → j < 4 → entry g s j ≡ least hs zs os i j s

pub record Keys (size : ℕ) (hs zs os : List ℕ) (i : ℕ) (t : List ℕ) : Type 0 where
  pub long : length t ≡ size * 4
  pub keys : (s j : ℕ) → s < size → j < 4 → entry t s j ≡ key hs zs os i j s

-- the tables of the least costs from the positions 1, 2, .. before the last head on, kept end to end
abbrev pub Kept : (q size : ℕ) → (hs zs os : List ℕ) → (kept : List ℤ) → Type 0
Kept q size hs zs os kept =
    (i s j : ℕ) → 0 < i → i < length hs - q → s < size → j < 4 → get_or kept ((i - 1) * (size * 4) + (s * 4 + j)) (pos 0) ≡ pos (least hs zs os i j s)

-- what one column asks of a table of numbers below l, keys or costs, and what it leaves: each row by its own and that of s xor h
pub record Free (l q size h : ℕ) (t z o : List ℕ) : Type 0 where
  pub size_is : size ≡ 2 ^ q
  pub inside : h < size
  pub some : 0 < h
  pub long : length t ≡ size * 4
  pub room_z : (s j : ℕ) → s < size → j < 4 → entry t s j + lane z j < l
  pub room_o : (s j : ℕ) → s < size → j < 4 → entry t s j + lane o j < l

pub record Freed (size h : ℕ) (t z o : List ℕ) (to : List ℕ) : Type 0 where
  pub long : length to ≡ length t
  pub made : (s j : ℕ) → s < size → j < 4 → entry to s j ≡ step either (column h z o j) (front t j) s

-- what `make` asks besides the layers: room for the keys, for a table of costs and for the tables kept
pub record Room (q size : ℕ) (hs t g : List ℕ) (kept : List ℤ) : Type 0 where
  pub length_t : length t ≡ size * 4
  pub length_g : length g ≡ size * 4
  pub length_kept : (length hs - q - 1) * (size * 4) ≤ length kept
