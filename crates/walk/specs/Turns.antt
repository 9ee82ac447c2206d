-- One turn of the walk, lane by lane: what its functions promise each other, and the crates above of where a turn stands.
-- Assumes nothing: these are definitions.
use Rattle.std.specs.Prelude.{◌≡◌, Bool, true, cond, List, [], ℕ, zero, suc, ◌+◌, ◌-◌, ◌*◌, ◌^◌, ◌≤◌, ◌<◌, min, eqb, length, get_or, set}
use Rattle.std.specs.Int.Bits.{bit_xor}
use Rattle.lanes.specs.Lanes.{lane, limit}
use Rattle.walk.specs.declared.At.{At}
use Rattle.walk.specs.declared.Slot.{Slot}
use Rattle.walk.specs.Walk.{sum4, start, step, changed_bit, place, total, changes}

-- a rule at each number below n
abbrev pub Each : (n : ℕ) → (ℕ → Type 0) → Type 0
Each n P = (x : ℕ) → x < n → P x

-- costs that may be compared
abbrev pub Small : List ℕ → Type 0
Small g = Each (length g) (λ i. get_or g i 0 < limit)

-- the row of sixteen costs at place p
abbrev pub Row : (f : List ℕ) → (p : ℕ) → (r : List ℕ) → Type 0
Row f p r = Each 16 (λ x. lane r x ≡ get_or f (p + x) 0)

-- the rows at four places added up, in lane x
abbrev pub row_sum : (f a : List ℕ) → (x : ℕ) → ℕ
row_sum f a x = sum4 (λ j. get_or f (lane a j + x) 0)

-- v 0, v 1, .. v (n - 1) written into g from place p on
unfoldable pub fill : (g : List ℕ) → (p : ℕ) → (v : ℕ → ℕ) → (n : ℕ) → List ℕ
fill g p v zero = g
fill g p v (suc n) = set (fill g p v n) (p + n) (v n)

-- the row at p lowered to t, and the rows at n of the places a, from place i of them on
unfoldable pub low : (g : List ℕ) → (p : ℕ) → (t : List ℕ) → List ℕ
low g p t = fill g p (λ x. min (get_or g (p + x) 0) (lane t x)) 16

unfoldable pub lows : (g a t : List ℕ) → (i n : ℕ) → List ℕ
lows g a t i zero = g
lows g a t i (suc n) = low (lows g a t i n) (lane a (i + n)) t

-- where marginals are asked for, g is as long as f and all cap
pub record Blank (soft : Bool) (cap : ℕ) (f g : List ℕ) : Type 0 where
  pub long : soft ≡ true → length g ≡ length f
  pub all : soft ≡ true → Each (length g) (λ p. get_or g p 0 ≡ cap)

-- the row of slot j
abbrev pub row_of : (a : At) → (j : ℕ) → List ℕ
row_of a j = get_or a.rows j []

-- WHERE THE WALK STANDS: the rows are those of its places, and in every lane the total is their sum, taken afresh
pub record Summed (f : List ℕ) (a : At) : Type 0 where
  pub rows : Each 4 (λ j. Row f (lane a.places j) (row_of a j))
  pub lanes : Each 16 (λ x. lane a.total x ≡ row_sum f a.places x)

-- at turn k: these are the places of the turn, so that in every lane the total is that of its tuple, and as many adjustments were made as slots have
-- changed so far
pub record Standing (f sl st : List ℕ) (k : ℕ) (a : At) : Type 0 where
  pub at : Each 4 (λ j. lane a.places j ≡ place sl st k j)
  pub summed : Summed f a
  pub lanes : Each 16 (λ x. lane a.total x ≡ total f sl st (k * 16 + x))
  pub count : a.adjusted ≡ changes sl st k

-- one slot, at place p with row r: what it asks where the place is xored with e, and what it leaves
pub record Shift (f : List ℕ) (e p : ℕ) (r t : List ℕ) (n : ℕ) : Type 0 where
  pub row : Row f p r
  pub inside : bit_xor p e + 16 ≤ length f
  pub part : Each 16 (λ x. get_or f (p + x) 0 ≤ lane t x)
  pub room : Each 16 (λ x. lane t x + get_or f (bit_xor p e + x) 0 < 2 ^ 16)
  pub few : n < 2 ^ 20

pub record Shifted (f : List ℕ) (e p : ℕ) (t : List ℕ) (n : ℕ) (s : Slot) : Type 0 where
  pub place_is : s.place ≡ bit_xor p e
  pub row : Row f (bit_xor p e) s.row
  pub lanes : Each 16 (λ x. lane s.total x ≡ lane t x - get_or f (p + x) 0 + get_or f (bit_xor p e + x) 0)
  pub count : s.adjusted ≡ n + cond (eqb (bit_xor p e) p) 0 1

-- the place of slot j at turn k, from that at the turn before
abbrev pub to : (st : List ℕ) → (k j p : ℕ) → ℕ
to st k j p = bit_xor p (step st (changed_bit k) j)

-- what turn k asks of the turn before it, and what it leaves
pub record Movable (f st : List ℕ) (k : ℕ) (a : At) : Type 0 where
  pub steps : length st ≡ 48
  pub bit : changed_bit k < 12
  pub summed : Summed f a
  pub inside : Each 4 (λ j. to st k j (lane a.places j) + 16 ≤ length f)
  pub old : Each 16 (λ x. row_sum f a.places x < limit)
  pub new : Each 16 (λ x. sum4 (λ j. get_or f (to st k j (lane a.places j) + x) 0) < limit)
  pub few : a.adjusted < 2 ^ 16

pub record Moved (f st : List ℕ) (k : ℕ) (a b : At) : Type 0 where
  pub at : Each 4 (λ j. lane b.places j ≡ to st k j (lane a.places j))
  pub summed : Summed f b
  pub count : b.adjusted ≡ a.adjusted + sum4 (λ j. cond (eqb (lane b.places j) (lane a.places j)) 0 1)

-- within a round: the first w slots take the same step, which is not 0, and the others none
pub record Together (st : List ℕ) (k w : ℕ) : Type 0 where
  pub changed : 0 < step st (changed_bit k) 0
  pub same : (j : ℕ) → j < w → step st (changed_bit k) j ≡ step st (changed_bit k) 0
  pub still : (j : ℕ) → w ≤ j → j < 4 → step st (changed_bit k) j ≡ 0

-- a walk's rows begin inside f, and may be added up
pub record Begins (f sl : List ℕ) : Type 0 where
  pub slots : length sl ≡ 5
  pub inside : Each 4 (λ j. start sl j + 16 ≤ length f)
  pub room : Each 16 (λ x. sum4 (λ j. get_or f (start sl j + x) 0) < limit)
