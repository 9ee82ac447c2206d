-- What is promised of quantising. A statement is a type; proofs/Laws.antt names the proof of each. Assumes nothing.
use Rattle.std.specs.Prelude.{◌≡◌, Bool, true, List, map, ℕ, ◌+◌, ◌*◌, ◌≤◌, ◌<◌, min, ℤ, neg_ℤ, ◌≤ℤ◌, Float}
use Rattle.std.specs.Float.{fin}
use Rattle.std.specs.Float.Ieee.{up, down, neg, le}
use Rattle.metric.specs.Row.{row_bound, reliability_good, row_good}
use Rattle.quantiser.specs.Quantise.{clip, signed, quantised}

-- n is the whole number nearest to a / b, a half going up: n - 1/2 ≤ a / b < n + 1/2, multiplied by 2 · b
pub record Nearest (a b n : ℕ) : Type 0 where
  pub not_above : 2 * n * b ≤ 2 * a + b
  pub not_below : 2 * a < 2 * n * b + b

-- before clipping, the size is the whole number nearest to 32 · m · 2^e, a half going up; and no other number is
unfoldable pub WithinHalf : Type 0
WithinHalf =
    (s : Bool) (m : ℕ) (e : ℤ) →
    (n : ℕ) × Nearest (32 * m * up e) (down e) n × (quantised (fin s m e) ≡ signed s (min n clip))

unfoldable pub NearestOne : Type 0
NearestOne = (a b n k : ℕ) → Nearest a b n → Nearest a b k → n ≡ k

-- a quantised sample is a reliability, and quantised samples are a row that every call takes
unfoldable pub Reliability : Type 0
Reliability = (x : Float) → reliability_good row_bound (quantised x) ≡ true

unfoldable pub RowTaken : Type 0
RowTaken = (xs : List Float) → row_good row_bound (map quantised xs) ≡ true

-- odd under change of sign
unfoldable pub Odd : Type 0
Odd = (x : Float) → quantised (neg x) ≡ neg_ℤ (quantised x)

-- monotone; `le` compares finite samples as exact fractions, has the infinities at the ends, and is false where a NaN stands
unfoldable pub Monotone : Type 0
Monotone = (x y : Float) → le x y ≡ true → quantised x ≤ℤ quantised y
