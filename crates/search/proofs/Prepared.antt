-- Columns and costs as the program makes them, one position at a turn.
-- Assumes nothing.
use Rattle.basics.proofs.Kit.{◌≡◌, ap, ◌∙◌, true, List, ℕ, ◌+◌, ◌*◌, ◌≤◌, ◌<◌, arith, length, get_or, set, ℤ, pos}
use native.Mathlib.Nat.{suc-mul, mul-le-mul_right}
use native.Mathlib.Decide.{dec_le}
use borrow.Author.Tests.{lt-ltb}
use lib.ListN.{length-set}
use lib.Seq.{get_or-set_same, get_or-set_other}
use mir.Syntax.{w16}
use mir.Val.{SFits, to_z, of_z}
use mir.Facts.{to_z-of_z}
use Rattle.field.specs.Field.{width_good}
use Rattle.field.proofs.Tests.{widths}
use Rattle.code.specs.Code.{long}
use Rattle.metric.specs.Cost.{cost_zero, cost_one}
use Rattle.lanes.proofs.Rows.{four}
use Rattle.lanes.specs.Lanes.{put_four}
use Rattle.bridge.specs.Bridge.{reliability, Costed}
use Rattle.search.specs.Within.{Spread, CostsTo}

-- a signed number that was passed on
pub through : (f : ℤ → ℕ) {x : ℕ} {r : ℤ} → SFits w16 r → x ≡ f (to_z w16 (of_z w16 r)) → x ≡ f r
through f ok e = e ∙ ap f (to_z-of_z ok)

pub long_le : (m : ℕ) → width_good m ≡ true → long m ≤ 15
unfolding long
long_le = widths (λ (m : ℕ). long m ≤ 15) (omega arith) (omega arith)

-- ---- costs
module _ (w : List ℤ) (at : ℕ) (f : ℕ → ℤ) where
  abbrev w1 : List ℤ
  w1 = set w (at + 0) (f 0)

  abbrev w2 : List ℤ
  w2 = set w1 (at + 1) (f 1)

  abbrev w3 : List ℤ
  w3 = set w2 (at + 2) (f 2)

  pub length_four : length (put_four w at f) ≡ length w
  length_four = simp length-set

  four_other : (k : ℕ) → k < at → get_or (put_four w at f) k (pos 0) ≡ get_or w k (pos 0)
  four_other k l =
      get_or-set_other w3 (at + 3) k (f 3) (pos 0) (λ e. omega arith)
      ∙ get_or-set_other w2 (at + 2) k (f 2) (pos 0) (λ e. omega arith)
      ∙ get_or-set_other w1 (at + 1) k (f 1) (pos 0) (λ e. omega arith)
      ∙ get_or-set_other w (at + 0) k (f 0) (pos 0) (λ e. omega arith)

  four_at : at + 4 ≤ length w → (j : ℕ) → j < 4 → get_or (put_four w at f) (at + j) (pos 0) ≡ f j
  four_at l =
      four (λ j. get_or (put_four w at f) (at + j) (pos 0) ≡ f j)
      (get_or-set_other w3 (at + 3) (at + 0) (f 3) (pos 0) (λ e. omega arith)
      ∙ get_or-set_other w2 (at + 2) (at + 0) (f 2) (pos 0) (λ e. omega arith)
      ∙ get_or-set_other w1 (at + 1) (at + 0) (f 1) (pos 0) (λ e. omega arith)
      ∙ get_or-set_same w (at + 0) (f 0) (pos 0) (omega arith))
      (get_or-set_other w3 (at + 3) (at + 1) (f 3) (pos 0) (λ e. omega arith)
      ∙ get_or-set_other w2 (at + 2) (at + 1) (f 2) (pos 0) (λ e. omega arith)
      ∙ get_or-set_same w1 (at + 1) (f 1) (pos 0) (simp length-set (omega arith)))
      (get_or-set_other w3 (at + 3) (at + 2) (f 3) (pos 0) (λ e. omega arith)
      ∙ get_or-set_same w2 (at + 2) (f 2) (pos 0) (simp length-set (omega arith)))
      (get_or-set_same w3 (at + 3) (f 3) (pos 0) (simp length-set (omega arith)))

pub spread_more : (m i : ℕ) (row wide wide' : List ℤ) → i * 4 + 4 ≤ length wide → Spread m i row wide → wide' ≡ put_four wide (i * 4) (reliability m row i) → Spread m (i + 1) row wide'
spread_more m i row wide wide' l s e k j lk lj = ap (λ (x : List ℤ). get_or x (k * 4 + j) (pos 0)) e ∙ go (dec_le i k)
  where
    go : Dec (i ≤ k) → get_or (put_four wide (i * 4) (reliability m row i)) (k * 4 + j) (pos 0) ≡ reliability m row k j
    go (yes a) = let x : k ≡ i = omega arith in rw x (four_at wide (i * 4) (reliability m row i) l j lj)
    go (no a) = four_other wide (i * 4) (reliability m row i) (k * 4 + j) (omega arith) ∙ s k j (omega arith) lj

-- one place more of a list that follows another
follow : (f : ℤ → ℕ) (wide : List ℤ) (xs : List ℕ) (b x : ℕ) → b < length xs → x ≡ f (get_or wide b (pos 0)) → ((k : ℕ) → k < b → get_or xs k 0 ≡ f (get_or wide k (pos 0))) →
    (k : ℕ) → k < b + 1 → get_or (set xs b x) k 0 ≡ f (get_or wide k (pos 0))
follow f wide xs b x l e p k h = go (dec_le b k)
  where
    go : Dec (b ≤ k) → get_or (set xs b x) k 0 ≡ f (get_or wide k (pos 0))
    go (yes a) = let q : k ≡ b = omega arith in rw q (get_or-set_same xs b x 0 l ∙ e)
    go (no a) = get_or-set_other xs b k x 0 (λ q. omega arith) ∙ p k (omega arith)

pub costs_more : {wide : List ℤ} {zs os : List ℕ} {b x y : ℕ} → CostsTo b wide zs os → b < length zs → b < length os → x ≡ cost_zero (get_or wide b (pos 0)) → y ≡ cost_one (get_or wide b (pos 0)) →
    CostsTo (b + 1) wide (set zs b x) (set os b y)
costs_more {wide} {zs} {os} {b} {x} {y} d lz lo ex ey = record {
  zeros = follow cost_zero wide zs b x lz ex d.zeros;
  ones = follow cost_one wide os b y lo ey d.ones;
}

-- the costs of all places are those of all positions
pub costed : {k : ℕ} {wide : List ℤ} {zs os : List ℕ} (m n : ℕ) (row : List ℤ) → CostsTo k wide zs os → k ≡ n * 4 → Spread m n row wide → Costed m n row zs os
costed m n row d e s = record {
  zeros = λ i j li lj. d.zeros (i * 4 + j) (omega arith) ∙ ap cost_zero (s i j li lj);
  ones = λ i j li lj. d.ones (i * 4 + j) (omega arith) ∙ ap cost_one (s i j li lj);
}

-- with m = 4 a row is spread as it is
pub spread_four : (m n : ℕ) (row : List ℤ) → m ≡ 4 → Spread m n row row
spread_four m n row e i j li lj = rw e (simp (lt-ltb j 4 lj))

pub inside : (m n i : ℕ) → i < n → i * m + m ≤ n * m
inside m n i h = omega (arith, mul-le-mul_right m h, suc-mul i m)
