-- The cost of a word is the sum of its layers' costs.
-- Assumes nothing.
use Rattle.basics.proofs.Kit.{◌≡◌, refl, sym, ap, ap₂, ◌∙◌, Bool, true, false, cond, List, [], ◌∷◌, ◌++◌, ℕ, zero, suc, ◌+◌, ◌*◌, ◌/◌, ◌%◌, ◌^◌, ◌≤◌, ◌<◌, arith, length, get_or, drop, ltb, ℤ, pos}
use mathlib.Core.Path.{fun_ext}
use native.Mathlib.Nat.{suc-mul, zero-mul, mul-le-mul_right, div-one, div-div-eq-div-mul, pow-succ'}
use lib.ListN.{length-drop}
use lib.Seq.{get_or-drop, drop-drop}
use Rattle.field.specs.Field.{width_good}
use Rattle.field.proofs.Tests.{widths}
use Rattle.code.specs.Code.{long}
use Rattle.code.specs.Bits.{bits_of, all_bits, row_long}
use Rattle.split.specs.Split.{layer}
use Rattle.metric.specs.Cost.{cost_zero, cost_one, choose, discrepancy, cost}
use Rattle.trellis.specs.Trellis.{pick}
use Rattle.trellis.specs.Trellis as T
use Rattle.trellis.specs.Rows as R
use Rattle.lanes.specs.Lanes as N
use Rattle.walk.specs.Walk.{sum4}
use Rattle.bridge.specs.Bridge.{Costed}

-- f 0 + f 1 + .., so many of them
total : ℕ → (ℕ → ℕ) → ℕ
total zero f = 0
total (suc k) f = f 0 + total k (λ i. f (suc i))

pub next : (x j : ℕ) → x / 2 ^ suc j % 2 ≡ x / 2 / 2 ^ j % 2
next x j = rw (pow-succ' 2 j, ← div-div-eq-div-mul x 2 (2 ^ j))

pub first : (x : ℕ) → x / 2 ^ 0 % 2 ≡ x % 2
first x = rw (div-one x)

total_same : (k : ℕ) {f g : ℕ → ℕ} → ((i : ℕ) → f i ≡ g i) → total k f ≡ total k g
total_same k h = ap (total k) (fun_ext h)

-- what bit j of a symbol contradicts of a row's entries
part : (x : ℕ) → List ℤ → (j : ℕ) → ℕ
part x rs j = choose (x / 2 ^ j % 2) (cost_zero (get_or rs j (pos 0))) (cost_one (get_or rs j (pos 0)))

-- one symbol
symbol : (k x : ℕ) (rs : List ℤ) (bs : List ℕ) → k ≤ length rs → discrepancy rs (bits_of k x ++ bs) ≡ total k (part x rs) + discrepancy (drop k rs) bs
unfolding discrepancy bits_of total part
symbol zero x rs bs h = omega arith
symbol (suc k) x [] bs h = absurd (omega arith)
symbol (suc k) x (r ∷ rs) bs h =
    omega (
      arith,
      symbol k (x / 2) rs bs (omega arith),
      ap (λ (b : ℕ). choose b (cost_zero r) (cost_one r)) (first x),
      total_same k {f = λ i. part x (r ∷ rs) (suc i)} {g = part (x / 2) rs} (λ i. ap (λ (b : ℕ). choose b (cost_zero (get_or rs i (pos 0))) (cost_one (get_or rs i (pos 0)))) (next x i)),
    )

nothing : (rs : List ℤ) → discrepancy rs [] ≡ 0
unfolding discrepancy
nothing [] = refl
nothing (r ∷ rs) = refl

-- a layer that the width has not got costs nothing
in_four : (m : ℕ) → width_good m ≡ true → (f : ℕ → ℕ) → total m f ≡ sum4 (λ j. cond (ltb j m) (f j) 0)
unfolding total
in_four m w = widths (λ (m : ℕ). (f : ℕ → ℕ) → total m f ≡ sum4 (λ j. cond (ltb j m) (f j) 0)) (λ f. omega arith) (λ f. omega arith) m w

picked : (t : Bool) (b : ℕ) (z : ℤ) → pick b (cost_zero (cond t z (pos 0))) (cost_one (cond t z (pos 0))) ≡ cond t (choose b (cost_zero z) (cost_one z)) 0
picked true zero z = refl
picked true (suc b) z = refl
picked false zero z = refl
picked false (suc b) z = refl

module _ (m : ℕ) (w : width_good m ≡ true) (rs : List ℤ) (hs zs os : List ℕ) (y : Costed m (long m) rs zs os) (l : length rs ≡ row_long m) where
  lane_part : (i j x : ℕ) → i < long m → j < 4 → pick (x / 2 ^ j % 2) (N.entry zs i j) (N.entry os i j) ≡ cond (ltb j m) (part x (drop (i * m) rs) j) 0
  unfolding part
  lane_part i j x li lj =
      ap₂ (pick (x / 2 ^ j % 2)) (y.zeros i j li lj) (y.ones i j li lj)
      ∙ picked (ltb j m) (x / 2 ^ j % 2) (get_or rs (i * m + j) (pos 0))
      ∙ ap (λ (z : ℤ). cond (ltb j m) (choose (x / 2 ^ j % 2) (cost_zero z) (cost_one z)) 0) (sym (get_or-drop (i * m) rs j (pos 0)))

  cost_from : (i : ℕ) (ws : List ℕ) → i + length ws ≤ long m → discrepancy (drop (i * m) rs) (all_bits m ws) ≡ sum4 (λ j. T.cost (R.layer hs zs os j) i (layer j ws))
  unfolding all_bits T.cost layer row_long
  cost_from i [] h = nothing (drop (i * m) rs)
  cost_from i (x ∷ xs) h =
      let li : i < long m = omega arith in
      let fits : m ≤ length (drop (i * m) rs) = omega (arith, length-drop (i * m) rs, l, mul-le-mul_right m li, suc-mul i m) in
      omega (
        arith,
        symbol m x (drop (i * m) rs) (all_bits m xs) fits,
        in_four m w (part x (drop (i * m) rs)),
        ap (λ (q : List ℤ). discrepancy q (all_bits m xs)) (drop-drop m (i * m) rs ∙ ap (λ (k : ℕ). drop k rs) (sym (suc-mul i m))),
        cost_from (suc i) xs (omega arith),
        lane_part i 0 x li (omega arith),
        lane_part i 1 x li (omega arith),
        lane_part i 2 x li (omega arith),
        lane_part i 3 x li (omega arith),
      )

  -- THE COST IS THE LAYERS' COSTS
  pub by_layers : (ws : List ℕ) → length ws ≡ long m → cost m rs ws ≡ sum4 (λ j. T.cost (R.layer hs zs os j) 0 (layer j ws))
  unfolding cost
  by_layers ws e = ap (λ (k : ℕ). discrepancy (drop k rs) (all_bits m ws)) (sym (zero-mul m)) ∙ cost_from 0 ws (omega arith)
