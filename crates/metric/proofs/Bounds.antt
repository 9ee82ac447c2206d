-- What a row of reliabilities can weigh, and a word cost; the size of a metric.
-- Assumes nothing.
use Rattle.basics.proofs.Kit.{◌≡◌, refl, true, cond, List, [], ◌∷◌, ℕ, zero, suc, ◌+◌, ◌*◌, ◌≤◌, arith, length, get_or, eqb, ℤ, pos, negsuc, nat_abs, ◌+ℤ◌, ◌-ℤ◌}
use native.Mathlib.Nat.{suc-mul}
use borrow.Author.Tests.{leb-true, le-leb}
use lib.Dec.{eqb-suc-zero}
use Rattle.field.proofs.Tests.{and_l, and_r, to_T, from_T}
use Rattle.code.specs.Bits.{all_bits}
use Rattle.metric.specs.Row.{row_bound, reliability_good, row_good}
use Rattle.metric.specs.Metric.{metric_of, metric}
use Rattle.metric.specs.Cost.{cost_zero, cost_one, choose, discrepancy, weight_of, cost}
use Rattle.metric.proofs.Integers.{size, plus_size, minus_size}

module _ (b : ℕ) where
  module _ (r : ℤ) (rs : List ℤ) (g : row_good b (r ∷ rs) ≡ true) where
    pub row_first : reliability_good b r ≡ true
    unfolding row_good
    row_first = from_T (reliability_good b r) (and_l (reliability_good b r) (row_good b rs) (to_T g))

    pub row_rest : row_good b rs ≡ true
    unfolding row_good
    row_rest = from_T (row_good b rs) (and_r (reliability_good b r) (row_good b rs) (to_T g))

  -- each entry of a row, and what is read past its end, is a reliability
  pub row_at : (rs : List ℤ) (i : ℕ) → row_good b rs ≡ true → reliability_good b (get_or rs i (pos 0)) ≡ true
  unfolding reliability_good
  row_at [] i g = le-leb 0 b (omega arith)
  row_at (r ∷ rs) zero g = row_first r rs g
  row_at (r ∷ rs) (suc i) g = row_at rs i (row_rest r rs g)

  pub costs_le : (r : ℤ) → reliability_good b r ≡ true → cost_zero r + cost_one r ≤ b
  unfolding reliability_good
  costs_le (pos n) g = omega (arith, leb-true n b g)
  costs_le (negsuc n) g = omega (arith, leb-true (suc n) b g)

  pub weight_le : (rs : List ℤ) → row_good b rs ≡ true → weight_of rs ≤ length rs * b
  unfolding weight_of
  weight_le [] g = omega arith
  weight_le (r ∷ rs) g = rw (suc-mul (length rs) b) (omega (arith, costs_le r (row_first r rs g), weight_le rs (row_rest r rs g)))

  -- a metric is at most the bound an entry
  pub metric_size : (rs : List ℤ) (bs : List ℕ) → row_good b rs ≡ true → nat_abs (metric_of rs bs) ≤ length rs * b
  unfolding metric_of
  metric_size [] bs f = omega arith
  metric_size (r ∷ rs) [] f = omega arith
  metric_size (r ∷ rs) (d ∷ bs) f = rw (suc-mul (length rs) b) (go d (metric_size rs bs (row_rest r rs f)))
    where
      x : ℤ
      x = metric_of rs bs

      go : (d : ℕ) → nat_abs x ≤ length rs * b → nat_abs (cond (eqb d 0) (x +ℤ r) (x -ℤ r)) ≤ length rs * b + b
      go zero h = omega (arith, plus_size x r, size r, costs_le r (row_first r rs f))
      go (suc d) h = rw (eqb-suc-zero d) (omega (arith, minus_size x r, size r, costs_le r (row_first r rs f)))

-- a row of smaller entries is a row
pub row_wider : (a b : ℕ) (rs : List ℤ) → a ≤ b → row_good a rs ≡ true → row_good b rs ≡ true
unfolding row_good reliability_good
row_wider a b [] h g = refl
row_wider a b (r ∷ rs) h g =
    rw (le-leb (nat_abs r) b (omega (arith, leb-true (nat_abs r) a (row_first a r rs g)))) (row_wider a b rs h (row_rest a r rs g))

chosen : (b x y : ℕ) → choose b x y ≤ x + y
chosen zero x y = omega arith
chosen (suc b) x y = omega arith

pub discrepancy_le : (rs : List ℤ) (bs : List ℕ) → discrepancy rs bs ≤ weight_of rs
unfolding discrepancy weight_of
discrepancy_le [] bs = omega arith
discrepancy_le (r ∷ rs) [] = omega arith
discrepancy_le (r ∷ rs) (b ∷ bs) = omega (arith, chosen b (cost_zero r) (cost_one r), discrepancy_le rs bs)

pub cost_le : (m : ℕ) (rs : List ℤ) (ws : List ℕ) → cost m rs ws ≤ weight_of rs
unfolding cost
cost_le m rs ws = discrepancy_le rs (all_bits m ws)

pub word_size : (m : ℕ) (rs : List ℤ) (ws : List ℕ) → length rs ≤ 60 → row_good row_bound rs ≡ true → nat_abs (metric m rs ws) ≤ 7620
unfolding metric
word_size m rs ws n f = omega (arith, metric_size row_bound rs (all_bits m ws) f)
