-- An integer z is cost_one z - cost_zero z: sums, differences, equality and order of integers become facts of natural numbers, which omega reads.
-- Assumes nothing.
use Rattle.basics.proofs.Kit.{◌≡◌, refl, sym, ap, Bool, true, false, not, cond, ℕ, zero, suc, ◌+◌, ◌-◌, ◌≤◌, ◌<◌, arith, ltb, ℤ, pos, negsuc, nat_abs, ◌+ℤ◌, ◌-ℤ◌}
use mathlib.Core.Bool.{false≢true}
use borrow.Author.Tests.{ltb-true, ltb-false}
use lib.IntN.{sub_ℕ}
use Rattle.metric.specs.Metric.{is_neg, at_most}
use Rattle.metric.specs.Cost.{cost_zero, cost_one}

sub : (a b : ℕ) → cost_one (sub_ℕ a b) + b ≡ cost_zero (sub_ℕ a b) + a
sub a b = go (ltb a b) refl
  where
    go : (t : Bool) → ltb a b ≡ t →
        cost_one (cond t (negsuc (b - suc a)) (pos (a - b))) + b ≡ cost_zero (cond t (negsuc (b - suc a)) (pos (a - b))) + a
    go true e = omega (arith, ltb-true)
    go false e = omega (arith, ltb-false)

pub plus : (x y : ℤ) → cost_one (x +ℤ y) + (cost_zero x + cost_zero y) ≡ cost_zero (x +ℤ y) + (cost_one x + cost_one y)
plus (pos a) (pos b) = omega arith
plus (pos a) (negsuc b) = omega (arith, sub a (suc b))
plus (negsuc a) (pos b) = omega (arith, sub b (suc a))
plus (negsuc a) (negsuc b) = omega arith

pub minus : (x y : ℤ) → cost_one (x -ℤ y) + (cost_zero x + cost_one y) ≡ cost_zero (x -ℤ y) + (cost_one x + cost_zero y)
minus x (pos zero) = plus x (pos zero)
minus x (pos (suc n)) = plus x (negsuc n)
minus x (negsuc n) = plus x (pos (suc n))

pub same : (x y : ℤ) → cost_one x + cost_zero y ≡ cost_one y + cost_zero x → x ≡ y
same (pos a) (pos b) e = ap pos (omega arith)
same (pos a) (negsuc b) e = absurd (omega arith)
same (negsuc a) (pos b) e = absurd (omega arith)
same (negsuc a) (negsuc b) e = ap negsuc (omega arith)

-- the size
pub size : (z : ℤ) → cost_zero z + cost_one z ≡ nat_abs z
size (pos n) = omega arith
size (negsuc n) = omega arith

pub size_le : (z : ℤ) (k : ℕ) → cost_one z ≤ cost_zero z + k → cost_zero z ≤ cost_one z + k → nat_abs z ≤ k
size_le (pos n) k p q = omega arith
size_le (negsuc n) k p q = omega arith

pub plus_size : (x y : ℤ) → nat_abs (x +ℤ y) ≤ nat_abs x + nat_abs y
plus_size x y = size_le (x +ℤ y) (nat_abs x + nat_abs y) (omega (arith, plus x y, size x, size y)) (omega (arith, plus x y, size x, size y))

pub minus_size : (x y : ℤ) → nat_abs (x -ℤ y) ≤ nat_abs x + nat_abs y
minus_size x y = size_le (x -ℤ y) (nat_abs x + nat_abs y) (omega (arith, minus x y, size x, size y)) (omega (arith, minus x y, size x, size y))

-- the sign
not_negative : (z : ℤ) → cost_zero z ≤ cost_one z → not (is_neg z) ≡ true
unfolding is_neg
not_negative (pos n) h = refl
not_negative (negsuc n) h = absurd (omega arith)

negative : (z : ℤ) → cost_one z < cost_zero z → not (is_neg z) ≡ false
unfolding is_neg
negative (pos n) h = absurd (omega arith)
negative (negsuc n) h = refl

is_not_negative : (z : ℤ) → not (is_neg z) ≡ true → cost_zero z ≤ cost_one z
unfolding is_neg
is_not_negative (pos n) e = omega arith
is_not_negative (negsuc n) e = absurd (false≢true e)

is_negative : (z : ℤ) → not (is_neg z) ≡ false → cost_one z < cost_zero z
unfolding is_neg
is_negative (pos n) e = absurd (false≢true (sym e))
is_negative (negsuc n) e = omega arith

-- the order and its failure, both ways
pub le_at_most : (x y : ℤ) → cost_one x + cost_zero y ≤ cost_one y + cost_zero x → at_most x y ≡ true
unfolding at_most
le_at_most x y h = not_negative (y -ℤ x) (omega (arith, minus y x))

pub gt_at_most : (x y : ℤ) → cost_one y + cost_zero x < cost_one x + cost_zero y → at_most x y ≡ false
unfolding at_most
gt_at_most x y h = negative (y -ℤ x) (omega (arith, minus y x))

pub at_most_true : (x y : ℤ) → at_most x y ≡ true → cost_one x + cost_zero y ≤ cost_one y + cost_zero x
unfolding at_most
at_most_true x y e = omega (arith, minus y x, is_not_negative (y -ℤ x) e)

pub at_most_false : (x y : ℤ) → at_most x y ≡ false → cost_one y + cost_zero x < cost_one x + cost_zero y
unfolding at_most
at_most_false x y e = omega (arith, minus y x, is_negative (y -ℤ x) e)

pub at_most_refl : (x : ℤ) → at_most x x ≡ true
at_most_refl x = le_at_most x x (omega arith)

pub at_most_antisym : (x y : ℤ) → at_most x y ≡ true → at_most y x ≡ true → x ≡ y
at_most_antisym x y p q = same x y (omega (arith, at_most_true x y p, at_most_true y x q))
