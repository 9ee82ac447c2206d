-- What is drawn, one reliability after another, and the state after it.
-- Assumes nothing.
use Rattle.basics.proofs.Kit.{◌≡◌, refl, ap, ap₂, Bool, true, false, ◌&&◌, cond, List, [], ◌∷◌, ◌++◌, ℕ, zero, suc, ◌+◌, ◌-◌, ◌%◌, ◌≤◌, ◌<◌, arith, length, ltb, ℤ, pos, negsuc, nat_abs}
use Rattle.std.proofs.Common.{suc-add, zero-add, w16, SFits, ltb-false, ltb-true, le-leb}
use lib.IntN.{sub_ℕ}
use Rattle.metric.specs.Row.{reliability_good, row_good}
use Rattle.practice.specs.Practice.{advanced, draw, reliability, row_drawn, after}

-- less 127
less_size : (d k : ℕ) → d ≤ 127 + k → 127 ≤ k → nat_abs (sub_ℕ d 127) ≤ k
less_size d k h l = go (ltb d 127) refl
  where
    go : (t : Bool) → ltb d 127 ≡ t → nat_abs (cond t (negsuc (127 - suc d)) (pos (d - 127))) ≤ k
    go true e = omega (arith, ltb-true d 127 e)
    go false e = omega (arith, ltb-false d 127 e)

small : (z : ℤ) → nat_abs z ≤ 1000 → SFits w16 z
small (pos n) h = record { sfits = omega (arith, h) }
small (negsuc n) h = record { sfits = omega (arith, h) }

pub less_fits : (d : ℕ) → d < 1000 → SFits w16 (sub_ℕ d 127)
less_fits d h = small (sub_ℕ d 127) (less_size d 1000 (omega arith) (omega arith))

reliable : (s : ℕ) → reliability_good 127 (reliability s) ≡ true
unfolding reliability_good reliability
reliable s = le-leb _ 127 (less_size (draw s % 255) 127 (omega arith) (omega arith))

-- a row that is drawn
pub row_fine : (n s : ℕ) → row_good 127 (row_drawn n s) ≡ true
unfolding row_good row_drawn
row_fine zero s = refl
row_fine (suc n) s = ap₂ ◌&&◌ (reliable (advanced s)) (row_fine n (advanced s))

pub row_length : (n s : ℕ) → length (row_drawn n s) ≡ n
unfolding row_drawn
row_length zero s = refl
row_length (suc n) s = ap suc (row_length n (advanced s))

pub after_next : (n s : ℕ) → advanced (after n s) ≡ after (suc n) s
unfolding after
after_next zero s = refl
after_next (suc n) s = after_next n (advanced s)

pub row_next : (n s : ℕ) → row_drawn n s ++ reliability (advanced (after n s)) ∷ [] ≡ row_drawn (suc n) s
unfolding row_drawn after
row_next zero s = refl
row_next (suc n) s = ap (λ (l : List ℤ). reliability (advanced s) ∷ l) (row_next n (advanced s))

pub after_sum : (a b s : ℕ) → after b (after a s) ≡ after (a + b) s
unfolding after
after_sum zero b s = rw (zero-add b)
after_sum (suc a) b s = rw (suc-add a b) (after_sum a b (advanced s))
