-- Cosets: a syndrome is below their number, as is a column, and two words with the same syndrome have a sum with syndrome 0.
-- Assumes nothing.
use Rattle.basics.proofs.Kit.{ap, ◌∙◌, Bool, true, false, ◌&&◌, cond, ℕ, ◌+◌, ◌*◌, ◌^◌, ◌<◌, arith, eqb, leb}
use native.Mathlib.Nat.{mul-le-mul_left, mul-suc}
use lib.Dec.{T, leb→le, le→leb, lit<}
use lib.Pow.{pow-add}
use Rattle.field.specs.Field.{xor}
use Rattle.code.specs.Code.{value_at}
use Rattle.split.specs.Split.{number, syndrome, cosets}
use Rattle.split.specs.Promise.{SyndromeInside, SumIsBch}
use Rattle.field.proofs.Tests.{and_l}
use Rattle.field.proofs.Xor as X
use Rattle.code.proofs.Words.{Below}
use Rattle.split.proofs.Layers as L
use Rattle.split.proofs.Columns.{syndrome_sum}
use Rattle.split.proofs.Glue.{number_lt}

digit : (j k a b : ℕ) → a < 2 ^ j → b < 2 ^ k → a + 2 ^ j * b < 2 ^ (j + k)
digit j k a b ha hb = rw (pow-add 2 j k) (omega (arith, mul-le-mul_left (2 ^ j) hb, mul-suc (2 ^ j) b))

-- a value of so many bits that is there, or 0
there : (c : Bool) (v k : ℕ) → v < 2 ^ k → cond c v 0 < 2 ^ cond c k 0
there true v k h = h
there false v k h = lit< tt

upper : (c d : Bool) (m a b : ℕ) → (T d → T c) → a < 2 ^ m → b < 4 → cond c a 0 + 2 ^ m * cond d b 0 < 2 ^ (cond c m 0 + cond d 2 0)
upper true d m a b i ha hb = digit m (cond d 2 0) a (cond d b 0) ha (there d b 2 hb)
upper false true m a b i ha hb = absurd (i tt)
upper false false m a b i ha hb = omega arith

fifth_third : (r : ℕ) (b : Bool) → T (leb 5 r && b) → T (leb 3 r)
fifth_third r b t = le→leb 3 r (omega (arith, leb→le 5 r (and_l (leb 5 r) b t)))

-- a number from the values at α, α^3 and α^5
parts_inside : (m r x y z : ℕ) → x < 2 ^ m → y < 2 ^ m → x + 2 ^ m * (cond (leb 3 r) y 0 + 2 ^ m * cond (leb 5 r && eqb m 4) (number z) 0) < cosets m r
unfolding cosets
parts_inside m r x y z hx hy =
    digit m (cond (leb 3 r) m 0 + cond (leb 5 r && eqb m 4) 2 0) x _ hx
    (upper (leb 3 r) (leb 5 r && eqb m 4) m y (number z) (fifth_third r (eqb m 4)) hy (number_lt z))

pub syndrome_inside : SyndromeInside
unfolding SyndromeInside syndrome
syndrome_inside m r bs w b =
    let p : Below 2 bs = L.bits m bs b in
    parts_inside m r (value_at m 1 bs) (value_at m 3 bs) (value_at m 5 bs) (L.at_lt m w 1 bs p) (L.at_lt m w 3 bs p)

pub sum_is_bch : SumIsBch
unfolding SumIsBch
sum_is_bch m r bs ds w p q e = syndrome_sum m r bs ds w p q ∙ ap (xor (syndrome m r bs)) e ∙ X.self (syndrome m r bs)
