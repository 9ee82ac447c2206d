-- A test at each of the ten codes that may be chosen is a rule for all of them.
-- Assumes nothing.
use Rattle.basics.proofs.Kit.{◌≡◌, Bool, true, ◌&&◌, ℕ, zero, suc, ◌≤◌, ◌<◌, arith, leb}
use mathlib.Core.Logic.{◌⊎◌, inl, inr}
use native.Mathlib.Decide.{dec_le}
use lib.Dec.{T, leb→le}
use Rattle.field.specs.Field.{width_good}
use Rattle.field.proofs.Tests.{all, at, and_l, and_r, to_T, from_T, widths}
use Rattle.code.specs.Code.{long, message_long, bch_dimension, configuration_long, roots_good, accepted}

pub width_fine : (m r : ℕ) → accepted m r ≡ true → width_good m ≡ true
unfolding accepted
width_fine m r a = from_T (width_good m) (and_l (width_good m) (roots_good m r) (to_T a))

pub roots_few : (m r : ℕ) → accepted m r ≡ true → r ≤ 6
unfolding accepted roots_good
roots_few m r a =
    leb→le r 6 (and_r (leb 1 r) (leb r 6) (and_l (leb 1 r && leb r 6) (leb (configuration_long m r) 16) (and_r (width_good m) (roots_good m r) (to_T a))))

pub roots_some : (m r : ℕ) → accepted m r ≡ true → 1 ≤ r
unfolding accepted roots_good
roots_some m r a =
    leb→le 1 r (and_l (leb 1 r) (leb r 6) (and_l (leb 1 r && leb r 6) (leb (configuration_long m r) 16) (and_r (width_good m) (roots_good m r) (to_T a))))

-- r from 1 to 6 for m = 3; 1, 2, 4 and 6 for m = 4
abbrev pub ten : ((m r : ℕ) → Bool) → Bool
ten f = all 6 (λ r. f 3 (suc r)) && (all 2 (λ r. f 4 (suc r)) && (f 4 4 && f 4 6))

pub tested : (f : (m r : ℕ) → Bool) → T (ten f) → (m r : ℕ) → accepted m r ≡ true → T (f m r)
unfolding accepted roots_good configuration_long message_long bch_dimension long width_good
tested f t m r a = widths (λ (m : ℕ). accepted m r ≡ true → T (f m r)) (three r) (four r) m (width_fine m r a) a
  where
    threes : T (all 6 (λ r. f 3 (suc r)))
    threes = and_l (all 6 (λ r. f 3 (suc r))) _ t

    fours : T (all 2 (λ r. f 4 (suc r)) && (f 4 4 && f 4 6))
    fours = and_r (all 6 (λ r. f 3 (suc r))) _ t

    last : T (f 4 4 && f 4 6)
    last = and_r (all 2 (λ r. f 4 (suc r))) _ fours

    three : (r : ℕ) → accepted 3 r ≡ true → T (f 3 r)
    three zero a = absurd (to_T a)
    three (suc r) a = at 6 (λ r. f 3 (suc r)) threes r (roots_few 3 (suc r) a)

    four : (r : ℕ) → accepted 4 r ≡ true → T (f 4 r)
    four zero a = absurd (to_T a)
    four (suc zero) a = at 2 (λ r. f 4 (suc r)) (and_l (all 2 (λ r. f 4 (suc r))) _ fours) 0 (omega arith)
    four (suc (suc zero)) a = at 2 (λ r. f 4 (suc r)) (and_l (all 2 (λ r. f 4 (suc r))) _ fours) 1 (omega arith)
    four (suc (suc (suc zero))) a = absurd (to_T a)
    four (suc (suc (suc (suc zero)))) a = and_l (f 4 4) (f 4 6) last
    four (suc (suc (suc (suc (suc zero))))) a = absurd (to_T a)
    four (suc (suc (suc (suc (suc (suc zero)))))) a = and_r (f 4 4) (f 4 6) last
    four (suc (suc (suc (suc (suc (suc (suc r))))))) a = absurd (omega (arith, roots_few 4 (suc (suc (suc (suc (suc (suc (suc r))))))) a))

pub le_or_lt : (a b : ℕ) → (a ≤ b) ⊎ (b < a)
le_or_lt a b = go (dec_le a b)
  where
    go : Dec (a ≤ b) → (a ≤ b) ⊎ (b < a)
    go (yes h) = inl h
    go (no h) = inr (omega arith)
