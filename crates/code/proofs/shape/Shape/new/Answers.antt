-- `code::Shape::new`: the numbers that follow from m and r.
-- Assumes nothing.
use Rattle.basics.proofs.Kit.{◌≡◌, refl, ap, true, ℕ, ◌-◌, ◌<◌, arith}
use native.Mathlib.Nat.{one-mul, mod-eq_of_lt}
use lib.Pow.{pow-lt}
use Rattle.field.specs.Field.{width_good}
use Rattle.code.specs.Code.{long, message_long, syndrome_long, accepted}
use Rattle.code.proofs.Accepted.{accepted_parts, syndrome_short}
use Rattle.code.proofs.shape.Shape.new.Goals as goal

fine : (m r : ℕ) → accepted m r ≡ true → width_good m ≡ true
fine m r h = (accepted_parts m r h).wide

few : (m r : ℕ) → accepted m r ≡ true → r < long m
few m r h = (accepted_parts m r h).few

short : (m r q : ℕ) → accepted m r ≡ true → q ≡ syndrome_long m r → q < 64
short m r q h e = rw e (syndrome_short m r (fine m r h))

pub long_of-n-requires : goal.long_of-n-requires
long_of-n-requires c = fine _ _ c.requires

pub syndrome_long_of-q-requires : goal.syndrome_long_of-q-requires
syndrome_long_of-q-requires c = fine _ _ c.requires

pub row_long_of-requires : goal.row_long_of-requires
row_long_of-requires c = fine _ _ c.requires

pub overflow_sub-result : goal.overflow_sub-result
overflow_sub-result c = omega (arith, few _ _ c.requires, c.long_of-n.ensures)

pub overflow_shl-result : goal.overflow_shl-result
overflow_shl-result c = short _ _ _ c.requires c.syndrome_long_of-q.ensures

pub invariant_of-result : goal.invariant_of-result
unfolding message_long
invariant_of-result c = record {
  numbers = record {
    accepted_is = c.requires;
    width_is = fine _ _ c.requires;
    few = few _ _ c.requires;
    n_is = c.long_of-n.ensures;
    k_is = ap (λ (n : ℕ). n - c.args.r) c.long_of-n.ensures;
    bits_is = c.row_long_of.ensures;
    q_is = c.syndrome_long_of-q.ensures;
    size_is = rw (one-mul, mod-eq_of_lt (pow-lt (short _ _ _ c.requires c.syndrome_long_of-q.ensures))) refl;
  };
}
