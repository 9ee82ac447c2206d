-- The statements of specs/Laws.antt, from the tests of Field.antt.
-- Assumes nothing.
use Rattle.basics.proofs.Kit.{◌≡◌, refl, sym, ap, ◌∙◌, Bool, true, false, ◌||◌, not, cond, ℕ, ◌-◌, ◌^◌, ◌<◌, eqb, leb}
use mathlib.Core.Path.{subst}
use lib.Dec.{T}
use lib.Arith.{lt→nleb}
use Rattle.field.specs.Field.{width_good, xor, doubled, alpha}
use Rattle.field.specs.Laws.{Fields, Powers}
use Rattle.field.proofs.Tests.{all, at, widths}
use Rattle.field.proofs.Xor as X
use Rattle.field.proofs.Field as F

nonzero : (b : Bool) → b ≡ false → T (not b)
nonzero b e = subst (λ (x : Bool). T (not x)) (sym e) tt

pub fields : Fields
unfolding Fields
fields m a b d w ha hb hd = record {
  sum_inside = X.below m a b ha hb;
  sum_commutes = X.comm a b;
  sum_associates = sym (X.assoc a b d);
  sum_neutral = X.zero_l a;
  sum_opposite = X.self a;
  product_inside = F.times_lt m w a b ha hb;
  product_commutes = F.times_comm m w a b ha hb;
  product_associates = sym (F.times_assoc m w a b d ha hb hd);
  product_neutral = F.times_one m w a ha;
  distributes = F.times_add_r m w a b d ha hb hd;
  inverse_inside = F.inverse_lt m w a ha;
  inverse_right = λ n. F.times_inverse m w a ha ∙ ap (λ (x : Bool). cond x 0 1) n;
  inverse_of_zero = F.inverse_zero m w;
  no_zero_divisors = λ e n. F.no_divisor m w a b ha hb (nonzero (eqb a 0) n) e;
  square_of_sum = F.square_add m w a b ha hb;
}

-- no power from 1 to 2^m - 2 is 1
turn : (m : ℕ) → width_good m ≡ true → (e : ℕ) → e < 2 ^ m - 1 → T (leb e 0 || not (eqb (alpha m e) 1))
unfolding xor doubled alpha
turn m w e h =
    at (2 ^ m - 1) (λ e. leb e 0 || not (eqb (alpha m e) 1))
    (widths (λ m. T (all (2 ^ m - 1) (λ e. leb e 0 || not (eqb (alpha m e) 1)))) tt tt m w) e h

no_less : (a b : Bool) → T (not a) → T (a || not b) → b ≡ false
no_less true b p t = absurd p
no_less false true p t = absurd t
no_less false false p t = refl

pub powers : Powers
unfolding Powers xor doubled alpha
powers m w = record {
  inside = F.alpha_lt m w;
  add = F.alpha_add m w;
  whole_turn = widths (λ (m : ℕ). alpha m (2 ^ m - 1) ≡ 1) refl refl m w;
  no_less = λ e l h. no_less (leb e 0) (eqb (alpha m e) 1) (lt→nleb e 0 l) (turn m w e h);
}
