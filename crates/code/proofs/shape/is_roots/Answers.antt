-- `code::shape::is_roots`: the bounds on r, and the product.
-- Assumes nothing.
use Rattle.basics.proofs.Kit.{◌≡◌, refl, ap, ◌∙◌, true, ℕ, ◌-◌, ◌*◌, ◌≤◌, ◌<◌, arith}
use borrow.Author.Tests.{le-leb, lt-leb}
use Rattle.field.specs.Field.{width_good}
use Rattle.code.specs.Code.{syndrome_long, configuration_long, roots_good}
use Rattle.code.proofs.Accepted.{syndrome_room, product_is, product_small}
use Rattle.code.proofs.shape.is_roots.Goals as goal

module _ (m r q : ℕ) (w : width_good m ≡ true) (h : r ≤ 6) (e : q ≡ syndrome_long m r) where
  product : m * (q - r) ≡ configuration_long m r
  product = ap (λ (q : ℕ). m * (q - r)) e ∙ product_is m r w h

  room : r ≤ q
  room = rw e (syndrome_room m r w h).0

pub overflow_sub-result : goal.overflow_sub-result
overflow_sub-result c = room c.args.m c.args.r _ c.requires (omega arith) c.syndrome_long_of.ensures

pub overflow_mul-result : goal.overflow_mul-result
overflow_mul-result c =
    let h : c.args.r ≤ 6 = omega arith in
    omega (arith, product c.args.m c.args.r _ c.requires h c.syndrome_long_of.ensures, product_small c.args.m c.args.r c.requires h)

pub returns-in-1-to-6 : goal.returns-in-1-to-6
unfolding roots_good
returns-in-1-to-6 c =
    let l : 1 ≤ c.args.r = omega arith in
    let h : c.args.r ≤ 6 = omega arith in
    rw (le-leb 1 c.args.r l, le-leb c.args.r 6 h, product c.args.m c.args.r _ c.requires h c.syndrome_long_of.ensures) refl

pub returns-in_default : goal.returns-in_default
unfolding roots_good
returns-in_default c = let l : c.args.r < 1 = omega arith in rw (lt-leb 1 c.args.r l) refl

pub returns-in_default-2 : goal.returns-in_default-2
unfolding roots_good
returns-in_default-2 c =
    let l : 1 ≤ c.args.r = omega arith in
    let h : 6 < c.args.r = omega arith in
    rw (le-leb 1 c.args.r l, lt-leb c.args.r 6 h) refl
