use Rattle.basics.proofs.Kit.{arith}
use native.Mathlib.Nat.{two-pow-succ}
use Rattle.coset.proofs.top_of.Goals as goal

pub returns : goal.returns
returns c =
    let e = c.ilog2.result in
    record { e = e; power = omega (arith, c.ilog2.ensures, c.ranges.h); low = omega (arith, c.ilog2.ensures, c.ranges.h); high = omega (arith, c.ilog2.ensures, two-pow-succ e) }
