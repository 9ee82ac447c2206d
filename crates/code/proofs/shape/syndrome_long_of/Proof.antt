-- `code::shape::syndrome_long_of` meets its contract.
-- Assumes nothing.
use Rattle.basics.proofs.Kit.{◌≤◌, ◌<◌, arith}
use borrow.Author.Tests.{lt-leb, le-leb, eq-eqb, ne_eqb}
use Rattle.code.proofs.Accepted.{width_small}
use Rattle.code.proofs.shape.syndrome_long_of.Statement.{statement}
use Rattle.code.proofs.shape.syndrome_long_of.Tie as tie

small : (c : tie.Start) → c.args.m ≤ 4
small c = width_small c.args.m c.requires

returns : tie.Need-returns-then-r-lt3
returns c = let r = c.before.args.r in let h : r < 5 = omega arith in rw (lt-leb 3 r c.if-r-lt3.true, lt-leb 5 r h) (omega arith)

returns-3 : tie.Need-returns-then-m-eq4
returns-3 c = let e = c.before in rw (le-leb 3 _ e.before.if-r-lt3.false, le-leb 5 _ e.if-r-lt5.false, eq-eqb _ 4 c.if-m-eq4.true) (omega arith)

returns-4 : tie.Need-returns-else-m-eq4
returns-4 c = let e = c.before in rw (le-leb 3 _ e.before.if-r-lt3.false, le-leb 5 _ e.if-r-lt5.false, ne_eqb _ 4 c.if-m-eq4.false) (omega arith)

pub syndrome_long_of_spec : {M : Type 1} → statement M
syndrome_long_of_spec =
    tie.close
    (tie.spec
    returns
    (λ c. omega (arith, small c.before.before))
    (λ c. rw (le-leb 3 _ c.before.if-r-lt3.false, lt-leb 5 _ c.if-r-lt5.true) (omega arith))
    (λ c. omega (arith, small c.before.before.before))
    (λ c. omega (arith, small c.before.before.before))
    (λ c. omega (arith, small c.before.before.before))
    returns-3
    returns-4)
