-- The columns of each code.
-- Assumes nothing.
use Rattle.basics.proofs.Kit.{◌&&◌, eqb, ltb, not}
use borrow.Author.Tests.{eq-eqb, le-ltb, lt-ltb, ne_eqb}
use Rattle.code.specs.Code.{long}
use Rattle.tails.specs.Tails.{columns, heads, tail_columns}
use Rattle.spots.proofs.Cases.{of_first}
use Rattle.spots.proofs.columns.Goals as goal

pub returns-then-r-lt3 : goal.returns-then-r-lt3
unfolding heads tail_columns columns long
returns-then-r-lt3 c = of_first _ (λ m r. eqb m 3 && ltb r 3) tt c.requires (simp (eq-eqb _ 3 c.if-m-eq3.true, lt-ltb _ 3 c.if-r-lt3.true))

pub returns-then-m-eq3 : goal.returns-then-m-eq3
unfolding heads tail_columns columns long
returns-then-m-eq3 c = of_first _ (λ m r. eqb m 3 && not (ltb r 3)) tt c.requires (simp (eq-eqb _ 3 c.if-m-eq3.true, le-ltb _ 3 c.if-r-lt3.false))

pub returns-then-r-lt3-2 : goal.returns-then-r-lt3-2
unfolding heads tail_columns columns long
returns-then-r-lt3-2 c = of_first _ (λ m r. not (eqb m 3) && ltb r 3) tt c.requires (simp (ne_eqb _ 3 c.if-m-eq3.false, lt-ltb _ 3 c.if-r-lt3-2.true))

pub returns-then-r-eq4 : goal.returns-then-r-eq4
unfolding heads tail_columns columns long
returns-then-r-eq4 c = of_first _ (λ m r. not (eqb m 3) && eqb r 4) tt c.requires (simp (ne_eqb _ 3 c.if-m-eq3.false, eq-eqb _ 4 c.if-r-eq4.true))

pub returns : goal.returns
unfolding heads tail_columns columns long
returns c = of_first _ (λ m r. not (eqb m 3) && (not (ltb r 3) && not (eqb r 4))) tt c.requires (simp (ne_eqb _ 3 c.if-m-eq3.false, le-ltb _ 3 c.if-r-lt3-2.false, ne_eqb _ 4 c.if-r-eq4.false))
