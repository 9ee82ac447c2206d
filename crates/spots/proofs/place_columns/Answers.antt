-- The columns of the places of each code.
-- Assumes nothing.
use Rattle.basics.proofs.Kit.{◌&&◌, eqb, ltb, not}
use borrow.Author.Tests.{eq-eqb, le-ltb, lt-ltb, ne_eqb}
use Rattle.code.specs.Code.{bch_dimension, configuration_long, long, message_long}
use Rattle.spots.specs.Filling.{all_place_columns, ten_columns}
use Rattle.tails.specs.Tails.{place_columns, step_count, turns}
use Rattle.spots.proofs.Cases.{the_list}
use Rattle.spots.proofs.place_columns.Goals as goal

pub returns-then-r-eq1 : goal.returns-then-r-eq1
unfolding all_place_columns ten_columns place_columns
returns-then-r-eq1 c = the_list all_place_columns (λ m r. eqb m 3 && eqb r 1) tt c.requires.0 (simp (eq-eqb _ 3 c.if-m-eq3.true, eq-eqb _ 1 c.if-r-eq1.true))

pub returns-then-r-eq3 : goal.returns-then-r-eq3
unfolding all_place_columns ten_columns place_columns
returns-then-r-eq3 c = the_list all_place_columns (λ m r. eqb m 3 && eqb r 3) tt c.requires.0 (simp (eq-eqb _ 3 c.if-m-eq3.true, eq-eqb _ 3 c.if-r-eq3.true))

pub returns-then-m-eq3 : goal.returns-then-m-eq3
unfolding all_place_columns ten_columns place_columns turns step_count configuration_long message_long bch_dimension long
returns-then-m-eq3 c = the_list all_place_columns (λ m r. ltb 1 (turns m r) && (eqb m 3 && (not (eqb r 1) && not (eqb r 3)))) tt c.requires.0 (simp (lt-ltb 1 _ c.requires.1, eq-eqb _ 3 c.if-m-eq3.true, ne_eqb _ 1 c.if-r-eq1.false, ne_eqb _ 3 c.if-r-eq3.false))

pub returns-then-r-lt2 : goal.returns-then-r-lt2
unfolding all_place_columns ten_columns place_columns
returns-then-r-lt2 c = the_list all_place_columns (λ m r. not (eqb m 3) && ltb r 2) tt c.requires.0 (simp (ne_eqb _ 3 c.if-m-eq3.false, lt-ltb _ 2 c.if-r-lt2.true))

pub returns-then-r-lt3 : goal.returns-then-r-lt3
unfolding all_place_columns ten_columns place_columns
returns-then-r-lt3 c = the_list all_place_columns (λ m r. not (eqb m 3) && (not (ltb r 2) && ltb r 3)) tt c.requires.0 (simp (ne_eqb _ 3 c.if-m-eq3.false, le-ltb _ 2 c.if-r-lt2.false, lt-ltb _ 3 c.if-r-lt3.true))

pub returns-then-r-lt5 : goal.returns-then-r-lt5
unfolding all_place_columns ten_columns place_columns
returns-then-r-lt5 c = the_list all_place_columns (λ m r. not (eqb m 3) && (not (ltb r 3) && ltb r 5)) tt c.requires.0 (simp (ne_eqb _ 3 c.if-m-eq3.false, le-ltb _ 3 c.if-r-lt3.false, lt-ltb _ 5 c.if-r-lt5.true))

pub returns : goal.returns
unfolding all_place_columns ten_columns place_columns
returns c = the_list all_place_columns (λ m r. not (eqb m 3) && not (ltb r 5)) tt c.requires.0 (simp (ne_eqb _ 3 c.if-m-eq3.false, le-ltb _ 5 c.if-r-lt5.false))
