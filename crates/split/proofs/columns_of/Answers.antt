-- By a test of each table.
use Rattle.basics.proofs.Kit.{get_or, eqb}
use lib.Dec.{eqb→eq}
use Rattle.field.specs.Field.{xor, doubled, alpha}
use Rattle.field.proofs.Tests.{at, not_three}
use Rattle.code.specs.Code.{long}
use Rattle.split.specs.declared.tables.TheConstants.{COLUMNS_3, COLUMNS_4}
use Rattle.split.specs.Split.{number, column}
use Rattle.split.specs.Within.{Columns}
use Rattle.split.proofs.columns_of.Goals as goal

three : Columns 3 COLUMNS_3
unfolding long column number alpha doubled xor
three = record { each = λ i h. eqb→eq _ _ (at 7 (λ i. eqb (get_or COLUMNS_3 i 0) (column 3 6 i)) tt i h) }

four : Columns 4 COLUMNS_4
unfolding long column number alpha doubled xor
four = record { each = λ i h. eqb→eq _ _ (at 15 (λ i. eqb (get_or COLUMNS_4 i 0) (column 4 6 i)) tt i h) }

pub returns-then-m-eq3 : goal.returns-then-m-eq3
returns-then-m-eq3 c = rw c.if-m-eq3.true three

pub returns-else-m-eq3 : goal.returns-else-m-eq3
returns-else-m-eq3 c = rw (not_three c.args.m c.requires c.if-m-eq3.false) four
