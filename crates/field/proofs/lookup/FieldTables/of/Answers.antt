-- `field::FieldTables::of`: the tables of both fields are right.
-- Assumes nothing.
use Rattle.basics.proofs.Kit.{sym}
use Rattle.field.proofs.Tests.{not_three}
use Rattle.field.proofs.Tables.{tables_3, tables_4}
use Rattle.field.proofs.lookup.FieldTables.of.Goals as goal

pub invariant_of-result : goal.invariant_of-result
invariant_of-result c = record { right = tables_3 }

pub invariant_of-result-2 : goal.invariant_of-result-2
invariant_of-result-2 c = record { right = tables_4 }

pub returns : goal.returns
returns c = sym (not_three c.args.m c.requires c.if-m-eq3.false)
