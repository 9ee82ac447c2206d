use Rattle.softs.proofs.Writing.{row_ok, rows_more}
use Rattle.softs.proofs.soft_rows.Goals as goal

pub soft_row-requires : goal.soft_row-requires
soft_row-requires c =
    let a = c.args in
    rw (c.load.ensures, c.load-in-loop-i.ensures) (row_ok a.m a.n a.zero.now a.one.now a.soft.now c.requires c.loop-i.i c.loop-i.soft c.loop-i.invariant c.loop-i-test.true)

pub loop-i-preserved : goal.loop-i-preserved
loop-i-preserved c =
    let a = c.args in
    let e = rw (c.load.ensures, c.load-in-loop-i.ensures) at c.soft_row.ensures in
    rows_more a.m a.n a.zero.now a.one.now a.soft.now c.requires c.loop-i.i c.loop-i.soft c.loop-i.invariant c.loop-i-test.true c.soft_row.new.soft e
