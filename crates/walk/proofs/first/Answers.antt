use Rattle.walk.proofs.Turns.{begun}
use Rattle.walk.proofs.first.Goals as goal

pub returns : goal.returns
returns c =
    begun c.args.f.now c.args.sl.now _ _ _ _ _ c.row_at-r0.ensures c.row_at-r1.ensures c.row_at-r2.ensures c.row_at-r3.ensures c.sum_of-total.ensures
