use Rattle.basics.proofs.Kit.{◌∙◌, arith}
use Rattle.rows.proofs.Rows.{less_is}
use Rattle.rows.proofs.least.Goals as goal

pub returns : goal.returns
returns g c =
    let each = g.met.C.Cost.one_by_one in
    each _
    ∙ rw (c.least.ensures, c.least-2.ensures, c.least-3.ensures, c.least-4.ensures)
    (less_is each c.args.a c.args.b _ _ _ _ _ _ _ _ (omega arith) (omega arith))
