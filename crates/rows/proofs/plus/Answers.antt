use Rattle.basics.proofs.Kit.{◌∙◌, arith}
use Rattle.rows.proofs.Rows.{sum_is}
use Rattle.rows.proofs.plus.Goals as goal

pub returns : goal.returns
returns g c =
    let each = g.met.C.Cost.one_by_one in
    each _
    ∙ rw (c.plus.ensures, c.plus-2.ensures, c.plus-3.ensures, c.plus-4.ensures)
    (sum_is each c.args.a c.args.b _ _ _ _ _ _ _ _ (omega arith) (omega arith))
