use Rattle.basics.proofs.Kit.{[], ◌∷◌, ap, ◌∙◌, refl, arith}
use Rattle.lanes.specs.Lanes.{put}
use Rattle.lanes.proofs.Rows.{put_is}
use Rattle.rows.proofs.Rows.{less_is, numbers_put}
use Rattle.rows.proofs.store_least.Goals as goal

pub returns : goal.returns
returns g c =
    let numbers = g.C.Cost.numbers in
    let each = g.met.C.Cost.one_by_one in
    let t = c.args.t.now in
    let s = c.args.s in
    let r = c.least.result ∷ c.least-2.result ∷ c.least-3.result ∷ c.least-4.result ∷ [] in
    ap numbers (put_is t s r c.least.result c.least-2.result c.least-3.result c.least-4.result c.requires refl)
    ∙ numbers_put each t s r
    ∙ ap (put (numbers t) s) (each r
    ∙ rw (c.least.ensures, c.least-2.ensures, c.least-3.ensures, c.least-4.ensures)
    (less_is each c.args.a c.args.b _ _ _ _ _ _ _ _ (omega arith) (omega arith)))
