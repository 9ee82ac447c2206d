use Rattle.basics.proofs.Kit.{◌∙◌, arith}
use Rattle.rows.proofs.Rows.{numbers_long, numbers_row}
use Rattle.coset.proofs.pair.Goals as goal

pub plus-requires : goal.plus-requires
plus-requires g c =
    let row = numbers_row g.met.C.Cost.one_by_one c.args.t.now in
    (omega (arith, c.well_formed), rw (c.load-a.ensures, row c.args.s) c.requires.s_z)

pub plus-requires-2 : goal.plus-requires-2
plus-requires-2 g c =
    let row = numbers_row g.met.C.Cost.one_by_one c.args.t.now in
    (omega (arith, c.well_formed), rw (c.load-b.ensures, row c.args.u) c.requires.u_o)

pub plus-requires-3 : goal.plus-requires-3
plus-requires-3 g c =
    let row = numbers_row g.met.C.Cost.one_by_one c.args.t.now in
    (omega (arith, c.well_formed), rw (c.load-b.ensures, row c.args.u) c.requires.u_z)

pub plus-requires-4 : goal.plus-requires-4
plus-requires-4 g c =
    let row = numbers_row g.met.C.Cost.one_by_one c.args.t.now in
    (omega (arith, c.well_formed), rw (c.load-a.ensures, row c.args.s) c.requires.s_o)

pub store_least-requires : goal.store_least-requires
store_least-requires g c =
    let each = g.met.C.Cost.one_by_one in
    (omega (arith, c.well_formed), omega (arith, c.requires.s_in, numbers_long each c.args.t.now))

pub store_least-requires-2 : goal.store_least-requires-2
store_least-requires-2 g c =
    let each = g.met.C.Cost.one_by_one in
    (omega (arith, c.well_formed), omega (arith, c.requires.u_in, c.store_least.auto.t, numbers_long each c.args.t.now))

pub returns : goal.returns
returns g c =
    let row = numbers_row g.met.C.Cost.one_by_one c.args.t.now in
    c.store_least-2.ensures
    ∙ rw (
      c.store_least.ensures,
      c.plus.ensures,
      c.plus-2.ensures,
      c.plus-3.ensures,
      c.plus-4.ensures,
      c.load-a.ensures,
      c.load-b.ensures,
      row c.args.s,
      row c.args.u,
    )
