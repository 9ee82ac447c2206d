use Rattle.basics.proofs.Kit.{arith}
use Rattle.lanes.specs.Lanes.{row}
use Rattle.pass.proofs.Rows.{sums_first}
use Rattle.pass.proofs.advance_rows.Goals as goal

pub plus-xz-requires : goal.plus-xz-requires
plus-xz-requires c = (omega arith, rw c.load-x.ensures (sums_first _ _ (row c.args.t.now c.args.s) c.requires.s_z))

pub plus-yo-requires : goal.plus-yo-requires
plus-yo-requires c = (omega arith, rw c.load-y.ensures (sums_first _ _ (row c.args.t.now c.args.s) c.requires.u_o))

pub plus-yz-requires : goal.plus-yz-requires
plus-yz-requires c = (omega arith, rw c.load-y.ensures (sums_first _ _ (row c.args.t.now c.args.u) c.requires.u_z))

pub plus-xo-requires : goal.plus-xo-requires
plus-xo-requires c = (omega arith, rw c.load-x.ensures (sums_first _ _ (row c.args.t.now c.args.u) c.requires.s_o))
