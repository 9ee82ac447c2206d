use Rattle.std.proofs.Common.{◌^◌, ◌<◌, arith}
use Rattle.lanes.specs.Lanes.{lane}
use Rattle.lanes.proofs.Rows as R
use Rattle.ties.specs.Turn.{four}
use Rattle.ties.proofs.Symbols.{less, more, by_bits}
use Rattle.ties.proofs.comes_before.Goals as goal

pub returns : goal.returns
unfolding less more
returns c =
    let a = c.args in
    let w = four a.w0 a.w1 a.w2 a.w3 in
    let v = four a.v0 a.v1 a.v2 a.v3 in
    by_bits w v
    (R.four (λ j. lane w j < 2 ^ 16) (omega arith) (omega arith) (omega arith) (omega arith))
    (R.four (λ j. lane v j < 2 ^ 16) (omega arith) (omega arith) (omega arith) (omega arith))
