use Rattle.std.proofs.Common.{refl, arith}
use Rattle.walk.proofs.Shifts.{one_more}
use Rattle.walk.proofs.shift.Goals as goal

pub returns : goal.returns
returns c =
    let s = c.requires.0 in
    record {
      place_is = refl;
      row = c.row_at-row.ensures;
      lanes = λ x lx. omega (arith, c.exchanged-total.ensures x lx, s.row x lx, c.row_at-row.ensures x lx);
      count = one_more c.args.p c.args.e c.args.n c.requires.1;
    }
