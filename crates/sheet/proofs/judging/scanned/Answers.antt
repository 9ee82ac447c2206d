-- `sheet::scanned`: one digit more.
-- Assumes nothing.
use Rattle.basics.proofs.Kit.{◌≡◌, ◌-◌, ◌+◌, arith}
use Rattle.sheet.proofs.Turns.{digit, digits_done}
use Rattle.sheet.proofs.judging.scanned.Goals as goal

pub loop-preserved : goal.loop-preserved
loop-preserved c =
    let e : c.args.n - (c.loop.counter + 1) ≡ c.args.n - c.loop.counter - 1 = omega arith in
    rw (e, c.is_outside-good.ensures) (digit _ (omega arith) c.loop.invariant)

pub returns : goal.returns
returns c = let d = digits_done _ (omega arith) c.loop.invariant in record { rest_is = d.0; good_is = d.1 }
