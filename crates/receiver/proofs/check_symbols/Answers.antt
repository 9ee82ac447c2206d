-- Refused by nothing but a sample.
use Rattle.basics.proofs.Kit.{◌≡◌, sym, true, eqb, length}
use Rattle.refusal.proofs.Results.{goes_on}
use Rattle.code.specs.Bits.{row_long}
use Rattle.receiver.specs.Receive.{taken, total}
use Rattle.receiver.specs.Within.{bits}
use Rattle.receiver.proofs.Outcomes.{samples_left}
use Rattle.receiver.proofs.check_symbols.Goals as goal

pub returns : goal.returns
returns c =
    let z = c.args.shape.numbers in
    let k = c.in_ok-counts.ensures in
    let ks = c.args.kinds.now in
    let room : eqb c.args.output (row_long c.args.shape.m) ≡ true = rw z.bits_is at (goes_on _ _ _ (sym c.in_ok-ensure.ensures)) in
    let filled : eqb (total bits ks) (row_long c.args.shape.m) ≡ true = rw (k.bits, z.bits_is) at (goes_on _ _ _ (sym c.in_ok-ensure-2.ensures)) in
    let spent : eqb (total taken ks) (length c.args.samples.now) ≡ true = rw k.samples at (goes_on _ _ _ (sym c.in_ok-ensure-3.ensures)) in
    samples_left c.args.shape.m ks c.args.samples.now c.args.output c.ensure-4.result room k.refused filled spent (rw c.any_nan.ensures at c.ensure-4.ensures)
