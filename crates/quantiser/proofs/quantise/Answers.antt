-- What the choice of the code is refused by, then what the call is, then the work.
use Rattle.basics.proofs.Kit.{refl, length}
use Rattle.refusal.proofs.Results.{handed_on}
use Rattle.code.proofs.Chosen.{choice_refused, call_refused, call_done}
use Rattle.quantiser.specs.Calls.{quantise_refusal, QuantiseSays}
use Rattle.quantiser.proofs.quantise.Goals as goal

pub returns-in_err-shape : goal.returns-in_err-shape
unfolding QuantiseSays
returns-in_err-shape c =
    rw (handed_on c.from_residual.result _ c.from_residual.ensures.1) (choice_refused c.args.choice c.shape.result c.shape.ensures.refused _ _ _ _ c.in_err-shape.was refl)

pub returns-in_err-check_samples : goal.returns-in_err-check_samples
unfolding QuantiseSays
returns-in_err-check_samples c =
    let s = c.shape.ensures in
    rw (handed_on c.from_residual-in_err-check_samples.result _ c.from_residual-in_err-check_samples.ensures.1)
    (call_refused c.args.choice c.shape.result s.refused (λ m r. quantise_refusal m c.args.samples.now (length c.args.row.now)) s.m s.r _ c.in_ok-shape.was c.check_samples.result c.check_samples.ensures _ _ _ c.in_err-check_samples.was refl)

pub returns : goal.returns
unfolding QuantiseSays
returns c =
    let s = c.shape.ensures in
    call_done c.args.choice c.shape.result s.refused (λ m r. quantise_refusal m c.args.samples.now (length c.args.row.now)) s.m s.r _ c.in_ok-shape.was c.check_samples.result c.check_samples.ensures _ _ _ c.in_ok-check_samples.was c.fill.ensures
