-- `code::encode`: what the choice of the code is refused by, then what the call is, then the work.
-- Assumes nothing.
use Rattle.basics.proofs.Kit.{refl, sym, length}
use Rattle.refusal.proofs.Results.{handed_on}
use Rattle.code.specs.Calls.{encode_refusal, EncodeSays}
use Rattle.code.proofs.Accepted.{encode_accepts}
use Rattle.code.proofs.Chosen.{choice_refused, call_refused, call_done}
use Rattle.code.proofs.encode.Goals as goal

pub returns-in_err-shape : goal.returns-in_err-shape
unfolding EncodeSays
returns-in_err-shape c =
    rw (handed_on c.from_residual.result _ c.from_residual.ensures.1) (choice_refused c.args.choice c.shape.result c.shape.ensures.refused _ _ _ _ c.in_err-shape.was refl)

pub returns-in_err-check_message : goal.returns-in_err-check_message
unfolding EncodeSays
returns-in_err-check_message c =
    let s = c.shape.ensures in
    rw (handed_on c.from_residual-in_err-check_message.result _ c.from_residual-in_err-check_message.ensures.1)
    (call_refused c.args.choice c.shape.result s.refused (λ m r. encode_refusal m r c.args.message.now (length c.args.output.now)) s.m s.r _ c.in_ok-shape.was c.check_message.result c.check_message.ensures _ _ _ c.in_err-check_message.was refl)

pub write_codeword-requires : goal.write_codeword-requires
write_codeword-requires c = let z = c.in_ok-shape.shape.numbers in encode_accepts _ _ z.width_is z.few _ _ (sym c.in_ok-check_message.ensures)

pub returns : goal.returns
unfolding EncodeSays
returns c =
    let s = c.shape.ensures in
    call_done c.args.choice c.shape.result s.refused (λ m r. encode_refusal m r c.args.message.now (length c.args.output.now)) s.m s.r _ c.in_ok-shape.was c.check_message.result c.check_message.ensures _ _ _ c.in_ok-check_message.was
    (let w = c.write_codeword.ensures in rw (← c.in_ok-shape.ensures.m, ← c.in_ok-shape.ensures.r) (w.codeword, w.carried))
