-- `code::check_word`: what the choice of the code is refused by, then what the call is, then the work.
-- Assumes nothing.
use Rattle.basics.proofs.Kit.{refl, sym}
use Rattle.refusal.proofs.Results.{handed_on}
use Rattle.code.specs.Calls.{check_refusal, CheckSays}
use Rattle.code.proofs.Accepted.{check_accepts}
use Rattle.code.proofs.Chosen.{choice_refused, call_refused, call_done}
use Rattle.code.proofs.check_word.Goals as goal

pub returns-in_err-shape : goal.returns-in_err-shape
unfolding CheckSays
returns-in_err-shape c =
    rw (handed_on c.from_residual.result _ c.from_residual.ensures.1) (choice_refused c.args.choice c.shape.result c.shape.ensures.refused _ _ _ _ c.in_err-shape.was tt)

pub returns-in_err-check_symbols : goal.returns-in_err-check_symbols
unfolding CheckSays
returns-in_err-check_symbols c =
    let s = c.shape.ensures in
    rw (handed_on c.from_residual-in_err-check_symbols.result _ c.from_residual-in_err-check_symbols.ensures.1)
    (call_refused c.args.choice c.shape.result s.refused (λ m r. check_refusal m c.args.word.now) s.m s.r _ c.in_ok-shape.was c.check_symbols.result c.check_symbols.ensures _ _ _ c.in_err-check_symbols.was tt)

pub is_codeword-requires : goal.is_codeword-requires
is_codeword-requires c = let z = c.in_ok-shape.shape.numbers in check_accepts _ _ z.width_is z.few _ (sym c.in_ok-check_symbols.ensures)

pub returns : goal.returns
unfolding CheckSays
returns c =
    let s = c.shape.ensures in
    call_done c.args.choice c.shape.result s.refused (λ m r. check_refusal m c.args.word.now) s.m s.r _ c.in_ok-shape.was c.check_symbols.result c.check_symbols.ensures _ _ _ c.in_ok-check_symbols.was
    (rw (← c.in_ok-shape.ensures.m, ← c.in_ok-shape.ensures.r, c.is_codeword.ensures) refl)
