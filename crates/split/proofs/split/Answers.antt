-- What the choice of the code is refused by, then what the call is, then the work.
use Rattle.basics.proofs.Kit.{refl, sym, ap, ◌∙◌, length}
use Rattle.refusal.proofs.Results.{handed_on}
use Rattle.code.specs.Bits.{row_long}
use Rattle.code.specs.Calls.{member_refusal}
use Rattle.code.proofs.Accepted.{member_accepts}
use Rattle.code.proofs.Chosen.{choice_refused, call_refused, call_done}
use Rattle.split.specs.Calls.{SplitSays}
use Rattle.split.proofs.split.Goals as goal

pub returns-in_err-shape : goal.returns-in_err-shape
unfolding SplitSays
returns-in_err-shape c =
    rw (handed_on c.from_residual.result _ c.from_residual.ensures.1) (choice_refused c.args.choice c.shape.result c.shape.ensures.refused _ _ _ _ c.in_err-shape.was (refl, refl))

pub returns-in_err-check_member : goal.returns-in_err-check_member
unfolding SplitSays
returns-in_err-check_member c =
    let s = c.shape.ensures in
    rw (handed_on c.from_residual-in_err-check_member.result _ c.from_residual-in_err-check_member.ensures.1)
    (call_refused c.args.choice c.shape.result s.refused (λ m r. member_refusal m r c.args.word.now (length c.args.bch.now) (row_long m)) s.m s.r _ c.in_ok-shape.was c.check_member.result (c.check_member.ensures ∙ ap (member_refusal _ _ _ _) c.in_ok-shape.shape.numbers.bits_is) _ _ _ c.in_err-check_member.was (refl, refl))

pub syndromes_of-configuration-requires : goal.syndromes_of-configuration-requires
syndromes_of-configuration-requires c = (member_accepts _ _ _ _ _ (sym c.in_ok-check_member.ensures)).count

pub write_layers-requires-clause-count : goal.write_layers-requires-clause-count
write_layers-requires-clause-count c = (member_accepts _ _ _ _ _ (sym c.in_ok-check_member.ensures)).count

pub write_layers-requires-clause-room : goal.write_layers-requires-clause-room
write_layers-requires-clause-room c = (member_accepts _ _ _ _ _ (sym c.in_ok-check_member.ensures)).room ∙ c.in_ok-shape.shape.numbers.bits_is

pub returns : goal.returns
unfolding SplitSays
returns c =
    let s = c.shape.ensures in
    call_done c.args.choice c.shape.result s.refused (λ m r. member_refusal m r c.args.word.now (length c.args.bch.now) (row_long m)) s.m s.r _ c.in_ok-shape.was c.check_member.result (c.check_member.ensures ∙ ap (member_refusal _ _ _ _) c.in_ok-shape.shape.numbers.bits_is) _ _ _ c.in_ok-check_member.was
    (rw (← c.in_ok-shape.ensures.m, ← c.in_ok-shape.ensures.r) c.write_layers.ensures)
