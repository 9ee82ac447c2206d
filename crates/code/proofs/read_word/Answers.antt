-- `code::read_word`: what the choice of the code is refused by, then what the call is, then the work.
-- Assumes nothing.
use Rattle.basics.proofs.Kit.{◌≡◌, refl, sym, ap, ◌∙◌, List, ℕ, ◌-◌, ◌≤◌, length, arith}
use Rattle.refusal.proofs.Results.{handed_on, taken}
use Rattle.code.specs.Code.{message_long}
use Rattle.code.specs.Calls.{member_refusal, ReadSays}
use Rattle.std.specs.Prelude.{Result, Ok}
use Rattle.refusal.specs.declared.Refusal.{Refusal}
use Rattle.refusal.specs.Refusal.{number_of}
use Rattle.code.specs.declared.shape.Shape.{Shape}
use Rattle.code.specs.Code.{message}
use Rattle.code.proofs.Parts.{tail_is, tail_long}
use Rattle.code.proofs.Accepted.{Member, member_accepts}
use Rattle.code.proofs.Chosen.{choice_refused, call_refused, call_done}
use Rattle.code.proofs.read_word.Goals as goal

pub returns-in_err-shape : goal.returns-in_err-shape
unfolding ReadSays
returns-in_err-shape c =
    rw (handed_on c.from_residual.result _ c.from_residual.ensures.1) (choice_refused c.args.choice c.shape.result c.shape.ensures.refused _ _ _ _ c.in_err-shape.was refl)

pub returns-in_err-check_member : goal.returns-in_err-check_member
unfolding ReadSays
returns-in_err-check_member c =
    let s = c.shape.ensures in
    rw (handed_on c.from_residual-in_err-check_member.result _ c.from_residual-in_err-check_member.ensures.1)
    (call_refused c.args.choice c.shape.result s.refused (λ m r. member_refusal m r c.args.word.now (length c.args.output.now) (message_long m r)) s.m s.r _ c.in_ok-shape.was c.check_member.result (c.check_member.ensures ∙ ap (member_refusal _ _ _ _) c.in_ok-shape.shape.numbers.k_is) _ _ _ c.in_err-check_member.was refl)

-- the word is a codeword, and so of n symbols
readable : {A : Type 0} (s : Shape) (b : Result A Refusal) (x : A) (ws : List ℕ) (o : ℕ) → number_of b ≡ member_refusal s.m s.r ws o s.k → b ≡ Ok x → Member s.m s.r ws o s.k
readable s b x ws o says f = member_accepts _ _ _ _ _ (taken b _ says x f)

starts : (s : Shape) (ws : List ℕ) (o : ℕ) → Member s.m s.r ws o s.k → s.r ≤ length ws
starts s ws o m = omega (arith, s.numbers.few, m.count)

fits : (s : Shape) (ws : List ℕ) (o : ℕ) → Member s.m s.r ws o s.k → length ws - s.r ≡ o
unfolding message_long
fits s ws o m = ap (λ (n : ℕ). n - s.r) m.count ∙ (sym s.numbers.k_is ∙ sym m.room)

pub slice_bounds-copy-count : goal.slice_bounds-copy-count
slice_bounds-copy-count c = let s = c.in_ok-shape.shape in starts s _ _ (readable s _ _ _ _ c.check_member.ensures c.in_ok-check_member.was)

pub slice_bounds-copy-start : goal.slice_bounds-copy-start
slice_bounds-copy-start c = let s = c.in_ok-shape.shape in starts s _ _ (readable s _ _ _ _ c.check_member.ensures c.in_ok-check_member.was)

pub copy-requires : goal.copy-requires
copy-requires c =
    let s = c.in_ok-shape.shape in
    tail_long c.args.word.now s.r ∙ fits s _ _ (readable s _ _ _ _ c.check_member.ensures c.in_ok-check_member.was)

pub returns : goal.returns
unfolding ReadSays message
returns c =
    let s = c.shape.ensures in
    call_done c.args.choice c.shape.result s.refused (λ m r. member_refusal m r c.args.word.now (length c.args.output.now) (message_long m r)) s.m s.r _ c.in_ok-shape.was c.check_member.result (c.check_member.ensures ∙ ap (member_refusal _ _ _ _) c.in_ok-shape.shape.numbers.k_is) _ _ _ c.in_ok-check_member.was
    (rw (← c.in_ok-shape.ensures.r) (c.copy.ensures ∙ tail_is c.args.word.now c.in_ok-shape.shape.r))
