-- The configuration is valid exactly where the word is a codeword.
use Rattle.basics.proofs.Kit.{◌≡◌, refl, sym, ◌∙◌, Bool, true, false, arith}
use mathlib.Core.Path.{subst}
use Rattle.refusal.specs.Refusal.{unless}
use Rattle.refusal.proofs.Outcomes.{outcome_done, outcome_refused}
use Rattle.join.specs.Calls.{JoinRight}
use Rattle.join.proofs.Joining.{symbols_small}
use Rattle.join.proofs.join_through.Goals as goal

refused : (b : Bool) → b ≡ false → 19 ≡ unless b 19 0
unfolding unless
refused b e = rw e refl

taken : (b : Bool) → b ≡ true → unless b 19 0 ≡ 0
unfolding unless
taken b e = rw e refl

pub returns-then-not-is_codeword : goal.returns-then-not-is_codeword
returns-then-not-is_codeword c =
    outcome_refused _ _ _ _ (refused _ (sym (c.is_codeword.ensures ∙ c.write_word.ensures.codeword_is) ∙ c.if-not-is_codeword.true)) (λ z. absurd (omega (arith, z))) refl

pub hand_over-requires-clause-symbols : goal.hand_over-requires-clause-symbols
hand_over-requires-clause-symbols c = symbols_small c.args.shape.m _ c.args.shape.numbers.width_is c.write_word.ensures.symbols

pub returns : goal.returns
returns c =
    let s = c.args.shape in
    outcome_done _ _ _ _ (taken _ (sym (c.is_codeword.ensures ∙ c.write_word.ensures.codeword_is) ∙ c.if-not-is_codeword.false)) refl
    (subst (JoinRight s.m s.r c.args.configuration c.args.bch.now) (sym c.hand_over.ensures) (c.write_word.ensures.right (sym c.is_codeword.ensures ∙ c.if-not-is_codeword.false)))
