-- `sheet_reader::answer_at`: no head, other lengths, or a question.
-- Assumes nothing.
use Rattle.basics.proofs.Kit.{◌≡◌, refl, sym, ap, ap₂, ◌∙◌, Bool, true, false, ◌&&◌, cond, ℕ, eqb}
use Rattle.std.specs.Prelude.{Some, None, Ok, Err}
use borrow.Author.Tests.{eq-eqb, ne_eqb}
use Rattle.code.specs.declared.shape.Shape.{Shape}
use Rattle.code.specs.Code.{width}
use Rattle.sheet.specs.Sheet.{kind, head_code, low, head_kind}
use Rattle.sheet.proofs.Checks.{failed, held}
use Rattle.sheet_reader.specs.Answer.{numbered, asked}
use Rattle.sheet_reader.specs.Within.{answered}
use Rattle.sheet_reader.proofs.answer_at.Goals as goal
use Rattle.sheet_reader.proofs.answer_at.Goals.{then-row-shape, else-row-shape}

none_is : (w row word : ℕ) → (kind w ≡ 1 → ⊥) → Ok None ≡ answered w row word
unfolding answered head_kind
none_is w row word h = rw (ne_eqb (kind w) 1 h) refl

answer_is : (w row word : ℕ) (s : Shape) → s.m ≡ width (head_code w) → kind w ≡ 1 → (b : Bool) → (eqb row s.bits && eqb word s.n) ≡ b →
    answered w row word ≡ cond b (Ok (Some (asked (head_code w) (low w)))) (Err 4)
unfolding answered head_kind
answer_is w row word s m k b e = rw (eq-eqb (kind w) 1 k, ← m, ← s.numbers.bits_is, ← s.numbers.n_is, e) refl

pub returns-then-kind_of-ne-HEAD : goal.returns-then-kind_of-ne-HEAD
returns-then-kind_of-ne-HEAD c = none_is _ _ _ (λ e. c.if-kind_of-ne-HEAD.true (c.kind_of.ensures ∙ ap kind c.word_at-w.ensures ∙ e))

pub returns-in_err-ensure : goal.returns-in_err-ensure
returns-in_err-ensure c =
    let w = c.word_at-w.ensures in
    let s = c.numbered-shape.result in
    let t = failed _ _ c.ensure.result c.ensure.ensures _ c.from_residual.result c.in_err-ensure.was c.from_residual.ensures.1 in
    let fits : c.if-row-shape.ensure ≡ (eqb c.args.row s.bits && eqb c.args.word s.n) =
    elim c.if-row-shape.branch [
      | then-row-shape v ↦ rw (eq-eqb c.args.row c.numbered-shape.result.bits v.if-row-shape.true) v.ensure-is
      | else-row-shape v ↦ let e = ne_eqb c.args.row c.numbered-shape.result.bits v.if-row-shape.false in rw e (v.ensure-is ∙ e)
    ] in
    ap numbered t.1
    ∙ sym (answer_is _ c.args.row c.args.word s (c.numbered-shape.ensures.m ∙ ap width (c.head_code_of-code.ensures ∙ ap (λ (x : ℕ). head_code x) w))
    (sym (ap kind w) ∙ (sym c.kind_of.ensures ∙ c.if-kind_of-ne-HEAD.false)) false (sym fits ∙ t.0))

pub returns : goal.returns
returns c =
    let w = c.word_at-w.ensures in
    let s = c.numbered-shape.result in
    let t = held _ _ c.ensure.result c.ensure.ensures _ c.in_ok-ensure.was in
    let fits : c.if-row-shape.ensure ≡ (eqb c.args.row s.bits && eqb c.args.word s.n) =
    elim c.if-row-shape.branch [
      | then-row-shape v ↦ rw (eq-eqb c.args.row c.numbered-shape.result.bits v.if-row-shape.true) v.ensure-is
      | else-row-shape v ↦ let e = ne_eqb c.args.row c.numbered-shape.result.bits v.if-row-shape.false in rw e (v.ensure-is ∙ e)
    ] in
    ap₂ (λ (a b : ℕ). Ok (Some (asked a b))) (c.head_code_of-code.ensures ∙ ap (λ (x : ℕ). head_code x) w) (c.low_of-number.ensures ∙ ap (λ (x : ℕ). low x) w)
    ∙ sym (answer_is _ c.args.row c.args.word s (c.numbered-shape.ensures.m ∙ ap width (c.head_code_of-code.ensures ∙ ap (λ (x : ℕ). head_code x) w))
    (sym (ap kind w) ∙ (sym c.kind_of.ensures ∙ c.if-kind_of-ne-HEAD.false)) true (sym fits ∙ t))
