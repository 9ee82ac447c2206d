-- `practice::check_practice`: the count, the code, then the length of the output.
-- Assumes nothing.
use Rattle.basics.proofs.Kit.{◌≡◌, refl, sym, ap, ◌∙◌, ℕ, ◌+◌, ◌*◌, ◌≤◌, arith, true, length, eqb, leb}
use Rattle.std.proofs.Common.{mul-le-mul, leb-true}
use Rattle.refusal.specs.Refusal.{unless, first, number_of}
use Rattle.code.specs.Code.{number_refusal, width}
use Rattle.sheet.specs.Sheet.{reliabilities, most, written, question_long}
use Rattle.sheet.proofs.Checks.{stopped, passed_on, failed, held}
use Rattle.sheet.proofs.Forms.{rows_here, question_long_le}
use Rattle.sheet.proofs.Longest.{written_length}
use Rattle.sheet_writer.proofs.Lists.{tested}
use Rattle.practice.specs.Practice.{drawn}
use Rattle.practice.specs.Calls.{practice_refusal}
use Rattle.practice.specs.Within.{Refuses}
use Rattle.practice.proofs.Questions.{drawn_words}
use Rattle.practice.proofs.check_practice.Goals as goal

-- the sheet's length fits
small : (n k c : ℕ) → k ≡ question_long reliabilities (width c) → n ≤ 200 → (1 + k ≤ 76) × (n * (1 + k) ≤ 15200)
small n k c e h =
    let f : 1 + k ≤ 76 = omega (arith, question_long_le reliabilities c) in (f, mul-le-mul {n₂ = 200} {m₂ = 76} h f)

-- and is that of whatever is drawn
long_is : (c n k s : ℕ) → k ≡ question_long reliabilities (width c) → 4 * (n * (1 + k) + 1) ≡ length (written (drawn c n s))
unfolding drawn
long_is c n k s e =
    ap (λ (k : ℕ). 4 * (n * (1 + k) + 1)) e
    ∙ sym (written_length reliabilities (drawn c n s) ∙ ap (λ (k : ℕ). 4 * (k + 1)) (drawn_words reliabilities c n 1 s))

-- of questions that a sheet can hold
few : (c n s o : ℕ) → leb n 200 ≡ true → practice_refusal c n s o ≡ first (number_refusal c) (unless (eqb o (length (written (drawn c n s)))) 4 0)
unfolding practice_refusal most unless
few c n s o h = rw h refl

pub returns-in_err-ensure : goal.returns-in_err-ensure
unfolding Refuses practice_refusal most unless
returns-in_err-ensure c =
    let t = failed _ _ c.ensure.result c.ensure.ensures _ c.from_residual.result c.in_err-ensure.was c.from_residual.ensures.1 in
    λ s. ap number_of t.1 ∙ rw t.0 refl

pub returns-in_err-shape : goal.returns-in_err-shape
unfolding Refuses
returns-in_err-shape c =
    let h = held _ _ c.ensure.result c.ensure.ensures _ c.in_ok-ensure.was in
    let e = c.from_residual-in_err-shape in
    λ s. stopped c.shape.result _ _ c.shape.ensures.refused _ e.result c.in_err-shape.was e.ensures.1 ∙ sym (few c.args.code c.args.count s c.args.output h)

pub overflow_add-size : goal.overflow_add-size
overflow_add-size c =
    let h = held _ _ c.ensure.result c.ensure.ensures _ c.in_ok-ensure.was in
    record { fits = omega (arith, (small c.args.count _ c.args.code (rw (rows_here _) at c.question_words_of-size.ensures) (leb-true _ _ h)).0) }

pub overflow_mul-count : goal.overflow_mul-count
overflow_mul-count c =
    let h = held _ _ c.ensure.result c.ensure.ensures _ c.in_ok-ensure.was in
    record { fits = omega (arith, (small c.args.count _ c.args.code (rw (rows_here _) at c.question_words_of-size.ensures) (leb-true _ _ h)).1) }

pub overflow_add-count : goal.overflow_add-count
overflow_add-count c =
    let h = held _ _ c.ensure.result c.ensure.ensures _ c.in_ok-ensure.was in
    record { fits = omega (arith, (small c.args.count _ c.args.code (rw (rows_here _) at c.question_words_of-size.ensures) (leb-true _ _ h)).1) }

pub overflow_mul-count-2 : goal.overflow_mul-count-2
overflow_mul-count-2 c =
    let h = held _ _ c.ensure.result c.ensure.ensures _ c.in_ok-ensure.was in
    record { fits = omega (arith, (small c.args.count _ c.args.code (rw (rows_here _) at c.question_words_of-size.ensures) (leb-true _ _ h)).1) }

pub returns : goal.returns
unfolding Refuses
returns c =
    let h = held _ _ c.ensure.result c.ensure.ensures _ c.in_ok-ensure.was in
    λ s. tested _ _ c.ensure-2.result c.ensure-2.ensures
    ∙ ap (λ (o : ℕ). unless (eqb c.args.output o) 4 0) (long_is c.args.code c.args.count _ s (rw (rows_here _) at c.question_words_of-size.ensures))
    ∙ passed_on c.shape.result _ _ c.shape.ensures.refused _ c.in_ok-shape.was
    ∙ sym (few c.args.code c.args.count s c.args.output h)
