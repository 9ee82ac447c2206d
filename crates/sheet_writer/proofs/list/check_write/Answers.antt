-- `sheet_writer::check_write`: the counts, the list, then the length of the output.
-- Assumes nothing.
use Rattle.basics.proofs.Kit.{◌≡◌, refl, sym, ap, ◌∙◌, true, false, List, ℕ, ◌+◌, ◌*◌, ◌≤◌, arith, length, eqb, leb, ℤ}
use borrow.Author.Tests.{leb-true, eqb-true}
use Rattle.refusal.specs.Refusal.{unless, first, number_of}
use Rattle.sheet.specs.declared.form.Form.{Form}
use Rattle.sheet.specs.Sheet.{most}
use Rattle.sheet.proofs.Checks.{stopped, passed_on, failed, held}
use Rattle.sheet_writer.specs.Calls.{list_refusal, write_refusal}
use Rattle.sheet_writer.specs.Within.{words_needed}
use Rattle.sheet_writer.proofs.Lists.{needed_le, tested}
use Rattle.sheet_writer.proofs.Writing.{sheet_long}
use Rattle.sheet_writer.proofs.list.check_write.Goals as goal

module _ (f : Form) (cs ns : List ℕ) (rs : List ℤ) (ws : List ℕ) (o : ℕ) where
  too_many : leb (length cs) 200 ≡ false → write_refusal f cs ns rs ws o ≡ 12
  unfolding write_refusal most unless
  too_many h = rw h refl

  not_paired : leb (length cs) 200 ≡ true → eqb (length cs) (length ns) ≡ false → write_refusal f cs ns rs ws o ≡ 12
  unfolding write_refusal most unless
  not_paired h l = rw (h, l) refl

  paired : leb (length cs) 200 ≡ true → eqb (length cs) (length ns) ≡ true → {k : ℕ} → k ≡ words_needed f cs →
      write_refusal f cs ns rs ws o ≡ first (list_refusal f cs ns rs ws) (unless (eqb o (4 * (k + 1))) 4 0)
  unfolding write_refusal most unless
  paired h l e = rw (h, l, sheet_long f cs ns rs ws (eqb-true _ _ l), e) refl

small : (f : Form) (cs : List ℕ) {n : ℕ} → n ≡ words_needed f cs → length cs ≤ 200 → n ≤ 15200
small f cs e h = omega (arith, needed_le f cs)

pub returns-in_err-ensure : goal.returns-in_err-ensure
returns-in_err-ensure c =
    let t = failed _ _ c.ensure.result c.ensure.ensures _ c.from_residual.result c.in_err-ensure.was c.from_residual.ensures.1 in
    ap number_of t.1 ∙ sym (too_many c.args.f _ _ _ _ c.args.output t.0)

pub returns-in_err-ensure-2 : goal.returns-in_err-ensure-2
returns-in_err-ensure-2 c =
    let e = c.from_residual-in_err-ensure-2 in
    let h = held _ _ c.ensure.result c.ensure.ensures _ c.in_ok-ensure.was in
    let t = failed _ _ c.ensure-2.result c.ensure-2.ensures _ e.result c.in_err-ensure-2.was e.ensures.1 in
    ap number_of t.1 ∙ sym (not_paired c.args.f _ _ _ _ c.args.output h t.0)

pub returns-in_err-check_list : goal.returns-in_err-check_list
returns-in_err-check_list c =
    let h = held _ _ c.ensure.result c.ensure.ensures _ c.in_ok-ensure.was in
    let l = held _ _ c.ensure-2.result c.ensure-2.ensures _ c.in_ok-ensure-2.was in
    stopped c.check_list.result _ _ c.check_list.ensures _ _ c.in_err-check_list.was c.from_residual-in_err-check_list.ensures.1
    ∙ sym (paired c.args.f _ _ _ _ c.args.output h l refl)

pub overflow_add-long : goal.overflow_add-long
overflow_add-long c =
    let h = held _ _ c.ensure.result c.ensure.ensures _ c.in_ok-ensure.was in
    record { fits = omega (arith, small c.args.f c.args.questions.codes.now c.needed.ensures (leb-true _ _ h)) }

pub overflow_mul-long : goal.overflow_mul-long
overflow_mul-long c =
    let h = held _ _ c.ensure.result c.ensure.ensures _ c.in_ok-ensure.was in
    record { fits = omega (arith, small c.args.f c.args.questions.codes.now c.needed.ensures (leb-true _ _ h)) }

pub returns : goal.returns
returns c =
    let h = held _ _ c.ensure.result c.ensure.ensures _ c.in_ok-ensure.was in
    let l = held _ _ c.ensure-2.result c.ensure-2.ensures _ c.in_ok-ensure-2.was in
    tested _ _ c.ensure-3.result c.ensure-3.ensures ∙ passed_on c.check_list.result _ _ c.check_list.ensures _ c.in_ok-check_list.was
    ∙ sym (paired c.args.f _ _ _ _ c.args.output h l c.needed.ensures)
