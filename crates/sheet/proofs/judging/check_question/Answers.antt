-- `sheet::check_question`: the code, the row, then the word.
-- Assumes nothing.
use Rattle.basics.proofs.Kit.{◌≡◌, sym, ap, ◌∙◌, List, ℕ, ◌+◌, ◌/◌, ◌^◌, arith, drop}
use lib.Seq.{drop-drop}
use Rattle.code.specs.Code.{width, long}
use Rattle.code.specs.Bits.{row_long}
use Rattle.sheet.specs.declared.form.Form.{Form}
use Rattle.sheet.specs.Sheet.{symbols, as_words, count, after_row, row_words, items_refusal, row_refusal, symbol_refusal, question_refusal}
use Rattle.sheet.specs.Within.{RowForm, outside}
use Rattle.sheet.proofs.Checks.{stopped, passed_on}
use Rattle.sheet.proofs.Forms.{symbols_here, count_le, bits_le, n_le}
use Rattle.sheet.proofs.Turns.{row_judged, symbols_judged}
use Rattle.sheet.proofs.judging.check_question.Goals as goal

row_is : {f : Form} → RowForm f → (m : ℕ) (ws : List ℕ) {n e : ℕ} → n ≡ row_long m →
    e ≡ items_refusal f 5 (outside (f.base / 2) (f.base / 2 + 1)) (count f n) n ws → e ≡ row_refusal f m ws
row_is z m ws b h = rw b at h ∙ row_judged z m ws

word_is : (f : Form) (m at : ℕ) (ws : List ℕ) {k b n size e : ℕ} → k ≡ count f b → b ≡ row_long m → n ≡ long m → size ≡ 2 ^ m →
    e ≡ items_refusal symbols 6 (outside size 16) (count symbols n) n (drop (at + k) ws) → e ≡ symbol_refusal m (after_row f m (drop at ws))
unfolding after_row row_words
word_is f m at ws k b n s h = rw (n, s, k, b) at h ∙ symbols_judged m _ ∙ ap (symbol_refusal m) (sym (drop-drop (count f (row_long m)) at ws))

pub returns-in_err-shape : goal.returns-in_err-shape
unfolding question_refusal
returns-in_err-shape c = stopped c.shape.result _ _ c.shape.ensures.refused _ _ c.in_err-shape.was c.from_residual.ensures.1

pub check_items-requires-clause-few : goal.check_items-requires-clause-few
check_items-requires-clause-few c = omega (arith, bits_le c.in_ok-shape.shape)

pub check_items-requires-clause-place_fits : goal.check_items-requires-clause-place_fits
check_items-requires-clause-place_fits c = omega (arith, bits_le c.in_ok-shape.shape)

pub returns-in_err-check_items : goal.returns-in_err-check_items
unfolding question_refusal
returns-in_err-check_items c =
    let s = c.in_ok-shape.shape in
    let h = row_is c.requires.row_form (width c.args.code) _ (s.numbers.bits_is ∙ ap row_long c.in_ok-shape.ensures.m) c.check_items.ensures in
    stopped c.check_items.result _ _ h _ _ c.in_err-check_items.was c.from_residual-in_err-check_items.ensures.1
    ∙ passed_on c.shape.result _ _ c.shape.ensures.refused _ c.in_ok-shape.was

pub count_of-requires : goal.count_of-requires
count_of-requires c = omega (arith, bits_le c.in_ok-shape.shape)

pub overflow_add-behind : goal.overflow_add-behind
overflow_add-behind c = record { fits = omega (arith, c.count_of.ensures, count_le c.args.f c.in_ok-shape.shape.bits, bits_le c.in_ok-shape.shape) }

pub check_items-requires-2-clause-few : goal.check_items-requires-2-clause-few
check_items-requires-2-clause-few c = omega (arith, n_le c.in_ok-shape.shape)

pub check_items-requires-2-clause-place_fits : goal.check_items-requires-2-clause-place_fits
check_items-requires-2-clause-place_fits c =
    let s = c.in_ok-shape.shape in omega (arith, c.count_of.ensures, count_le c.args.f s.bits, bits_le s, n_le s)

pub returns : goal.returns
unfolding question_refusal
returns c =
    let s = c.in_ok-shape.shape in let m = c.in_ok-shape.ensures.m in
    let h = row_is c.requires.row_form (width c.args.code) _ (s.numbers.bits_is ∙ ap row_long m) c.check_items.ensures in
    word_is c.args.f (width c.args.code) c.args.at (as_words c.args.sheet.now) c.count_of.ensures (s.numbers.bits_is ∙ ap row_long m) (s.numbers.n_is ∙ ap long m)
    (c.size-size.ensures ∙ ap (λ (x : ℕ). 2 ^ x) m) (rw (symbols_here _) at c.check_items-2.ensures)
    ∙ passed_on c.check_items.result _ _ h _ c.in_ok-check_items.was
    ∙ passed_on c.shape.result _ _ c.shape.ensures.refused _ c.in_ok-shape.was
