-- `sheet::question_words_of`: a code has few items.
-- Assumes nothing.
use Rattle.basics.proofs.Kit.{◌≡◌, refl, ap₂, ℕ, ◌+◌, arith}
use Rattle.code.specs.declared.shape.Shape.{Shape}
use Rattle.sheet.specs.declared.form.Form.{Form}
use Rattle.sheet.specs.Sheet.{symbols, count, row_words, symbol_words, question_long}
use Rattle.sheet.proofs.Forms.{symbols_here, count_le, bits_le, n_le}
use Rattle.sheet.proofs.words.question_words_of.Goals as goal

pub count_of-requires : goal.count_of-requires
count_of-requires c = omega (arith, bits_le c.numbered-shape.result)

pub count_of-requires-2 : goal.count_of-requires-2
count_of-requires-2 c = omega (arith, n_le c.numbered-shape.result)

pub overflow_add-result : goal.overflow_add-result
overflow_add-result c =
    let s = c.numbered-shape.result in
    omega (arith, c.count_of.ensures, rw (symbols_here _) at c.count_of-2.ensures, count_le c.args.f s.bits, count_le symbols s.n, bits_le s, n_le s)

long_is : (f : Form) (s : Shape) {m a b : ℕ} → s.m ≡ m → a ≡ count f s.bits → b ≡ count symbols s.n → a + b ≡ question_long f m
unfolding question_long row_words symbol_words
long_is f s e p q = ap₂ ◌+◌ (rw (p, s.numbers.bits_is, e) refl) (rw (q, s.numbers.n_is, e) refl)

pub returns : goal.returns
returns c = long_is c.args.f c.numbered-shape.result c.numbered-shape.ensures.m c.count_of.ensures (rw (symbols_here _) at c.count_of-2.ensures)
