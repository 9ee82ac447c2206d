-- What an accepted call of the decoder has passed.
-- Assumes nothing.
use Rattle.basics.proofs.Kit.{◌≡◌, sym, ap, ◌∙◌, List, ℕ, ◌*◌, ℤ}
use borrow.Author.Tests.{eqb-true}
use Rattle.refusal.proofs.Tests.{passed}
use Rattle.code.specs.declared.shape.Shape.{Shape}
use Rattle.code.specs.Bits.{row_long}
use Rattle.decoder.specs.Calls.{decode_refusal}
use Rattle.decoding.specs.Within.{Accepted}

pub decode_accepted : (s : Shape) (rs : List ℤ) (a b x : ℕ) → decode_refusal s.m rs a b x ≡ 0 → Accepted s rs a b x
unfolding decode_refusal row_long
decode_accepted s rs a b x e =
    let q = passed _ _ _ e in
    let p = passed _ _ _ q.1 in
    let t = passed _ _ _ p.1 in
    let u = passed _ _ _ t.1 in
    record {
      input = record { length_row = eqb-true _ _ q.0; good_row = (passed _ _ _ u.1).0 };
      long_word = eqb-true _ _ p.0 ∙ sym s.numbers.n_is;
      long_soft = eqb-true _ _ t.0 ∙ ap (λ (n : ℕ). n * s.m) (sym s.numbers.n_is);
      long_scratch = eqb-true _ _ u.0;
    }
