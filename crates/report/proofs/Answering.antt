-- A question that a sheet can hold is refused by neither decoder nor marker, so what they say makes its line.
-- Assumes nothing.
use Rattle.basics.proofs.Kit.{◌≡◌, refl, sym, ap, ◌∙◌, true, List, ℕ, ◌+◌, ◌*◌, ◌≤◌, arith, length, ℤ}
use borrow.Author.Tests.{eq-eqb}
use Rattle.refusal.specs.Refusal.{unless}
use Rattle.code.specs.declared.shape.Shape.{Shape}
use Rattle.code.specs.Code.{width, roots, is_codeword}
use Rattle.code.specs.Bits.{row_long}
use Rattle.code.proofs.Promise.{of_shape, of_number}
use Rattle.metric.specs.declared.Verdict.{Verdict}
use Rattle.metric.specs.Metric.{Decoded, Marked}
use Rattle.metric.specs.Scratch.{scratch_long}
use Rattle.metric.specs.Verdict.{verdict_number, shortfall_of}
use Rattle.decoding.specs.Within.{Accepted}
use Rattle.decoding.proofs.Decodings.{decoded_as}
use Rattle.marker.specs.Calls.{mark_refusal}
use Rattle.sheet.specs.Sheet.{Question, reliabilities, question_good}
use Rattle.sheet.proofs.Trips.{Good, good_parts}
use Rattle.text.specs.Text.{bits_field, least_magnitude, question_line}
use Rattle.text.specs.declared.Writer.{Writer}
use Rattle.text.specs.Writer.{Room, Puts}
use Rattle.report.specs.Listing.{Line}
use Rattle.report.specs.Calls.{line_most}
use Rattle.report.specs.Within.{PutLine}
use Rattle.report.proofs.Bounds.{line_fits}

module _ (q : Question) (g : question_good reliabilities q ≡ true) where
  abbrev good : Good reliabilities q
  good = good_parts reliabilities q g

  module _ (s : Shape) (m_is : s.m ≡ width q.code) (r_is : s.r ≡ roots q.code) where
    -- nothing is refused
    pub accepted : {word soft scratch : ℕ} → word ≡ s.n → soft ≡ s.bits → scratch ≡ scratch_long → Accepted s q.row word soft scratch
    unfolding row_long
    accepted ew es ex =
        record {
          input = record { length_row = good.row_length ∙ ap row_long (sym m_is); good_row = good.row_fine };
          long_word = ew;
          long_soft = es ∙ s.numbers.bits_is ∙ ap (λ (n : ℕ). n * s.m) (sym s.numbers.n_is);
          long_scratch = ex;
        }

    pub taken : mark_refusal s.m q.row q.word scratch_long ≡ 0
    unfolding mark_refusal unless
    taken =
        of_shape (λ m r. mark_refusal m q.row q.word scratch_long ≡ 0) m_is r_is
        (rw (eq-eqb _ _ good.row_length, eq-eqb _ _ good.word_length, good.row_fine, good.word_fine))

    -- what decoder and marker say makes its line
    pub line :
        {w : List ℕ} {d b : ℤ} {so : List ℤ} (v : Verdict) → b ≡ d → Decoded s.m (is_codeword s.m s.r) q.row w d so →
        Marked (verdict_number v) (shortfall_of v) s.m (is_codeword s.m s.r) q.row q.word →
        Line q (question_line q.number q.code b (verdict_number v) (shortfall_of v) (bits_field so) (least_magnitude so))
    line {w} {d} {b} {so} v e x k =
        record {
          word = w;
          best = b;
          soft = so;
          decoded = decoded_as m_is r_is e x;
          verdict = verdict_number v;
          shortfall = shortfall_of v;
          marked = of_number (λ m r. Marked (verdict_number v) (shortfall_of v) m (is_codeword m r) q.row q.word) m_is r_is k;
          text_is = refl;
        }

  pub room : {t : List ℕ} (w : Writer) → Line q t → w.at + line_most ≤ length w.out.now → Room t w
  room w l r = omega (arith, line_fits good l)

  pub put_line : {t : List ℕ} {w v : Writer} → Line q t → Puts t w v → PutLine q w v
  put_line {t} l p = record { text = t; line = l; puts = p; short = line_fits good l }
