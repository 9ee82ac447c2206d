-- What the decoder answers and leaves behind, for every input; z is what the choice of the code is refused by. Refusals in the documents' order: code 1, 16;
-- lengths 2, 4, 17; contents 5. Assumes nothing: these are definitions.
use Rattle.std.specs.Prelude.{◌≡◌, List, ℕ, eqb, length, ℤ, pos}
use Rattle.code.specs.Code.{long, is_codeword}
use Rattle.code.specs.Bits.{row_long}
use Rattle.refusal.specs.Refusal.{unless, first, Outcome}
use Rattle.metric.specs.Row.{row_bound, row_good}
use Rattle.metric.specs.Scratch.{scratch_long, cleared}
use Rattle.metric.specs.Metric.{Decoded}

-- what follows the code's own refusal
unfoldable pub decode_refusal : (m : ℕ) → (row : List ℤ) → (word soft scratch : ℕ) → ℕ
decode_refusal m rs a b x =
    unless (eqb (length rs) (row_long m)) 2
    (unless (eqb a (long m)) 4
    (unless (eqb b (row_long m)) 4
    (unless (eqb x scratch_long) 17
    (unless (row_good row_bound rs) 5 0))))

-- the first best word, its metric and every soft output, and the scratch all zero; refused, the metric is 0, and the outputs and the scratch are kept
unfoldable pub DecodeSays : (z m r : ℕ) → (row : List ℤ) → (answer : ℕ) → (metric : ℤ) → (word word_now : List ℕ) → (soft soft_now scratch scratch_now : List ℤ) → Type 0
DecodeSays z m r rs n g a b e f x y =
    Outcome (first z (decode_refusal m rs (length a) (length e) (length x))) n
    (Decoded m (is_codeword m r) rs b g f × (y ≡ cleared)) ((g ≡ pos 0) × (b ≡ a) × (f ≡ e) × (y ≡ x))
