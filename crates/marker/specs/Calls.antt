-- What the marker answers and leaves behind, for every input; z is what the choice of the code is refused by. Refusals in the documents' order: code 1, 16;
-- lengths 2, 3, 17; contents 5 before 6. Assumes nothing: these are definitions.
use Rattle.std.specs.Prelude.{◌≡◌, List, ℕ, eqb, length, ℤ, pos}
use Rattle.code.specs.Code.{long, symbols_good, is_codeword}
use Rattle.code.specs.Bits.{row_long}
use Rattle.refusal.specs.Refusal.{unless, first, Outcome}
use Rattle.metric.specs.Row.{row_bound, row_good}
use Rattle.metric.specs.Scratch.{scratch_long, cleared}
use Rattle.metric.specs.Metric.{Marked}

-- what follows the code's own refusal, over its m
unfoldable pub mark_refusal : (m : ℕ) → (row : List ℤ) → (word : List ℕ) → (scratch : ℕ) → ℕ
mark_refusal m rs ws x =
    unless (eqb (length rs) (row_long m)) 2
    (unless (eqb (length ws) (long m)) 3
    (unless (eqb x scratch_long) 17
    (unless (row_good row_bound rs) 5
    (unless (symbols_good m ws) 6 0))))

-- the verdict's number and the shortfall: none, short by exactly what is lacking, or best, and the scratch all zero; refused, both are 0, and the
-- scratch is kept
unfoldable pub MarkSays : (z m r : ℕ) → (row : List ℤ) → (word : List ℕ) → (answer verdict : ℕ) → (shortfall : ℤ) → (scratch scratch_now : List ℤ) → Type 0
MarkSays z m r rs ws a v d x y =
    Outcome (first z (mark_refusal m rs ws (length x))) a
    (Marked v d m (is_codeword m r) rs ws × (y ≡ cleared)) ((v ≡ 0) × (d ≡ pos 0) × (y ≡ x))
