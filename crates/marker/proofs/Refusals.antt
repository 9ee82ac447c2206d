-- What an accepted call of the marker has passed.
-- Assumes nothing.
use Rattle.basics.proofs.Kit.{◌≡◌, true, List, ℕ, length, ℤ}
use borrow.Author.Tests.{eqb-true}
use Rattle.refusal.proofs.Tests.{passed}
use Rattle.code.specs.Code.{long, symbols_good}
use Rattle.code.specs.Bits.{row_long}
use Rattle.metric.specs.Row.{row_bound, row_good}
use Rattle.metric.specs.Scratch.{scratch_long}
use Rattle.marker.specs.Calls.{mark_refusal}

pub record MarkTaken (m : ℕ) (rs : List ℤ) (ws : List ℕ) (x : ℕ) : Type 0 where
  pub long_row : length rs ≡ row_long m
  pub long_word : length ws ≡ long m
  pub long_scratch : x ≡ scratch_long
  pub good_row : row_good row_bound rs ≡ true
  pub symbols : symbols_good m ws ≡ true

pub mark_accepted : (m : ℕ) (rs : List ℤ) (ws : List ℕ) (x : ℕ) → mark_refusal m rs ws x ≡ 0 → MarkTaken m rs ws x
unfolding mark_refusal
mark_accepted m rs ws x z =
    let p = passed _ _ _ z in
    let q = passed _ _ _ p.1 in
    let u = passed _ _ _ q.1 in
    let s = passed _ _ _ u.1 in
    record { long_row = eqb-true _ _ p.0; long_word = eqb-true _ _ q.0; long_scratch = eqb-true _ _ u.0; good_row = s.0; symbols = (passed _ _ _ s.1).0 }
