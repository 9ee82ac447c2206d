-- Tables laid on each other and added, row by row: what a turn of the loops asks, and what it leaves.
-- Assumes nothing.
use Rattle.basics.proofs.Kit.{◌≡◌, refl, ◌∙◌, List, [], ◌∷◌, ℕ, ◌+◌, ◌%◌, ◌≤◌, ◌<◌, arith}
use native.Mathlib.Numerals.{add-one}
use Rattle.lanes.specs.Lanes.{entry, lane, lanes, row, two, sum, put, put_two, limit, Sums}
use Rattle.lanes.proofs.Rows.{four, both, lanes_at, row_at, rows_first, rows_second, sum_at}
use Rattle.rows.specs.Rows.{less}
use Rattle.rows.proofs.Rows.{less_at, length_less}
use Rattle.trellis.specs.Trellis.{least_of}
use Rattle.pass.specs.Steps.{FoldRows, Fold, Add, Made, laid, added}
use Rattle.pass.proofs.Rows.{Lowest, made_none, made_more}

-- THE UPPER HALF LAID ON THE LOWER: the first s rows are done
pub record Folding (half cap : ℕ) (a₀ : List ℕ) (s : ℕ) (a zero one : List ℕ) : Type 0 where
  pub at_most : s ≤ half
  pub rows : Made (laid half a₀) s a₀ a
  pub with_0 : Lowest cap s (entry a₀) zero
  pub with_1 : Lowest cap s (λ v. entry a₀ (half + v)) one

pub fold_start : (half cap : ℕ) (a₀ : List ℕ) → Folding half cap a₀ 0 a₀ (cap ∷ cap ∷ cap ∷ cap ∷ []) (cap ∷ cap ∷ cap ∷ cap ∷ [])
unfolding least_of
fold_start half cap a₀ = record { at_most = omega arith; rows = made_none; with_0 = record { at = caps }; with_1 = record { at = caps } }
  where
    caps : (j : ℕ) → j < 4 → lane (cap ∷ cap ∷ cap ∷ cap ∷ []) j ≡ cap
    caps = four (λ j. lane (cap ∷ cap ∷ cap ∷ cap ∷ []) j ≡ cap) refl refl refl refl

module _ {half cap : ℕ} {a₀ : List ℕ} (w : Fold half a₀) {s : ℕ} {a zero one : List ℕ} (f : Folding half cap a₀ s a zero one) (l : s < half) where
  at_s : (j : ℕ) → j < 4 → lane (row a s) j ≡ entry a₀ s j
  at_s j lj = row_at a s j lj ∙ f.rows.left s j (omega arith) lj

  at_u : (j : ℕ) → j < 4 → lane (row a (half + s)) j ≡ entry a₀ (half + s) j
  at_u j lj = row_at a (half + s) j lj ∙ f.rows.left (half + s) j (omega arith) lj

  pub fold_asks : FoldRows a s (half + s)
  fold_asks = record {
    s_in = omega (arith, f.rows.long, w.inside);
    u_in = omega (arith, f.rows.long, w.inside);
  }

  pub fold_more : {a' zero' one' : List ℕ} → a' ≡ put a s (less (row a s) (row a (half + s))) → zero' ≡ less zero (row a s) → one' ≡ less one (row a (half + s)) →
      Folding half cap a₀ (s + 1) a' zero' one'
  unfolding least_of
  fold_more ea ez eo = rw (ea, ez, eo) record {
    at_most = omega arith;
    rows = made_more f.rows (less (row a s) (row a (half + s))) (length_less (row a s) (row a (half + s))) (omega (arith, w.inside)) (λ j lj. less_at (row a s) (row a (half + s)) j lj ∙ rw (at_s j lj, at_u j lj));
    with_0 = record { at = λ j lj. less_at zero (row a s) j lj ∙ rw (add-one s, f.with_0.at j lj, at_s j lj) };
    with_1 = record { at = λ j lj. less_at one (row a (half + s)) j lj ∙ rw (add-one s, f.with_1.at j lj, at_u j lj) };
  }

-- A TABLE ADDED: the first s rows are done, and two are next
module _ {size : ℕ} {a₀ g : List ℕ} (w : Add size a₀ g) {s : ℕ} {a : List ℕ} (f : Made (added a₀ g) s a₀ a) (even : s % 2 ≡ 0) (l : s < size) where
  pub add_in : s + 2 ≤ size
  add_in = omega (arith, w.even)

  here : (j : ℕ) → j < 4 → lane (two a s) j + lane (two g s) j ≡ added a₀ g s j
  here j lj = omega (arith, rows_first a s (s + 1) j lj, rows_first g s (s + 1) j lj, f.left s j (omega arith) lj)

  next : (j : ℕ) → j < 4 → lane (two a s) (4 + j) + lane (two g s) (4 + j) ≡ added a₀ g (s + 1) j
  next j lj = omega (arith, rows_second a s (s + 1) j lj, rows_second g s (s + 1) j lj, f.left (s + 1) j (omega arith) lj)

  pub add_sums : Sums (two a s) (two g s)
  add_sums =
      both (λ j. lane (two a s) j + lane (two g s) j < limit) (λ j lj. omega (arith, here j lj, w.room s j l lj))
      (λ j lj. omega (arith, next j lj, w.room (s + 1) j (omega (arith, add_in)) lj))

  pub add_more : {a' : List ℕ} → a' ≡ put_two a s (sum (two a s) (two g s)) → Made (added a₀ g) (s + 2) a₀ a'
  unfolding put_two
  add_more e =
      let r : List ℕ = sum (two a s) (two g s) in
      let d : s + 2 ≡ s + 1 + 1 = omega arith in
      rw (e, d) (made_more (made_more f (lanes (lane r)) refl (omega (arith, w.length_a)) (λ j lj. lanes_at (lane r) j lj ∙ sum_at (two a s) (two g s) j (omega arith) ∙ here j lj)) (lanes (λ j. lane r (4 + j))) refl (omega (arith, w.length_a, add_in)) (λ j lj. lanes_at (λ j. lane r (4 + j)) j lj ∙ sum_at (two a s) (two g s) (4 + j) (omega arith) ∙ next j lj))
