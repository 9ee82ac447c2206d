-- Soft outputs as the program writes them: differences of costs in 16 signed bits, position by position.
-- Assumes nothing.
use Rattle.basics.proofs.Kit.{◌≡◌, refl, ap₂, ◌∙◌, true, List, ℕ, zero, suc, ◌+◌, ◌*◌, ◌≤◌, ◌<◌, arith, length, get_or, set, ℤ, pos, ◌-ℤ◌}
use native.Mathlib.Nat.{suc-mul, mul-le-mul_right}
use native.Mathlib.Decide.{dec_le}
use lib.ListN.{length-set}
use lib.Seq.{get_or-set_same, get_or-set_other}
use mir.Syntax.{w16}
use mir.Val.{SFits, to_z, of_z}
use mir.Facts.{to_z-of_z}
use Rattle.field.specs.Field.{width_good}
use Rattle.field.proofs.Tests.{widths}
use Rattle.lanes.specs.Lanes.{lane, row}
use Rattle.lanes.proofs.Rows.{row_at}
use Rattle.softs.specs.Softs.{soft_of, SoftWithin, SoftWritten, SoftsWithin, Softened}

-- what was written was what was computed
pub written_is : (v r z : ℤ) → SFits w16 r → r ≡ z → v ≡ to_z w16 (of_z w16 r) → v ≡ z
written_is v r z ok e f = f ∙ to_z-of_z ok ∙ e

module _ (s : List ℤ) (at : ℕ) (v0 v1 v2 v3 : ℤ) where
  abbrev s1 : List ℤ
  s1 = set s (at + 0) v0

  abbrev s2 : List ℤ
  s2 = set s1 (at + 1) v1

  abbrev s3 : List ℤ
  s3 = set s2 (at + 2) v2

  abbrev s4 : List ℤ
  s4 = set s3 (at + 3) v3

  long3 : length s3 ≡ length s
  long3 = simp length-set

  kept3 : (i : ℕ) → i < at → get_or s3 i (pos 0) ≡ get_or s i (pos 0)
  kept3 i h =
      get_or-set_other s2 (at + 2) i v2 (pos 0) (λ e. omega arith)
      ∙ get_or-set_other s1 (at + 1) i v1 (pos 0) (λ e. omega arith)
      ∙ get_or-set_other s (at + 0) i v0 (pos 0) (λ e. omega arith)

  at0 : at + 3 ≤ length s → get_or s3 (at + 0) (pos 0) ≡ v0
  at0 l =
      get_or-set_other s2 (at + 2) (at + 0) v2 (pos 0) (λ e. omega arith)
      ∙ get_or-set_other s1 (at + 1) (at + 0) v1 (pos 0) (λ e. omega arith)
      ∙ get_or-set_same s (at + 0) v0 (pos 0) (omega arith)

  at1 : at + 3 ≤ length s → get_or s3 (at + 1) (pos 0) ≡ v1
  at1 l = get_or-set_other s2 (at + 2) (at + 1) v2 (pos 0) (λ e. omega arith) ∙ get_or-set_same s1 (at + 1) v1 (pos 0) (simp length-set (omega arith))

  at2 : at + 3 ≤ length s → get_or s3 (at + 2) (pos 0) ≡ v2
  at2 l = get_or-set_same s2 (at + 2) v2 (pos 0) (simp length-set (omega arith))

  module _ (m : ℕ) (z o : List ℕ) (w : SoftWithin m at z o s) where
    abbrev d : ℕ → ℤ
    d j = pos (2 * lane o j) -ℤ pos (2 * lane z j)

    pub width_3 : m ≡ 3 → v0 ≡ d 0 → v1 ≡ d 1 → v2 ≡ d 2 → SoftWritten m at z o s s3
    width_3 em e0 e1 e2 = record { long = long3; done = go; kept = kept3 }
      where
        fits : at + 3 ≤ length s
        fits = omega (arith, w.fits)

        go : (j : ℕ) → j < m → get_or s3 (at + j) (pos 0) ≡ d j
        go zero h = at0 fits ∙ e0
        go (suc zero) h = at1 fits ∙ e1
        go (suc (suc zero)) h = at2 fits ∙ e2
        go (suc (suc (suc j))) h = absurd (omega arith)

    pub width_4 : m ≡ 4 → v0 ≡ d 0 → v1 ≡ d 1 → v2 ≡ d 2 → v3 ≡ d 3 → SoftWritten m at z o s s4
    width_4 em e0 e1 e2 e3 = record {
      long = length-set s3 (at + 3) v3 ∙ long3;
      done = go;
      kept = λ i h. get_or-set_other s3 (at + 3) i v3 (pos 0) (λ e. omega arith) ∙ kept3 i h;
    }
      where
        fits : at + 3 ≤ length s
        fits = omega (arith, w.fits)

        low : (j : ℕ) → j < 3 → get_or s4 (at + j) (pos 0) ≡ get_or s3 (at + j) (pos 0)
        low j h = get_or-set_other s3 (at + 3) (at + j) v3 (pos 0) (λ e. omega arith)

        go : (j : ℕ) → j < m → get_or s4 (at + j) (pos 0) ≡ d j
        go zero h = low 0 (omega arith) ∙ at0 fits ∙ e0
        go (suc zero) h = low 1 (omega arith) ∙ at1 fits ∙ e1
        go (suc (suc zero)) h = low 2 (omega arith) ∙ at2 fits ∙ e2
        go (suc (suc (suc zero))) h = get_or-set_same s3 (at + 3) v3 (pos 0) (omega (arith, long3, w.fits)) ∙ e3
        go (suc (suc (suc (suc j)))) h = absurd (omega arith)

-- all positions
module _ (m n : ℕ) (za oa : List ℕ) (s₀ : List ℤ) (w : SoftsWithin m n za oa s₀) where
  under : (j : ℕ) → j < m → j < 4
  under j = widths (λ (m : ℕ). j < m → j < 4) (λ h. omega arith) (λ h. omega arith) m w.width

  module _ (i : ℕ) (s : List ℤ) (a : Softened m za oa i s₀ s) (l : i < n) where
    pub row_ok : SoftWithin m (i * m) (row za i) (row oa i) s
    row_ok = record {
      width = w.width;
      fits = omega (arith, a.long, w.length_soft, mul-le-mul_right m l, suc-mul i m);
      small = λ j lj. rw (row_at za i j (under j lj), row_at oa i j (under j lj)) (w.small i j l lj);
    }

    pub rows_more : (s' : List ℤ) → SoftWritten m (i * m) (row za i) (row oa i) s s' → Softened m za oa (i + 1) s₀ s'
    rows_more s' x = record { long = x.long ∙ a.long; done = λ k j lk lj. go k j lj (dec_le i k) lk }
      where
        go : (k j : ℕ) → j < m → Dec (i ≤ k) → k < i + 1 → get_or s' (k * m + j) (pos 0) ≡ soft_of za oa k j
        go k j lj (yes b) h =
            let e : k ≡ i = omega arith in
            rw e (x.done j lj ∙ ap₂ (λ (p q : ℕ). pos (2 * p) -ℤ pos (2 * q)) (row_at oa i j (under j lj)) (row_at za i j (under j lj)))
        go k j lj (no b) h = x.kept (k * m + j) (place k j (omega arith) lj) ∙ a.done k j (omega arith) lj
          where
            place : (k j : ℕ) → k < i → j < m → k * m + j < i * m
            place k j h lj = omega (arith, mul-le-mul_right m h, suc-mul k m)

pub at_least : (m : ℕ) → width_good m ≡ true → 3 ≤ m
at_least = widths (λ (m : ℕ). 3 ≤ m) (omega arith) (omega arith)

pub not_four : (m : ℕ) → width_good m ≡ true → (m ≡ 4 → ⊥) → m ≡ 3
not_four = widths (λ (m : ℕ). (m ≡ 4 → ⊥) → m ≡ 3) (λ n. refl) (λ n. absurd (n refl))
