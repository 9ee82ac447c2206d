-- Rows of four: sums that may be taken; a row of leasts; and rows written one after another.
-- Assumes nothing.
use Rattle.basics.proofs.Kit.{◌≡◌, refl, ap, ◌∙◌, List, ℕ, ◌+◌, ◌*◌, ◌≤◌, ◌<◌, arith, length}
use native.Mathlib.Decide.{ℕ_discrete}
use Rattle.lanes.specs.Lanes.{entry, lane, lanes, put}
use Rattle.lanes.proofs.Rows.{lanes_is, length_put, put_other, put_at}
use Rattle.rows.specs.Rows.{sum, less, Sums}
use Rattle.rows.proofs.Rows.{sum_at, less_at, length_less}
use Rattle.pass.specs.Pass.{lowest}
use Rattle.pass.specs.Steps.{Made}

-- where a sum of three rows may be taken, that of the first two may
pub sums_first : {l : ℕ} (a b c : List ℕ) → Sums l (sum a b) c → Sums l a b
sums_first a b c h j lj = omega (arith, sum_at a b j lj, h j lj)

-- a row that has the least of each lane: where its less with itself is written the row of the leasts is
pub record Lowest (cap n : ℕ) (t : ℕ → ℕ → ℕ) (r : List ℕ) : Type 0 where
  pub at : (j : ℕ) → j < 4 → lane r j ≡ lowest cap n t j

pub lowest_put : {cap n : ℕ} {t : ℕ → ℕ → ℕ} {r : List ℕ} → Lowest cap n t r → (out : List ℕ) (i : ℕ) {out' : List ℕ} → out' ≡ put out i (less r r) →
    out' ≡ put out i (lanes (lowest cap n t))
lowest_put {cap} {n} {t} {r} w out i p =
    p ∙ ap (put out i) (lanes_is (less r r) (lowest cap n t) (length_less r r) (λ j lj. omega (arith, less_at r r j lj, w.at j lj)))

-- rows made by a rule: none, and one more
pub made_none : {rule : ℕ → ℕ → ℕ} {a : List ℕ} → Made rule 0 a a
made_none = record { long = refl; made = λ v j l lj. absurd (omega arith); left = λ v j l lj. refl }

pub made_more : {rule : ℕ → ℕ → ℕ} {s : ℕ} {a₀ a : List ℕ} → Made rule s a₀ a → (r : List ℕ) → length r ≡ 4 → s * 4 + 4 ≤ length a₀ → ((j : ℕ) → j < 4 → lane r j ≡ rule s j) → Made rule (s + 1) a₀ (put a s r)
made_more {rule} {s} {a₀} {a} f r four_r l e = record {
  long = length_put a s r s_in four_r ∙ f.long;
  made = λ v j lv lj. go v j lv lj (ℕ_discrete v s);
  left = λ v j b lj. put_other a s r s_in four_r (v * 4 + j) (λ c d. omega arith) ∙ f.left v j (omega arith) lj;
}
  where
    s_in : s * 4 + 4 ≤ length a
    s_in = omega (arith, f.long)

    go : (v j : ℕ) → v < s + 1 → j < 4 → Dec (v ≡ s) → entry (put a s r) v j ≡ rule v j
    go v j lv lj (yes x) = rw x (put_at a s r s_in four_r j lj ∙ e j lj)
    go v j lv lj (no x) = put_other a s r s_in four_r (v * 4 + j) (λ c d. x (omega arith)) ∙ f.made v j (omega arith) lj
