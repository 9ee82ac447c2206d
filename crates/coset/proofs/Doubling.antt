-- The tails by doubling, in rows, and the keys of rows.
-- Assumes nothing.
use Rattle.basics.proofs.Kit.{◌≡◌, refl, ◌∙◌, List, ℕ, ◌+◌, ◌*◌, ◌%◌, ◌≤◌, ◌<◌, arith, length}
use native.Mathlib.Decide.{ℕ_discrete}
use Rattle.lanes.specs.Lanes.{entry, lane, row, two, twofold, sum, put, put_two, limit, Sums}
use Rattle.lanes.proofs.Rows.{both, lanes_at, row_at, rows_first, rows_second, twofold_first, twofold_second, sum_at, length_put, put_other, put_at, length_put_two, put_two_other, put_two_first, put_two_second}
use Rattle.coset.specs.Runs.{Double, Doubled, keyed, Keyable, Tails, Numbered}

pub doubled_none : {half : ℕ} {z o g : List ℕ} → Doubled half 0 z o g g
doubled_none = record { long = refl; zeros = λ s j l. absurd (omega arith); ones = λ s j l. absurd (omega arith); left = λ s j a b c. refl }

module _ {half : ℕ} {g₀ z o : List ℕ} (a : Double half g₀ z o) {n : ℕ} {g : List ℕ} (f : Doubled half n z o g₀ g) (even : n % 2 ≡ 0) (l : n < half) where
  pub pair_in : n + 2 ≤ half
  pair_in = omega (arith, a.even)

  pub double_in : (half + n) * 4 + 8 ≤ length g
  double_in = omega (arith, f.long, a.inside, pair_in)

  -- the two rows at hand, and their sums with a column's costs
  here : (j : ℕ) → j < 4 → lane (two g n) j ≡ entry g₀ n j
  here j lj = rows_first g n (n + 1) j lj ∙ f.left n j (omega arith) l lj

  next : (j : ℕ) → j < 4 → lane (two g n) (4 + j) ≡ entry g₀ (n + 1) j
  next j lj = rows_second g n (n + 1) j lj ∙ f.left (n + 1) j (omega arith) (omega (arith, pair_in)) lj

  sum_here : (c : List ℕ) (j : ℕ) → j < 4 → lane (sum (two g n) (twofold c)) j ≡ entry g₀ n j + lane c j
  sum_here c j lj = sum_at (two g n) (twofold c) j (omega arith) ∙ rw (here j lj, twofold_first c j lj)

  sum_next : (c : List ℕ) (j : ℕ) → j < 4 → lane (sum (two g n) (twofold c)) (4 + j) ≡ entry g₀ (n + 1) j + lane c j
  sum_next c j lj = sum_at (two g n) (twofold c) (4 + j) (omega arith) ∙ rw (next j lj, twofold_second c j lj)

  pub double_sums : (c : List ℕ) → ((s j : ℕ) → s < half → j < 4 → entry g₀ s j + lane c j < limit) → Sums (two g n) (twofold c)
  double_sums c r =
      both (λ j. lane (two g n) j + lane (twofold c) j < limit) (λ j lj. rw (here j lj, twofold_first c j lj) (r n j l lj))
      (λ j lj. rw (next j lj, twofold_second c j lj) (r (n + 1) j (omega (arith, pair_in)) lj))

  pub doubled_more : {g' : List ℕ} → g' ≡ put_two (put_two g n (sum (two g n) (twofold z))) (half + n) (sum (two g n) (twofold o)) → Doubled half (n + 2) z o g₀ g'
  doubled_more e = rw e record {
    long = length_put_two g' (half + n) y fits ∙ length_put_two g n x here_fits ∙ f.long;
    zeros = λ s j ls lj. put_two_other g' (half + n) y fits (s * 4 + j) (λ c d. omega (arith, pair_in)) ∙ zero_at s j ls lj (ℕ_discrete s n) (ℕ_discrete s (n + 1));
    ones = λ s j ls lj. one_at s j ls lj (ℕ_discrete s n) (ℕ_discrete s (n + 1));
    left = λ s j b i lj.
        put_two_other g' (half + n) y fits (s * 4 + j) (λ c d. omega arith) ∙ put_two_other g n x here_fits (s * 4 + j) (λ c d. omega arith) ∙ f.left s j (omega arith) i lj;
  }
    where
      x : List ℕ
      x = sum (two g n) (twofold z)

      y : List ℕ
      y = sum (two g n) (twofold o)

      g' : List ℕ
      g' = put_two g n x

      here_fits : n * 4 + 8 ≤ length g
      here_fits = omega (arith, double_in)

      fits : (half + n) * 4 + 8 ≤ length g'
      fits = omega (arith, double_in, length_put_two g n x here_fits)

      zero_at : (s j : ℕ) → s < n + 2 → j < 4 → Dec (s ≡ n) → Dec (s ≡ n + 1) → entry g' s j ≡ entry g₀ s j + lane z j
      zero_at s j ls lj (yes e) d = rw e (put_two_first g n x here_fits j lj ∙ sum_here z j lj)
      zero_at s j ls lj (no m) (yes e) = rw e (put_two_second g n x here_fits j lj ∙ sum_next z j lj)
      zero_at s j ls lj (no m) (no k) = put_two_other g n x here_fits (s * 4 + j) (λ c d. omega arith) ∙ f.zeros s j (omega arith) lj

      one_at : (s j : ℕ) → s < n + 2 → j < 4 → Dec (s ≡ n) → Dec (s ≡ n + 1) → entry (put_two g' (half + n) y) (half + s) j ≡ entry g₀ s j + lane o j
      one_at s j ls lj (yes e) d = rw e (put_two_first g' (half + n) y fits j lj ∙ sum_here o j lj)
      one_at s j ls lj (no m) (yes e) =
          let p : half + s ≡ half + n + 1 = omega arith in
          rw p (put_two_second g' (half + n) y fits j lj ∙ sum_next o j lj ∙ rw e)
      one_at s j ls lj (no m) (no k) =
          put_two_other g' (half + n) y fits ((half + s) * 4 + j) (λ c d. omega arith) ∙ put_two_other g n x here_fits ((half + s) * 4 + j) (λ c d. omega arith) ∙ f.ones s j (omega arith) lj

-- KEYS
pub keyed_at : (r : List ℕ) (low j : ℕ) → j < 4 → lane (keyed r low) j ≡ lane r j * 65536 + low
unfolding keyed
keyed_at r low = lanes_at (λ j. lane r j * 65536 + low)

length_keyed : (r : List ℕ) (low : ℕ) → length (keyed r low) ≡ 4
unfolding keyed
length_keyed r low = refl

module _ {size : ℕ} {g t₀ : List ℕ} (a : Tails size g t₀) {n : ℕ} {t : List ℕ} (f : Numbered g n t) (l : n < size) where
  pub tails_key : Keyable (row g n) n
  tails_key j lj = omega (arith, row_at g n j lj, a.room n j l lj, a.short)

  pub tails_in : n * 4 + 4 ≤ length t
  tails_in = omega (arith, f.long, a.length_g)

  pub numbered_more : {t' : List ℕ} → t' ≡ put t n (keyed (row g n) n) → Numbered g (n + 1) t'
  numbered_more e = rw e record { long = length_put t n x tails_in four_x ∙ f.long; keys = λ s j ls lj. go s j ls lj (ℕ_discrete s n) }
    where
      x : List ℕ
      x = keyed (row g n) n

      four_x : length x ≡ 4
      four_x = length_keyed (row g n) n

      go : (s j : ℕ) → s < n + 1 → j < 4 → Dec (s ≡ n) → entry (put t n x) s j ≡ entry g s j * 65536 + s
      go s j ls lj (yes e) = rw e (put_at t n x tails_in four_x j lj ∙ keyed_at (row g n) n j lj ∙ rw (row_at g n j lj))
      go s j ls lj (no m) = put_other t n x tails_in four_x (s * 4 + j) (λ c d. m (omega arith)) ∙ f.keys s j (omega arith) lj
