-- Rows of four, one or two side by side: their lanes, and what stands in a list of rows after some are written anew.
-- Assumes nothing.
use Rattle.basics.proofs.Kit.{◌≡◌, refl, sym, ap, ◌∙◌, List, [], ◌∷◌, ◌++◌, ℕ, zero, suc, ◌+◌, ◌-◌, ◌*◌, ◌≤◌, ◌<◌, arith, length, get_or, set, take, drop}
use mathlib.Core.Path.{subst}
use native.Mathlib.Decide.{dec_le}
use lib.ListN.{length-append, length-drop, get_or-append}
use lib.Seq.{get_or-take, get_or-drop, get_or-append_right, length-take-le}
use native.Mathlib.Numerals.{unary_clauses}
use Rattle.std.specs.List.{splice}
use Rattle.lanes.specs.Lanes.{entry, lane, lanes, row, beside, rows, twofold, eight, sum, put, put_two}

-- a rule at each lane
pub four {ℓ} : (P : ℕ → Type ℓ) → P 0 → P 1 → P 2 → P 3 → (j : ℕ) → j < 4 → P j
four P a b c d zero h = a
four P a b c d (suc zero) h = b
four P a b c d (suc (suc zero)) h = c
four P a b c d (suc (suc (suc zero))) h = d
four P a b c d (suc (suc (suc (suc j)))) h = absurd (omega arith)

pub lanes_at : (f : ℕ → ℕ) (j : ℕ) → j < 4 → lane (lanes f) j ≡ f j
lanes_at f = four (λ j. lane (lanes f) j ≡ f j) refl refl refl refl

-- the lanes of a row
pub row_at : (t : List ℕ) (s j : ℕ) → j < 4 → lane (row t s) j ≡ entry t s j
unfolding row
row_at t s j lj = get_or-take 4 (drop (s * 4) t) j 0 lj ∙ get_or-drop (s * 4) t j 0

pub length_row : {A : Type 0} (t : List A) (s : ℕ) → s * 4 + 4 ≤ length t → length (row t s) ≡ 4
unfolding row
length_row t s l = length-take-le 4 (drop (s * 4) t) (omega (arith, length-drop (s * 4) t))

-- a rule at each of eight lanes, from the first four and the last four
pub both {ℓ} : (P : ℕ → Type ℓ) → ((j : ℕ) → j < 4 → P j) → ((j : ℕ) → j < 4 → P (4 + j)) → (j : ℕ) → j < 8 → P j
both P f g j l = go (dec_le j 3)
  where
    go : Dec (j ≤ 3) → P j
    go (yes a) = f j (omega arith)
    go (no a) =
        let e : 4 + (j - 4) ≡ j = omega arith in
        subst P e (g (j - 4) (omega arith))

pub beside_first : (a b : ℕ → ℕ) (j : ℕ) → j < 4 → lane (beside a b) j ≡ a j
beside_first a b = four (λ j. lane (beside a b) j ≡ a j) refl refl refl refl

pub beside_second : (a b : ℕ → ℕ) (j : ℕ) → j < 4 → lane (beside a b) (4 + j) ≡ b j
beside_second a b = four (λ j. lane (beside a b) (4 + j) ≡ b j) refl refl refl refl

eight_at : (f : ℕ → ℕ) (j : ℕ) → j < 8 → lane (eight f) j ≡ f j
eight_at f = both (λ j. lane (eight f) j ≡ f j) (beside_first f (λ j. f (4 + j))) (beside_second f (λ j. f (4 + j)))

-- the lanes of two rows, of a row beside itself and of a sum
pub rows_first : (t : List ℕ) (s u j : ℕ) → j < 4 → lane (rows t s u) j ≡ entry t s j
unfolding rows
rows_first t s u = beside_first (entry t s) (entry t u)

pub rows_second : (t : List ℕ) (s u j : ℕ) → j < 4 → lane (rows t s u) (4 + j) ≡ entry t u j
unfolding rows
rows_second t s u = beside_second (entry t s) (entry t u)

pub twofold_first : (r : List ℕ) (j : ℕ) → j < 4 → lane (twofold r) j ≡ lane r j
unfolding twofold
twofold_first r = beside_first (lane r) (lane r)

pub twofold_second : (r : List ℕ) (j : ℕ) → j < 4 → lane (twofold r) (4 + j) ≡ lane r j
unfolding twofold
twofold_second r = beside_second (lane r) (lane r)

pub sum_at : (a b : List ℕ) (j : ℕ) → j < 8 → lane (sum a b) j ≡ lane a j + lane b j
unfolding sum
sum_at a b = eight_at (λ j. lane a j + lane b j)

-- a row written anew: its length, the places around it and its lanes
module _ (t : List ℕ) (s : ℕ) (r : List ℕ) (inside : s * 4 + 4 ≤ length t) (four_long : length r ≡ 4) where
  front_long : length (take (s * 4) t) ≡ s * 4
  front_long = length-take-le (s * 4) t (omega arith)

  pub length_put : length (put t s r) ≡ length t
  unfolding put
  length_put = simp (length-append, length-drop) (omega (arith, front_long))

  pub put_other : (k : ℕ) → (s * 4 ≤ k → k < s * 4 + 4 → ⊥) → get_or (put t s r) k 0 ≡ get_or t k 0
  unfolding put
  put_other k n = go (dec_le (s * 4) k)
    where
      rest : List ℕ
      rest = drop (s * 4 + 4) t

      go : Dec (s * 4 ≤ k) → get_or (take (s * 4) t ++ (r ++ rest)) k 0 ≡ get_or t k 0
      go (no a) = get_or-append (take (s * 4) t) (r ++ rest) 0 k (omega (arith, front_long)) ∙ get_or-take (s * 4) t k 0 (omega arith)
      go (yes a) =
          let past : s * 4 + 4 ≤ k = omega arith in
          let here : s * 4 + 4 + (k - length (take (s * 4) t) - length r) ≡ k = omega (arith, front_long) in
          get_or-append_right (take (s * 4) t) (r ++ rest) k 0 (omega (arith, front_long))
          ∙ get_or-append_right r rest (k - length (take (s * 4) t)) 0 (omega (arith, front_long))
          ∙ get_or-drop (s * 4 + 4) t (k - length (take (s * 4) t) - length r) 0
          ∙ ap (λ (i : ℕ). get_or t i 0) here

  pub put_at : (j : ℕ) → j < 4 → entry (put t s r) s j ≡ lane r j
  unfolding put
  put_at j lj =
      let here : s * 4 + j - length (take (s * 4) t) ≡ j = omega (arith, front_long) in
      get_or-append_right (take (s * 4) t) (r ++ drop (s * 4 + 4) t) (s * 4 + j) 0 (omega (arith, front_long))
      ∙ get_or-append r (drop (s * 4 + 4) t) 0 (s * 4 + j - length (take (s * 4) t)) (omega arith)
      ∙ ap (λ (i : ℕ). get_or r i 0) here

-- four places written one by one
four_set : {A : Type 0} (t : List A) (k : ℕ) (a b c d : A) → k + 4 ≤ length t →
    set (set (set (set t k a) (suc k) b) (suc (suc k)) c) (suc (suc (suc k))) d ≡ splice t k (suc (suc (suc (suc k)))) (a ∷ b ∷ c ∷ d ∷ [])
four_set [] k a b c d l = absurd (omega arith)
four_set (x ∷ []) zero a b c d l = absurd (omega arith)
four_set (x ∷ y ∷ []) zero a b c d l = absurd (omega arith)
four_set (x ∷ y ∷ z ∷ []) zero a b c d l = absurd (omega arith)
four_set (x ∷ y ∷ z ∷ w ∷ t) zero a b c d l = refl
four_set {A} (x ∷ t) (suc k) a b c d l = ap (λ (u : List A). x ∷ u) (four_set t k a b c d (omega arith))

four_read : {A : Type 0} (r : List A) (a b c d : A) → length r ≡ 4 → get_or r 0 a ∷ get_or r 1 b ∷ get_or r 2 c ∷ get_or r 3 d ∷ [] ≡ r
four_read [] a b c d l = absurd (omega arith)
four_read (x ∷ []) a b c d l = absurd (omega arith)
four_read (x ∷ y ∷ []) a b c d l = absurd (omega arith)
four_read (x ∷ y ∷ z ∷ []) a b c d l = absurd (omega arith)
four_read (x ∷ y ∷ z ∷ w ∷ []) a b c d l = refl
four_read (x ∷ y ∷ z ∷ w ∷ v ∷ r) a b c d l = absurd (omega arith)

-- a row given by its lanes
pub lanes_is : (r : List ℕ) (f : ℕ → ℕ) → length r ≡ 4 → ((j : ℕ) → j < 4 → lane r j ≡ f j) → r ≡ lanes f
lanes_is r f l e = sym (four_read r 0 0 0 0 l) ∙ rw (e 0 (omega arith), e 1 (omega arith), e 2 (omega arith), e 3 (omega arith))

-- a row written number by number
pub put_is : {A : Type 0} (t : List A) (s : ℕ) (r : List A) (a b c d : A) → s * 4 + 4 ≤ length t → length r ≡ 4 →
    set (set (set (set t (s * 4 + 0) (get_or r 0 a)) (s * 4 + 1) (get_or r 1 b)) (s * 4 + 2) (get_or r 2 c)) (s * 4 + 3) (get_or r 3 d) ≡ put t s r
unfolding put
put_is t s r a b c d l e = simp unary_clauses (four_set t (s * 4) (get_or r 0 a) (get_or r 1 b) (get_or r 2 c) (get_or r 3 d) l ∙ ap (splice t (s * 4) (suc (suc (suc (suc (s * 4)))))) (four_read r a b c d e))

-- two rows written anew
module _ (t : List ℕ) (s : ℕ) (r : List ℕ) (inside : s * 4 + 8 ≤ length t) where
  abbrev first : List ℕ
  first = lanes (lane r)

  abbrev second : List ℕ
  second = lanes (λ j. lane r (4 + j))

  length_first : length (put t s first) ≡ length t
  length_first = length_put t s first (omega arith) refl

  pub length_put_two : length (put_two t s r) ≡ length t
  unfolding put_two
  length_put_two = length_put (put t s first) (s + 1) second (omega (arith, length_first)) refl ∙ length_first

  pub put_two_other : (k : ℕ) → (s * 4 ≤ k → k < s * 4 + 8 → ⊥) → get_or (put_two t s r) k 0 ≡ get_or t k 0
  unfolding put_two
  put_two_other k n =
      put_other (put t s first) (s + 1) second (omega (arith, length_first)) refl k (λ a b. n (omega arith) (omega arith))
      ∙ put_other t s first (omega arith) refl k (λ a b. n (omega arith) (omega arith))

  pub put_two_first : (j : ℕ) → j < 4 → entry (put_two t s r) s j ≡ lane r j
  unfolding put_two
  put_two_first j lj =
      put_other (put t s first) (s + 1) second (omega (arith, length_first)) refl (s * 4 + j) (λ a b. omega arith)
      ∙ put_at t s first (omega arith) refl j lj
      ∙ lanes_at (lane r) j lj

  pub put_two_second : (j : ℕ) → j < 4 → entry (put_two t s r) (s + 1) j ≡ lane r (4 + j)
  unfolding put_two
  put_two_second j lj = put_at (put t s first) (s + 1) second (omega (arith, length_first)) refl j lj ∙ lanes_at (λ j. lane r (4 + j)) j lj
