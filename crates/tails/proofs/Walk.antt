-- The walk visits the sums of the basis: at turn k the steps that the Gray code of k picks are in, and the lane picks the first four vectors.
-- Assumes nothing.
use Rattle.basics.proofs.Kit.{◌≡◌, refl, sym, ap, ap₂, ◌∙◌, true, List, [], ◌∷◌, ℕ, zero, suc, ◌+◌, ◌*◌, ◌/◌, ◌%◌, ◌^◌, ◌≤◌, ◌<◌, arith, length, get_or, take, eqb, leb}
use mathlib.Core.List.{map}
use native.Mathlib.Nat.{mod-lt, zero-lt-suc, not-suc-le-zero, le_of_suc-le-suc, zero-add, add-zero, add-suc, suc-add}
use lib.Dec.{eqb→eq, leb→le}
use lib.Pow.{pow-add}
use Rattle.field.specs.Field.{xor}
use Rattle.field.proofs.Tests.{all, at}
use Rattle.field.proofs.Xor as X
use Rattle.code.specs.Code.{long, message_long, bch_dimension, configuration_long, accepted}
use Rattle.split.specs.Members.{picked}
use Rattle.split.proofs.Sums.{picked_map}
use Rattle.tails.specs.Tails.{place_columns, marked, steps, step_count, turns, step, changed_bit, off, visited, moves, basis, basis_long, combined}
use Rattle.tails.specs.Promise.{CodewordsCombined, VisitedAll, CodewordsVisited}
use Rattle.tails.proofs.Picked.{picked_add, picked_zero, picked_bit, picked_append, picked_take}
use Rattle.tails.proofs.Accepted.{tested}
use Rattle.tails.proofs.Codewords.{codewords_combined}
use Rattle.tails.proofs.Gray.{gray, gray_zero, gray_lt, ungray, ungray_lt, gray_ungray, gray_next, lowest_lt}

-- so many steps of a layer from step b on
unfoldable taken : (left b : ℕ) → List ℕ → (j : ℕ) → List ℕ
taken zero b st j = []
taken (suc k) b st j = step st b j ∷ taken k (suc b) st j

-- one of them
taken_one : (c b p : ℕ) (st : List ℕ) (j : ℕ) → p < c → get_or (taken c b st j) p 0 ≡ step st (p + b) j
unfolding taken
taken_one zero b p st j h = absurd (not-suc-le-zero h)
taken_one (suc c) b zero st j h = ap (λ (x : ℕ). step st x j) (sym (zero-add b))
taken_one (suc c) b (suc p) st j h = taken_one c (suc b) p st j (le_of_suc-le-suc h) ∙ ap (λ (x : ℕ). step st x j) (add-suc p b ∙ sym (suc-add p b))

off_next : (st : List ℕ) (k j : ℕ) → off st (suc k) j ≡ xor (off st k j) (step st (changed_bit (suc k)) j)
unfolding off xor
off_next st k j = refl

-- THE PLACE of lane 0 is the sum of the steps that the Gray code picks
taken_off : (c : ℕ) (st : List ℕ) (j k : ℕ) → c ≤ 64 → k < 2 ^ c → off st k j ≡ picked (taken c 0 st j) (gray k)
unfolding off
taken_off c st j zero l h = sym (ap (picked (taken c 0 st j)) gray_zero ∙ picked_zero (taken c 0 st j))
taken_off c st j (suc k) l h =
    let b : ℕ = changed_bit (suc k) in
    off_next st k j
    ∙ ap₂ xor (taken_off c st j k l (omega arith)) (sym (picked_bit (taken c 0 st j) b ∙ taken_one c 0 b st j (lowest_lt c 64 (suc k) (zero-lt-suc k) h) ∙ ap (λ (x : ℕ). step st x j) (add-zero b)))
    ∙ sym (ap (picked (taken c 0 st j)) (gray_next c 64 k h l) ∙ picked_add (taken c 0 st j) (gray k) (2 ^ b))

moves_taken : (c b m r j : ℕ) → moves c b m r j ≡ map (picked (place_columns m r j)) (taken c b (steps m r) j)
unfolding moves taken marked
moves_taken zero b m r j = refl
moves_taken (suc c) b m r j = ap (λ (l : List ℕ). picked (place_columns m r j) (step (steps m r) b j) ∷ l) (moves_taken c (suc b) m r j)

module _ (m r : ℕ) (a : accepted m r ≡ true) where
  abbrev c : ℕ
  c = step_count m r

  -- four lanes, and few steps
  few : c ≤ 64
  unfolding step_count configuration_long message_long bch_dimension long
  few = leb→le _ _ (tested (λ m r. leb (step_count m r) 64) tt m r a)

  -- the sum of the basis that tuple i is, and the tuple that a sum is
  sum_of : ℕ → ℕ
  sum_of i = gray (i / 16) * 16 + i % 16

  tuple_of : ℕ → ℕ
  tuple_of b = ungray c (b / 16) * 16 + b % 16

  counts : 2 ^ basis_long m r ≡ 16 * turns m r
  unfolding basis_long turns
  counts = pow-add 2 4 c

  four_lanes : (j : ℕ) → j < 4 → length (take 4 (place_columns m r j)) ≡ 4
  unfolding place_columns
  four_lanes j h =
      eqb→eq _ 4 (at 4 (λ j. eqb (length (take 4 (place_columns m r j))) 4) (tested (λ m r. all 4 (λ j. eqb (length (take 4 (place_columns m r j))) 4)) tt m r a) j h)

  split_basis : (b j : ℕ) → j < 4 → combined m r b j ≡ xor (marked m r j (b % 16)) (marked m r j (picked (taken c 0 (steps m r) j) (b / 16)))
  unfolding combined basis marked
  split_basis b j h =
      picked_append (take 4 (place_columns m r j)) (moves c 0 m r j) b
      ∙ ap₂ xor (picked_take 4 (place_columns m r j) b)
      (ap₂ (λ (es : List ℕ) (k : ℕ). picked es (b / 2 ^ k)) (moves_taken c 0 m r j) (four_lanes j h)
      ∙ sym (picked_map (picked (place_columns m r j)) (picked_add (place_columns m r j)) (taken c 0 (steps m r) j) (b / 16)))

  visited_is : (i : ℕ) → i < 16 * turns m r → (j : ℕ) → j < 4 → visited m r i j ≡ combined m r (sum_of i) j
  unfolding visited turns sum_of marked
  visited_is i h j k =
      let g : ℕ = gray (i / 16) in
      let lo : (g * 16 + i % 16) % 16 ≡ i % 16 = omega arith in
      let hi : (g * 16 + i % 16) / 16 ≡ g = omega arith in
      picked_add (place_columns m r j) (off (steps m r) (i / 16) j) (i % 16)
      ∙ X.comm (picked (place_columns m r j) (off (steps m r) (i / 16) j)) (picked (place_columns m r j) (i % 16))
      ∙ ap (λ (y : ℕ). xor (picked (place_columns m r j) (i % 16)) (picked (place_columns m r j) y)) (taken_off c (steps m r) j (i / 16) few (omega arith))
      ∙ sym (split_basis (g * 16 + i % 16) j k
      ∙ ap₂ (λ (x y : ℕ). xor (picked (place_columns m r j) x) (picked (place_columns m r j) (picked (taken c 0 (steps m r) j) y))) lo hi)

  sum_lt : (i : ℕ) → i < 16 * turns m r → sum_of i < 2 ^ basis_long m r
  unfolding sum_of turns
  sum_lt i h = omega (arith, counts, gray_lt c (i / 16) (omega arith), mod-lt i (zero-lt-suc 15))

  tuple_lt : (b : ℕ) → b < 2 ^ basis_long m r → tuple_of b < 16 * turns m r
  unfolding tuple_of turns
  tuple_lt b h =
      let l : b / 16 < 2 ^ c = omega (arith, counts) in
      omega (arith, ungray_lt c (b / 16) l, mod-lt b (zero-lt-suc 15))

  sum_tuple : (b : ℕ) → b < 2 ^ basis_long m r → sum_of (tuple_of b) ≡ b
  unfolding sum_of tuple_of turns
  sum_tuple b h =
      let u : ℕ = ungray c (b / 16) in
      let l : b / 16 < 2 ^ c = omega (arith, counts) in
      let lo : (u * 16 + b % 16) % 16 ≡ b % 16 = omega arith in
      let hi : (u * 16 + b % 16) / 16 ≡ u = omega arith in
      let e : b / 16 * 16 + b % 16 ≡ b = omega arith in
      ap₂ (λ (x y : ℕ). x * 16 + y) (ap gray hi ∙ gray_ungray c (b / 16) l) lo ∙ e

pub visited_all : VisitedAll
unfolding VisitedAll
visited_all m r a = (
  (λ i h. (sum_of m r a i, sum_lt m r a i h, visited_is m r a i h)),
  (λ b h.
      let k = tuple_lt m r a b h in
      (tuple_of m r a b, k, (λ j l. visited_is m r a (tuple_of m r a b) k j l ∙ ap (λ (x : ℕ). combined m r x j) (sum_tuple m r a b h)))),
)

pub codewords_visited : CodewordsVisited
unfolding CodewordsVisited CodewordsCombined VisitedAll
codewords_visited m r a = record {
  none_missing =
      λ ws g.
      let f = (codewords_combined m r a).none_missing ws g in
      let v = (visited_all m r a).1 f.0 f.1 in
      (v.0, v.1, (λ j l. f.2 j l ∙ sym (v.2 j l)));
  none_else =
      λ ws n g i h c.
      let v = (visited_all m r a).0 i h in
      (codewords_combined m r a).none_else ws n g v.0 v.1 (λ j l. c j l ∙ v.2 j l);
}
