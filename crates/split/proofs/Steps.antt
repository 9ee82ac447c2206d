-- One turn of the loops that copy a list to the front of another.
-- Assumes nothing.
use Rattle.basics.proofs.Kit.{◌≡◌, refl, sym, ap, ◌∙◌, List, [], ◌∷◌, ◌++◌, ℕ, zero, suc, ◌+◌, ◌-◌, ◌/◌, ◌%◌, ◌^◌, ◌≤◌, ◌<◌, arith, length, get_or, take, drop, set}
use mathlib.Core.List.{append-nil}
use native.Mathlib.Nat.{not-suc-le-zero, le_of_suc-le-suc}
use native.Mathlib.Numerals.{add-one}
use lib.ListN.{drop_of_length-le}
use lib.Seq.{take_all, drop-cons}
use Rattle.field.specs.Field.{xor}
use Rattle.code.specs.Bits.{bits_of}
use Rattle.split.specs.Split.{layer, sum}
use Rattle.split.proofs.Layers as L

copy_suc : (to d : List ℕ) (n : ℕ) → n < length d → n < length to → set (take n to ++ drop n d) n (get_or to n 0) ≡ take (suc n) to ++ drop (suc n) d
copy_suc to [] n h l = absurd (not-suc-le-zero h)
copy_suc [] (x ∷ d) n h l = absurd (not-suc-le-zero l)
copy_suc (y ∷ to) (x ∷ d) zero h l = refl
copy_suc (y ∷ to) (x ∷ d) (suc n) h l = ap (λ (t : List ℕ). y ∷ t) (copy_suc to d n (le_of_suc-le-suc h) (le_of_suc-le-suc l))

pub copy_more : (to d : List ℕ) (n : ℕ) → n < length d → n < length to → set (take n to ++ drop n d) n (get_or to n 0) ≡ take (n + 1) to ++ drop (n + 1) d
copy_more to d n h l = rw (add-one n) (copy_suc to d n h l)

pub copied : (to d : List ℕ) (n : ℕ) → length to ≡ length d → length to ≤ n → take n to ++ drop n d ≡ to
copied to d n e h =
    let l : length d ≤ n = omega arith in
    rw (take_all n to h, drop_of_length-le d l) (append-nil to)

-- what is left of a list after one more
pub record Next (to : List ℕ) (i x : ℕ) (rest : List ℕ) : Type 0 where
  pub here : get_or to i 0 ≡ x
  pub more : drop (i + 1) to ≡ rest

pub next : (to : List ℕ) (i x : ℕ) (rest : List ℕ) → drop i to ≡ x ∷ rest → Next to i x rest
next to i x rest e = record { here = at to i e; more = rw (add-one i) (after to i e) }
  where
    at : (to : List ℕ) (i : ℕ) → drop i to ≡ x ∷ rest → get_or to i 0 ≡ x
    at [] zero e = ap (λ (l : List ℕ). get_or l 0 0) e
    at [] (suc i) e = ap (λ (l : List ℕ). get_or l 0 0) e
    at (y ∷ to) zero e = ap (λ (l : List ℕ). get_or l 0 0) e
    at (y ∷ to) (suc i) e = at to i e

    after : (to : List ℕ) (i : ℕ) → drop i to ≡ x ∷ rest → drop (suc i) to ≡ rest
    after [] zero e = ap (drop 1) e
    after [] (suc i) e = ap (drop 1) e
    after (y ∷ to) zero e = ap (drop 1) e
    after (y ∷ to) (suc i) e = after to i e

-- a layer with a leader added, position by position: the leader's number is halved at each
unfoldable pub with_leader : (j : ℕ) → List ℕ → (k : ℕ) → List ℕ
with_leader j ws k = sum (layer j ws) (bits_of (length ws) k)

module _ (j : ℕ) (ws : List ℕ) where
  pub with_length : (k : ℕ) → length (with_leader j ws k) ≡ length ws
  unfolding with_leader
  with_length k = L.sum_length (layer j ws) (bits_of (length ws) k) (L.layer_length j ws ∙ sym (L.bits_length (length ws) k)) ∙ L.bits_length (length ws) k

  pub one_position : (k i : ℕ) → i < length ws →
      sum (layer j (drop i ws)) (bits_of (length ws - i) k) ≡ xor (get_or ws i 0 / 2 ^ j % 2) (k % 2) ∷ sum (layer j (drop (i + 1) ws)) (bits_of (length ws - (i + 1)) (k / 2))
  unfolding sum layer bits_of
  one_position k i h =
      let n : length ws - i ≡ suc (length ws - (i + 1)) = omega arith in
      rw (n, drop-cons ws i 0 h, add-one i) refl
