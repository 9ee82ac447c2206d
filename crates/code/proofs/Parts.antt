-- A part of a list from a place to its end, lent and come back.
-- Assumes nothing.
use Rattle.basics.proofs.Kit.{◌≡◌, sym, ap, ◌∙◌, List, ◌∷◌, ◌++◌, ℕ, suc, ◌+◌, ◌-◌, ◌≤◌, ◌<◌, arith, length, take, drop, set}
use mathlib.Core.List.{append-nil}
use native.Mathlib.Nat.{le_refl}
use native.Mathlib.Numerals.{add-one}
use lib.ListN.{length-drop, drop_of_length-le}
use lib.Seq.{take_all, set_split, take-set-le, drop_at, length-take-le}

module _ {A : Type 0} (l : List A) (a : ℕ) where
  pub tail_is : take (length l - a) (drop a l) ≡ drop a l
  tail_is = take_all (length l - a) (drop a l) (omega (arith, length-drop a l))

  pub tail_long : length (take (length l - a) (drop a l)) ≡ length l - a
  tail_long = ap length tail_is ∙ length-drop a l

  pub put_tail : (p : List A) → take a l ++ (p ++ drop (length l - a) (drop a l)) ≡ take a l ++ p
  put_tail p =
      let h : length (drop a l) ≤ length l - a = omega (arith, length-drop a l) in
      ap (λ (r : List A). take a l ++ r) (ap (λ (r : List A). p ++ r) (drop_of_length-le (drop a l) h) ∙ append-nil p)

-- a list with a zero put at a place, and its part from there on
module _ (l : List ℕ) (a : ℕ) (h : a < length l) where
  pub cleared : take (length (set l a 0) - a) (drop a (set l a 0)) ≡ 0 ∷ drop (a + 1) l
  cleared =
      tail_is (set l a 0) a
      ∙ ap (drop a) (set_split l a 0 h)
      ∙ drop_at (take a l) (0 ∷ drop (suc a) l) a (length-take-le a l (omega arith))
      ∙ ap (λ (k : ℕ). 0 ∷ drop k l) (sym (add-one a))

  pub put_cleared : (p : List ℕ) → take a (set l a 0) ++ (p ++ drop (length (set l a 0) - a) (drop a (set l a 0))) ≡ take a l ++ p
  put_cleared p = put_tail (set l a 0) a p ∙ ap (λ (r : List ℕ). r ++ p) (take-set-le a l a 0 (le_refl a))
