-- Rows of four: the lanes of a sum and of a less, and the numbers of a row and of a row written anew.
-- Assumes nothing.
use Rattle.basics.proofs.Kit.{◌≡◌, refl, sym, ap, ap₂, ◌∙◌, List, [], ◌∷◌, ◌++◌, ℕ, ◌+◌, ◌*◌, ◌^◌, ◌<◌, min, arith, length, get_or, take, drop}
use Rattle.std.specs.Prelude.{map}
use Rattle.std.proofs.lemmas.List.{length-map, get_or-map, take-map, drop-map, map-append}
use Rattle.lanes.specs.Lanes.{lane, row, put}
use Rattle.lanes.proofs.Rows.{lanes_at, row_at}
use Rattle.rows.specs.Rows.{sum, less, Small, Sums}

pub sum_at : (a b : List ℕ) (j : ℕ) → j < 4 → lane (sum a b) j ≡ lane a j + lane b j
unfolding sum
sum_at a b = lanes_at (λ j. lane a j + lane b j)

pub less_at : (a b : List ℕ) (j : ℕ) → j < 4 → lane (less a b) j ≡ min (lane a j) (lane b j)
unfolding less
less_at a b = lanes_at (λ j. min (lane a j) (lane b j))

pub length_less : (a b : List ℕ) → length (less a b) ≡ 4
unfolding less
length_less a b = refl

-- the numbers of a row of 16 bits fit
pub cost_fits : (t : List ℕ) (s j : ℕ) → j < 4 → Small (2 ^ 16) (row t s) → get_or t (s * 4 + j) 0 < 2 ^ 16
cost_fits t s j lj h = omega (arith, row_at t s j lj, h j lj)

-- COSTS: the numbers of a list, of a row of it, and of it with a row written anew
module _ {A : Type 0} {number : A → ℕ} {numbers : List A → List ℕ} (each : (t : List A) → numbers t ≡ map number t) where
  pub numbers_long : (t : List A) → length (numbers t) ≡ length t
  numbers_long t = ap length (each t) ∙ length-map t number

  pub number_at : (t : List A) (k : ℕ) (d : A) → k < length t → number (get_or t k d) ≡ get_or (numbers t) k 0
  number_at t k d l = sym (ap (λ (n : List ℕ). get_or n k 0) (each t) ∙ get_or-map number t k d 0 l)

  -- what is done number by number
  pub sum_is : (a b : List A) (x y z w x' y' z' w' : A) → length a ≡ 4 → length b ≡ 4 →
      (number (get_or a 0 x) + number (get_or b 0 x'))
      ∷ (number (get_or a 1 y) + number (get_or b 1 y'))
      ∷ (number (get_or a 2 z) + number (get_or b 2 z'))
      ∷ (number (get_or a 3 w) + number (get_or b 3 w'))
      ∷ []
      ≡ sum (numbers a) (numbers b)
  unfolding sum
  sum_is a b x y z w x' y' z' w' l m =
      rw (
        number_at a 0 x (omega arith),
        number_at a 1 y (omega arith),
        number_at a 2 z (omega arith),
        number_at a 3 w (omega arith),
        number_at b 0 x' (omega arith),
        number_at b 1 y' (omega arith),
        number_at b 2 z' (omega arith),
        number_at b 3 w' (omega arith),
      )

  pub less_is : (a b : List A) (x y z w x' y' z' w' : A) → length a ≡ 4 → length b ≡ 4 →
      min (number (get_or a 0 x)) (number (get_or b 0 x'))
      ∷ min (number (get_or a 1 y)) (number (get_or b 1 y'))
      ∷ min (number (get_or a 2 z)) (number (get_or b 2 z'))
      ∷ min (number (get_or a 3 w)) (number (get_or b 3 w'))
      ∷ []
      ≡ less (numbers a) (numbers b)
  unfolding less
  less_is a b x y z w x' y' z' w' l m =
      rw (
        number_at a 0 x (omega arith),
        number_at a 1 y (omega arith),
        number_at a 2 z (omega arith),
        number_at a 3 w (omega arith),
        number_at b 0 x' (omega arith),
        number_at b 1 y' (omega arith),
        number_at b 2 z' (omega arith),
        number_at b 3 w' (omega arith),
      )

  pub numbers_row : (t : List A) (s : ℕ) → numbers (row t s) ≡ row (numbers t) s
  unfolding row
  numbers_row t s =
      each (take 4 (drop (s * 4) t)) ∙ sym (take-map number 4 (drop (s * 4) t)) ∙ ap (take 4) (sym (drop-map number (s * 4) t)) ∙ ap (λ (n : List ℕ). take 4 (drop (s * 4) n)) (sym (each t))

  pub numbers_put : (t : List A) (s : ℕ) (r : List A) → numbers (put t s r) ≡ put (numbers t) s (numbers r)
  unfolding put
  numbers_put t s r =
      each (take (s * 4) t ++ (r ++ rest))
      ∙ map-append number (take (s * 4) t) (r ++ rest)
      ∙ ap₂ ◌++◌ (front ∙ ap (take (s * 4)) (sym (each t))) (map-append number r rest ∙ ap₂ ◌++◌ (sym (each r)) (back ∙ ap (drop (s * 4 + 4)) (sym (each t))))
    where
      rest : List A
      rest = drop (s * 4 + 4) t

      front : map number (take (s * 4) t) ≡ take (s * 4) (map number t)
      front = sym (take-map number (s * 4) t)

      back : map number rest ≡ drop (s * 4 + 4) (map number t)
      back = sym (drop-map number (s * 4 + 4) t)
