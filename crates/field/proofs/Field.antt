-- The field, by tests that antt computes at all of its elements, at both widths.
-- Assumes nothing.
use Rattle.basics.proofs.Kit.{◌≡◌, refl, sym, ap, ap₂, ◌∙◌, Bool, true, false, ◌||◌, not, cond, ℕ, zero, suc, ◌+◌, ◌/◌, ◌%◌, ◌^◌, ◌≤◌, ◌<◌, arith, eqb, leb}
use mathlib.Core.Path.{subst, subst⁻¹}
use native.Mathlib.Nat.{mod-lt, zero-add, suc-add}
use lib.Dec.{T, lit<, eqb→eq}
use lib.Arith.{lt→nleb}
use lib.Pow.{pow_pos}
use Rattle.field.specs.Field.{xor, times, times_from, doubled, alpha, inverse, inverse_from, width_good, square}
use Rattle.field.proofs.Tests.{at, eq1, eq2, rule2, widths}
use Rattle.field.proofs.Xor.{assoc, left_comm, comm, cross, half, chosen, zero_l, zero_r, self, below}

-- the sum of f j, f (j + 1), ...
unfoldable pub sum : (left j : ℕ) → (ℕ → ℕ) → ℕ
sum zero j f = 0
sum (suc k) j f = xor (f j) (sum k (suc j) f)

other : (a b c : Bool) → T (not a) → T (not b) → T (a || b || c) → T c
other true b c p q t = absurd p
other false true c p q t = absurd q
other false false c p q t = t

module _ (m : ℕ) (w : width_good m ≡ true) where
  reduced : {a : ℕ} → a % 2 ^ m ≡ a → a < 2 ^ m
  reduced {a} e = subst (λ (x : ℕ). x < 2 ^ m) e (mod-lt a (pow_pos m))

  pub times_lt : (a b : ℕ) → a < 2 ^ m → b < 2 ^ m → times m a b < 2 ^ m
  unfolding xor times times_from doubled
  times_lt a b ha hb = reduced (eq2 (λ m a b. times m a b % 2 ^ m) (λ m a b. times m a b) tt tt m w a b ha hb)

  doubled_lt : (a : ℕ) → a < 2 ^ m → doubled m a < 2 ^ m
  unfolding xor doubled
  doubled_lt a ha = reduced (eq1 (λ m a. doubled m a % 2 ^ m) (λ m a. doubled m a) tt tt m w a ha)

  pub times_comm : (a b : ℕ) → a < 2 ^ m → b < 2 ^ m → times m a b ≡ times m b a
  unfolding xor times times_from doubled
  times_comm = eq2 (λ m a b. times m a b) (λ m a b. times m b a) tt tt m w

  doubled_times : (a b : ℕ) → a < 2 ^ m → b < 2 ^ m → times m (doubled m a) b ≡ doubled m (times m a b)
  unfolding xor times times_from doubled
  doubled_times = eq2 (λ m a b. times m (doubled m a) b) (λ m a b. doubled m (times m a b)) tt tt m w

  pub times_zero_r : (a : ℕ) → a < 2 ^ m → times m a 0 ≡ 0
  unfolding xor times times_from doubled
  times_zero_r = eq1 (λ m a. times m a 0) (λ m a. 0) tt tt m w

  -- a product by a sum, digit by digit of the sum
  from_add : (k a b c : ℕ) → times_from k m a (xor b c) ≡ xor (times_from k m a b) (times_from k m a c)
  unfolding times_from
  from_add zero a b c = sym (zero_l 0)
  from_add (suc k) a b c =
      ap₂ xor (chosen a b c) (ap (times_from k m (doubled m a)) (half b c) ∙ from_add k (doubled m a) (b / 2) (c / 2))
      ∙ cross (cond (eqb (b % 2) 1) a 0) (cond (eqb (c % 2) 1) a 0) (times_from k m (doubled m a) (b / 2)) (times_from k m (doubled m a) (c / 2))

  sum_times : (a b c : ℕ) → times m a (xor b c) ≡ xor (times m a b) (times m a c)
  unfolding times
  sum_times a b c = from_add m a b c

  pub times_add_r : (a b c : ℕ) → a < 2 ^ m → b < 2 ^ m → c < 2 ^ m → times m a (xor b c) ≡ xor (times m a b) (times m a c)
  times_add_r a b c ha hb hc = sum_times a b c

  -- a product by a product, digit by digit of the last factor
  from_through : (k a b c : ℕ) → a < 2 ^ m → b < 2 ^ m → times_from k m (times m a b) c ≡ times m a (times_from k m b c)
  unfolding times_from
  from_through zero a b c ha hb = sym (times_zero_r a ha)
  from_through (suc k) a b c ha hb =
      let d : ℕ = times_from k m (doubled m b) (c / 2) in
      ap₂ xor (go (eqb (c % 2) 1)) (ap (λ (x : ℕ). times_from k m x (c / 2)) (sym turned) ∙ from_through k a (doubled m b) (c / 2) ha (doubled_lt b hb))
      ∙ sym (sum_times a (cond (eqb (c % 2) 1) b 0) d)
    where
      go : (t : Bool) → cond t (times m a b) 0 ≡ times m a (cond t b 0)
      go true = refl
      go false = sym (times_zero_r a ha)

      turned : times m a (doubled m b) ≡ doubled m (times m a b)
      turned = times_comm a (doubled m b) ha (doubled_lt b hb) ∙ doubled_times b a hb ha ∙ ap (doubled m) (times_comm b a hb ha)

  pub times_assoc : (a b c : ℕ) → a < 2 ^ m → b < 2 ^ m → c < 2 ^ m → times m (times m a b) c ≡ times m a (times m b c)
  unfolding times
  times_assoc a b c ha hb hc = from_through m a b c ha hb

  pub times_left_comm : (a b c : ℕ) → a < 2 ^ m → b < 2 ^ m → c < 2 ^ m → times m a (times m b c) ≡ times m b (times m a c)
  times_left_comm a b c ha hb hc = sym (times_assoc a b c ha hb hc) ∙ ap (λ (x : ℕ). times m x c) (times_comm a b ha hb) ∙ times_assoc b a c hb ha hc

  pub times_add_l : (a b c : ℕ) → a < 2 ^ m → b < 2 ^ m → c < 2 ^ m → times m (xor a b) c ≡ xor (times m a c) (times m b c)
  times_add_l a b c ha hb hc =
      times_comm (xor a b) c (below m a b ha hb) hc ∙ times_add_r c a b hc ha hb ∙ ap₂ xor (times_comm c a hc ha) (times_comm c b hc hb)

  pub times_one : (a : ℕ) → a < 2 ^ m → times m 1 a ≡ a
  unfolding xor times times_from doubled
  times_one = eq1 (λ m a. times m 1 a) (λ m a. a) tt tt m w

  pub times_zero_l : (a : ℕ) → a < 2 ^ m → times m 0 a ≡ 0
  unfolding xor times times_from doubled
  times_zero_l = eq1 (λ m a. times m 0 a) (λ m a. 0) tt tt m w

  pub inverse_lt : (a : ℕ) → a < 2 ^ m → inverse m a < 2 ^ m
  unfolding xor times times_from doubled inverse inverse_from
  inverse_lt a ha = reduced (eq1 (λ m a. inverse m a % 2 ^ m) (λ m a. inverse m a) tt tt m w a ha)

  pub inverse_zero : inverse m 0 ≡ 0
  unfolding xor times times_from doubled inverse inverse_from
  inverse_zero = widths (λ (m : ℕ). inverse m 0 ≡ 0) refl refl m w

  pub times_inverse : (a : ℕ) → a < 2 ^ m → times m a (inverse m a) ≡ cond (eqb a 0) 0 1
  unfolding xor times times_from doubled inverse inverse_from
  times_inverse = eq1 (λ m a. times m a (inverse m a)) (λ m a. cond (eqb a 0) 0 1) tt tt m w

  no_divisors : (a b : ℕ) → a < 2 ^ m → b < 2 ^ m → T (eqb a 0 || not (eqb (times m a b) 0) || eqb b 0)
  unfolding xor times times_from doubled
  no_divisors = rule2 (λ m a b. eqb a 0 || not (eqb (times m a b) 0) || eqb b 0) tt tt m w

  pub no_divisor : (a b : ℕ) → a < 2 ^ m → b < 2 ^ m → T (not (eqb a 0)) → times m a b ≡ 0 → b ≡ 0
  no_divisor a b ha hb n e =
      eqb→eq b 0
      (other (eqb a 0) (not (eqb (times m a b) 0)) (eqb b 0) n (subst⁻¹ (λ (x : ℕ). T (not (not (eqb x 0)))) e tt) (no_divisors a b ha hb))

  -- squares
  pub square_lt : (a : ℕ) → a < 2 ^ m → square m a < 2 ^ m
  unfolding square
  square_lt a ha = times_lt a a ha ha

  pub square_add : (a b : ℕ) → a < 2 ^ m → b < 2 ^ m → square m (xor a b) ≡ xor (square m a) (square m b)
  unfolding xor times times_from doubled square
  square_add = eq2 (λ m a b. square m (xor a b)) (λ m a b. xor (square m a) (square m b)) tt tt m w

  pub square_times : (a b : ℕ) → a < 2 ^ m → b < 2 ^ m → square m (times m a b) ≡ times m (square m a) (square m b)
  unfolding xor times times_from doubled square
  square_times = eq2 (λ m a b. square m (times m a b)) (λ m a b. times m (square m a) (square m b)) tt tt m w

  pub square_bit : (b : ℕ) → b < 2 → square m b ≡ b
  unfolding xor times times_from doubled square
  square_bit b h = widths (λ (m : ℕ). square m b ≡ b) (eqb→eq (square 3 b) b (at 2 (λ b. eqb (square 3 b) b) tt b h)) (eqb→eq (square 4 b) b (at 2 (λ b. eqb (square 4 b) b) tt b h)) m w

  -- a symbol is the sum of its bits, each by its power of α
  pub symbol_split : (c : ℕ) → c < 2 ^ m → c ≡ sum m 0 (λ j. times m (alpha m j) (c / 2 ^ j % 2))
  unfolding xor times times_from doubled alpha sum
  symbol_split = eq1 (λ m c. c) (λ m c. sum m 0 (λ j. times m (alpha m j) (c / 2 ^ j % 2))) tt tt m w

  pub zero_split : 0 ≡ sum m 0 (λ j. times m (alpha m j) 0)
  unfolding xor times times_from doubled alpha sum
  zero_split = widths (λ (m : ℕ). 0 ≡ sum m 0 (λ j. times m (alpha m j) 0)) refl refl m w

  pub two_lt : 2 < 2 ^ m
  two_lt = widths (λ (m : ℕ). 2 < 2 ^ m) (lit< tt) (lit< tt) m w

  -- powers of α
  pub alpha_lt : (e : ℕ) → alpha m e < 2 ^ m
  unfolding alpha
  alpha_lt zero = omega (arith, two_lt)
  alpha_lt (suc e) = doubled_lt (alpha m e) (alpha_lt e)

  pub alpha_add : (d e : ℕ) → alpha m (d + e) ≡ times m (alpha m d) (alpha m e)
  unfolding alpha
  alpha_add zero e = rw zero-add (sym (times_one (alpha m e) (alpha_lt e)))
  alpha_add (suc d) e = rw suc-add (ap (doubled m) (alpha_add d e) ∙ sym (doubled_times (alpha m d) (alpha m e) (alpha_lt d) (alpha_lt e)))

  pub alpha_twice : (t : ℕ) → alpha m (t + t) ≡ square m (alpha m t)
  unfolding square
  alpha_twice t = alpha_add t t

  -- the powers from α^1 to α^(2^m - 1) differ
  apart : (s t : ℕ) → s < 2 ^ m → t < 2 ^ m → T (leb t 0 || leb s t || not (eqb (xor (alpha m s) (alpha m t)) 0))
  unfolding xor doubled alpha
  apart = rule2 (λ m s t. leb t 0 || leb s t || not (eqb (xor (alpha m s) (alpha m t)) 0)) tt tt m w

  pub alpha_apart : (s t : ℕ) → s < 2 ^ m → 1 ≤ t → t < s → T (not (eqb (xor (alpha m s) (alpha m t)) 0))
  alpha_apart s t hs l h = other (leb t 0) (leb s t) _ (lt→nleb t 0 l) (lt→nleb s t h) (apart s t hs (omega arith))

-- bounds, for `search`; sums of products in a normal form, for `simp`, to which add the bounds that it rules and no other: times-lt, below
pub ruleset lts = (times_lt, square_lt, below, alpha_lt)

pub ruleset field = (times_add_r, times_add_l, times_left_comm, times_zero_r, times_zero_l, assoc, left_comm, comm, zero_r, zero_l, self)
