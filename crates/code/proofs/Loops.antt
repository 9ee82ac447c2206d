-- One turn of each loop over a word, and what is left of it.
-- Assumes nothing.
use Rattle.basics.proofs.Kit.{◌≡◌, refl, sym, ap, ap₂, ◌∙◌, Bool, true, false, List, [], ◌∷◌, ◌++◌, ℕ, zero, suc, ◌+◌, ◌-◌, ◌*◌, ◌^◌, ◌≤◌, ◌<◌, arith, length, get_or, take, drop, set, ltb}
use Rattle.std.proofs.Common.{◌↔◌, IsTrue, All}
use mathlib.Core.List.{append-nil}
use native.Mathlib.Nat.{le_refl, suc-mul}
use native.Mathlib.Numerals.{add-one}
use lib.Dec.{lit≤}
use lib.ListN.{drop_of_length-le}
use lib.Seq.{take-suc, take_all, drop-cons, drop-length, append_snoc, set_at, length-take-le}
use borrow.Author.Tests.{ltb-true, lt-ltb, eq-eqb, ne_eqb}
use Rattle.field.specs.Field.{xor, times, alpha, width_good}
use Rattle.field.proofs.Tests.{to_T, from_T, and_l, and_r, widths}
use Rattle.field.proofs.Field as F
use Rattle.code.specs.Code.{long, symbols_good, value_at, vanishes, is_codeword}
use Rattle.code.specs.Within.{WordWithin}
use Rattle.code.proofs.Words.{below, horner, horner_inside, value_horner}

-- every symbol is below 2^m, said by the library's word
pub all_below : (m : ℕ) (ws : List ℕ) → symbols_good m ws ≡ true → All (λ x. x < 2 ^ m) ws
unfolding symbols_good
all_below m [] e = λ k d h. absurd (omega arith)
all_below m (x ∷ ws) e = go (all_below m ws (from_T _ (and_r (ltb x (2 ^ m)) (symbols_good m ws) (to_T e))))
  where
    go : All (λ x. x < 2 ^ m) ws → (k d : ℕ) → k < suc (length ws) → get_or (x ∷ ws) k d < 2 ^ m
    go a zero d h = ltb-true _ _ (from_T _ (and_l (ltb x (2 ^ m)) (symbols_good m ws) (to_T e)))
    go a (suc k) d h = a k d (omega arith)

pub below_all : (m : ℕ) (ws : List ℕ) → All (λ x. x < 2 ^ m) ws → symbols_good m ws ≡ true
unfolding symbols_good
below_all m [] h = refl
below_all m (x ∷ ws) h = rw (lt-ltb _ _ (h 0 0 (omega arith)), below_all m ws (λ k d l. h (suc k) d (omega arith))) refl

pub all_good : (m : ℕ) (ws : List ℕ) (b : Bool) → IsTrue b ↔ All (λ x. x < 2 ^ m) ws → b ≡ symbols_good m ws
all_good m ws true h = sym (below_all m ws (h.0 refl))
all_good m ws false h = go (symbols_good m ws) refl
  where
    go : (s : Bool) → symbols_good m ws ≡ s → false ≡ s
    go true e = absurd (cc (h.1 (all_below m ws e)))
    go false e = refl

-- Horner's rule from the top symbol down: v is the value at α^t of what stands from place i on
pub record Valued (m t : ℕ) (ws : List ℕ) (v i : ℕ) : Type 0 where
  pub few : i ≤ length ws
  pub so_far : v ≡ horner m (alpha m t) (drop i ws)

pub value_start : (m t : ℕ) (ws : List ℕ) → Valued m t ws 0 (length ws)
unfolding horner
value_start m t ws = record { few = le_refl (length ws); so_far = rw (drop-length ws) refl }

module _ {m t : ℕ} {ws : List ℕ} {v i : ℕ} (given : WordWithin m t ws) (s : Valued m t ws v i) where
  hx : alpha m t < 2 ^ m
  hx = F.alpha_lt m given.width t

  pub value_inside : v < 2 ^ m
  value_inside = horner_inside m given.width (alpha m t) ws i v hx given.symbols s.so_far

  pub value_turn : (j : ℕ) → i ≡ suc j → Valued m t ws (xor (get_or ws j 0) (times m v (alpha m t))) j
  unfolding horner
  value_turn j q =
      let x : ℕ = alpha m t in
      let h : j < length ws = omega (arith, s.few) in
      record {
        few = omega (arith, s.few);
        so_far =
            ap (xor (get_or ws j 0))
            (F.times_comm m given.width v x value_inside hx ∙ ap (times m x) (s.so_far ∙ ap (λ (k : ℕ). horner m x (drop k ws)) q))
            ∙ ap (horner m x) (sym (drop-cons ws j 0 h));
      }

  pub value_end : i ≤ 0 → v ≡ value_at m t ws
  value_end h =
      let z : i ≡ 0 = omega arith in
      s.so_far ∙ ap (λ (k : ℕ). horner m (alpha m t) (drop k ws)) z ∙ sym (value_horner m given.width t ws (below m ws (to_T given.symbols)))

pub long_small : (m : ℕ) → width_good m ≡ true → long m ≤ 15
unfolding long
long_small = widths (λ (m : ℕ). long m ≤ 15) (lit≤ tt) (lit≤ tt)

pub next_exponent : (e i t : ℕ) → e ≡ i * t → e + t ≡ (i + 1) * t
next_exponent e i t h = rw (add-one i, suc-mul) (ap (λ (x : ℕ). x + t) h)

-- the roots from α^t on
pub root_met : (m r t : ℕ) (ws : List ℕ) → t ≤ r → value_at m t ws ≡ 0 → vanishes (r + 1 - t) t m ws ≡ vanishes (r + 1 - (t + 1)) (t + 1) m ws
unfolding vanishes
root_met m r t ws h e =
    let n : r + 1 - t ≡ suc (r + 1 - (t + 1)) = omega arith in
    rw (n, e, add-one t) refl

pub root_missed : (m r t : ℕ) (ws : List ℕ) → t ≤ r → (value_at m t ws ≡ 0 → ⊥) → vanishes (r + 1 - t) t m ws ≡ false
unfolding vanishes
root_missed m r t ws h e =
    let n : r + 1 - t ≡ suc (r + 1 - (t + 1)) = omega arith in
    rw (n, ne_eqb _ _ e) refl

pub roots_none : (m r t : ℕ) (ws : List ℕ) → r < t → vanishes (r + 1 - t) t m ws ≡ true
unfolding vanishes
roots_none m r t ws h = let n : r + 1 - t ≡ 0 = omega arith in rw n refl

-- for a word of n symbols the roots decide
pub roots_decide : {m r : ℕ} {ws : List ℕ} → WordWithin m r ws → vanishes r 1 m ws ≡ is_codeword m r ws
unfolding is_codeword
roots_decide given = rw (eq-eqb _ _ given.count, given.symbols) refl

-- a copy
pub copy_step : (from to : List ℕ) (i : ℕ) → i < length from → i < length to →
    set (take i from ++ drop i to) i (get_or from i 0) ≡ take (i + 1) from ++ drop (i + 1) to
copy_step from to i h l =
    let c : ℕ = get_or from i 0 in
    ap (λ (r : List ℕ). set (take i from ++ r) i c) (drop-cons to i 0 l)
    ∙ set_at (take i from) (get_or to i 0) (drop (suc i) to) c i (length-take-le i from (omega arith))
    ∙ sym (append_snoc (take i from) c (drop (suc i) to))
    ∙ ap (λ (r : List ℕ). r ++ drop (suc i) to) (sym (take-suc from i 0 h))
    ∙ ap (λ (k : ℕ). take k from ++ drop k to) (sym (add-one i))

pub copy_done : (from to : List ℕ) (i : ℕ) → length from ≤ i → length to ≤ i → take i from ++ drop i to ≡ from
copy_done from to i h l = ap₂ (λ (a b : List ℕ). a ++ b) (take_all i from h) (drop_of_length-le to l) ∙ append-nil from
