-- A word's metric, bit by bit and symbol by symbol, from the last.
-- Assumes nothing.
use Rattle.basics.proofs.Kit.{◌≡◌, refl, sym, ap, ◌∙◌, true, cond, List, [], ◌∷◌, ◌++◌, ℕ, zero, suc, ◌+◌, ◌-◌, ◌*◌, ◌/◌, ◌%◌, ◌^◌, ◌≤◌, ◌<◌, arith, length, get_or, take, drop, eqb, ℤ, pos, negsuc, nat_abs, ◌+ℤ◌, ◌-ℤ◌}
use native.Mathlib.Nat.{pow-zero, pow-succ', div-one, zero-mul, suc-mul, div-div-eq-div-mul}
use borrow.Author.Tests.{leb-true, ne_eqb}
use lib.ListN.{length-drop}
use lib.Seq.{take_all, drop-cons, drop-drop, drop-length}
use mir.Syntax.{w32}
use mir.Val.{SFits}
use Rattle.code.specs.Bits.{bits_of, all_bits}
use Rattle.metric.specs.Row.{row_bound, reliability_good, row_good}
use Rattle.metric.specs.Metric.{metric_of, metric}
use Rattle.metric.specs.Within.{SymbolMore}
use Rattle.metric.proofs.Integers.{plus_size, minus_size}
use Rattle.metric.proofs.Bounds.{row_rest, metric_size}

-- ---- a bit
pub small_fits : (z : ℤ) → nat_abs z ≤ 20000 → SFits w32 z
small_fits (pos n) h = record { sfits = omega (arith, h) }
small_fits (negsuc n) h = record { sfits = omega (arith, h) }

reliable_size : (r : ℤ) → reliability_good row_bound r ≡ true → nat_abs r ≤ 127
unfolding reliability_good
reliable_size r g = leb-true (nat_abs r) 127 g

module _ (s r : ℤ) (h : nat_abs s ≤ 10000) (g : reliability_good row_bound r ≡ true) where
  pub counted_size : (b : ℕ) → nat_abs (cond (eqb b 0) (s +ℤ r) (s -ℤ r)) ≤ nat_abs s + 127
  counted_size zero = omega (arith, plus_size s r, reliable_size r g)
  counted_size (suc b) = rw (ne_eqb (suc b) 0 (λ e. omega arith)) (omega (arith, minus_size s r, reliable_size r g))

-- ---- a symbol: the metric from its bit i on, from that of what follows bit i
pub bit_more :
    (m i j c : ℕ) (rs : List ℤ) (bs : List ℕ) (s x : ℤ) → suc i ≡ j → j ≤ m → i < length rs →
    s ≡ metric_of (drop j rs) (bits_of (m - j) (c / 2 ^ j) ++ bs) →
    x ≡ cond (eqb (c / 2 ^ i % 2) 0) (s +ℤ get_or rs i (pos 0)) (s -ℤ get_or rs i (pos 0)) → x ≡ metric_of (drop i rs) (bits_of (m - i) (c / 2 ^ i) ++ bs)
unfolding metric_of bits_of
bit_more m i j c rs bs s x q n l e f =
    let r : ℤ = get_or rs i (pos 0) in
    let p : 2 ^ i * 2 ≡ 2 ^ suc i = omega (arith, pow-succ' 2 i) in
    let h : c / 2 ^ i / 2 ≡ c / 2 ^ j = div-div-eq-div-mul c (2 ^ i) 2 ∙ ap (λ (y : ℕ). c / y) p ∙ ap (λ (y : ℕ). c / 2 ^ y) q in
    let k : m - i ≡ suc (m - j) = omega arith in
    let d : drop i rs ≡ r ∷ drop j rs = drop-cons rs i (pos 0) l ∙ ap (λ (y : ℕ). r ∷ drop y rs) q in
    rw (k, d, h) (f ∙ ap (λ (z : ℤ). cond (eqb (c / 2 ^ i % 2) 0) (z +ℤ r) (z -ℤ r)) e)

pub all_counted :
    (m j c : ℕ) (rs : List ℤ) (bs : List ℕ) (s : ℤ) → j ≡ 0 → s ≡ metric_of (drop j rs) (bits_of (m - j) (c / 2 ^ j) ++ bs) → s ≡ metric_of rs (bits_of m c ++ bs)
all_counted m j c rs bs s q e =
    let k : m - 0 ≡ m = omega arith in
    rw (q, k, pow-zero 2, div-one c) at e

-- ---- a row from a place on
pub drop_good : (i : ℕ) (rs : List ℤ) → row_good row_bound rs ≡ true → row_good row_bound (drop i rs) ≡ true
drop_good zero rs g = g
drop_good (suc i) [] g = g
drop_good (suc i) (r ∷ rs) g = drop_good i rs (row_rest row_bound r rs g)

pub tail_is : (at : ℕ) (rs : List ℤ) → take (length rs - at) (drop at rs) ≡ drop at rs
tail_is at rs = take_all (length rs - at) (drop at rs) (omega (arith, length-drop at rs))

pub place : (i m : ℕ) → 0 < i → (i - 1) * m + m ≡ i * m
place zero m h = absurd (omega arith)
place (suc i) m h = rw (add_sub_cancel i) (sym (suc-mul i m))
  where
    add_sub_cancel : (i : ℕ) → suc i - 1 ≡ i
    add_sub_cancel i = omega arith

-- ---- a word
pub none : (m : ℕ) (rs : List ℤ) (ws : List ℕ) → pos 0 ≡ metric_of (drop (length rs) rs) (all_bits m (drop (length ws) ws))
unfolding metric_of
none m rs ws = rw (drop-length rs) refl

module _ (m i j at : ℕ) (rs : List ℤ) (ws : List ℕ) (s x : ℤ) (q : suc i ≡ j) where
  pub symbol_more : i < length ws → s ≡ metric_of (drop (at + m) rs) (all_bits m (drop j ws)) →
      ((bs : List ℕ) → s ≡ metric_of (drop m (drop at rs)) bs → x ≡ metric_of (drop at rs) (bits_of m (get_or ws i 0) ++ bs)) →
      x ≡ metric_of (drop at rs) (all_bits m (drop i ws))
  unfolding all_bits
  symbol_more l e f =
      let d : drop i ws ≡ get_or ws i 0 ∷ drop j ws = drop-cons ws i 0 l ∙ ap (λ (y : ℕ). get_or ws i 0 ∷ drop y ws) q in
      rw d (f (all_bits m (drop j ws)) (rw (drop-drop m at rs) e))

pub rest_ok : (m at : ℕ) (rs : List ℤ) (bs : List ℕ) (s : ℤ) → m ≤ 4 → at + m ≤ length rs → length rs ≤ 60 → row_good row_bound rs ≡ true → s ≡ metric_of (drop (at + m) rs) bs → SymbolMore m (drop at rs) s
rest_ok m at rs bs s w l n g e = record {
  width = w;
  count = rw (length-drop at rs) (omega arith);
  good = drop_good at rs g;
  small = rw e (omega (arith, metric_size row_bound (drop (at + m) rs) bs (drop_good (at + m) rs g), length-drop (at + m) rs));
}

pub whole : (m i at : ℕ) (rs : List ℤ) (ws : List ℕ) (s : ℤ) → i ≡ 0 → at ≡ i * m → s ≡ metric_of (drop at rs) (all_bits m (drop i ws)) → s ≡ metric m rs ws
unfolding metric
whole m i at rs ws s q p e = rw (p, q, zero-mul m) at e
