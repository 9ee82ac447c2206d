-- What a word costs by itself, added up symbol by symbol, and the sum of a row's sizes.
-- Assumes nothing.
use Rattle.basics.proofs.Kit.{◌≡◌, refl, sym, ap, ap₂, ◌∙◌, true, List, [], ◌∷◌, ℕ, zero, suc, ◌+◌, ◌*◌, ◌/◌, ◌%◌, ◌^◌, ◌≤◌, ◌<◌, arith, length, get_or, drop, ℤ, pos}
use native.Mathlib.Nat.{suc-mul, mul-le-mul_right}
use native.Mathlib.Numerals.{add-one}
use lib.Seq.{drop-cons, drop-length}
use Rattle.field.specs.Field.{width_good}
use Rattle.code.specs.Code.{long}
use Rattle.code.specs.Bits.{row_long}
use Rattle.split.specs.Split as P
use Rattle.metric.specs.Cost.{cost_zero, cost_one, weight_of, cost}
use Rattle.trellis.specs.Trellis as T
use Rattle.trellis.specs.Trellis.{pick}
use Rattle.trellis.specs.Rows as R
use Rattle.lanes.specs.Lanes.{entry, lane, row}
use Rattle.lanes.proofs.Rows as RR
use Rattle.walk.specs.Walk.{sum4}
use Rattle.bridge.specs.Bridge.{Costed}
use Rattle.bridge.proofs.Layering.{by_layers}
use Rattle.search.specs.Within.{symbol_cost, word_cost, Own, Symbol}

pub pick_one : (b z o : ℕ) → (b ≡ 0 → ⊥) → o ≡ pick b z o
pick_one zero z o n = absurd (n refl)
pick_one (suc b) z o n = refl

pick_le : (top b z o : ℕ) → z ≤ top → o ≤ top → pick b z o ≤ top
pick_le top zero z o h k = h
pick_le top (suc b) z o h k = k

pub symbol_le : {top : ℕ} {z o : List ℕ} → Symbol top z o → (b j : ℕ) → j < 4 → pick b (lane z j) (lane o j) ≤ top
symbol_le {top} {z} {o} s b j h = pick_le top b (lane z j) (lane o j) (s.cost_z j h) (s.cost_o j h)

-- a word's cost so far, and what is left
pub record Adding (top : ℕ) (zs os word : List ℕ) (i sum : ℕ) : Type 0 where
  pub split : sum + word_cost zs os i (drop i word) ≡ word_cost zs os 0 word
  pub small : sum ≤ i * (top * 4)

pub adding_more : {top : ℕ} {zs os word : List ℕ} {i sum x : ℕ} → Adding top zs os word i sum → i < length word → x ≡ symbol_cost zs os i (get_or word i 0) → x ≤ top * 4 →
    Adding top zs os word (i + 1) (sum + x)
unfolding word_cost
adding_more {top} {zs} {os} {word} {i} a l e h = record {
  split = rw add-one (omega (arith, a.split, e, ap (word_cost zs os i) (drop-cons word i 0 l)));
  small = rw add-one (omega (arith, a.small, suc-mul i (top * 4)));
}

pub adding_end : {top : ℕ} {zs os word : List ℕ} {i sum : ℕ} → Adding top zs os word i sum → i ≡ length word → sum ≡ word_cost zs os 0 word
unfolding word_cost
adding_end {zs = zs} {os = os} {word = word} {i = i} a e = omega (arith, a.split, ap (λ (k : ℕ). word_cost zs os i (drop k word)) e, ap (word_cost zs os i) (drop-length word))

module _ {top : ℕ} {zs os word : List ℕ} (w : Own top zs os word) where
  pub own_in : (i : ℕ) → i < length word → (i * 4 + 4 ≤ length zs) × (i * 4 + 4 ≤ length os)
  own_in i l = (omega (arith, w.length_zs), omega (arith, w.length_os))

  pub symbol_ok : (i : ℕ) → i < length word → Symbol top (row zs i) (row os i)
  symbol_ok i l = record {
    cost_z = λ j lj. rw (RR.row_at zs i j lj) (w.cost_zs i j l lj);
    cost_o = λ j lj. rw (RR.row_at os i j lj) (w.cost_os i j l lj);
    room = omega (arith, w.room, mul-le-mul_right (top * 4) l, suc-mul i (top * 4));
  }

  pub adding_fits : {i sum x : ℕ} → Adding top zs os word i sum → i < length word → x ≤ top * 4 → sum + x < 2 ^ 32
  adding_fits {i} a l h = omega (arith, a.small, w.room, mul-le-mul_right (top * 4) l, suc-mul i (top * 4))

-- a symbol's cost, from the rows of its position
pub from_rows : (zs os : List ℕ) (i c : ℕ) → sum4 (λ j. pick (c / 2 ^ j % 2) (lane (row zs i) j) (lane (row os i) j)) ≡ symbol_cost zs os i c
from_rows zs os i c = omega (arith, part 0 (omega arith), part 1 (omega arith), part 2 (omega arith), part 3 (omega arith))
  where
    part : (j : ℕ) → j < 4 → pick (c / 2 ^ j % 2) (lane (row zs i) j) (lane (row os i) j) ≡ pick (c / 2 ^ j % 2) (entry zs i j) (entry os i j)
    part j lj = ap₂ (pick (c / 2 ^ j % 2)) (RR.row_at zs i j lj) (RR.row_at os i j lj)

-- THE COST OF A WORD
word_layers : (hs zs os : List ℕ) (i : ℕ) (ws : List ℕ) → word_cost zs os i ws ≡ sum4 (λ j. T.cost (R.layer hs zs os j) i (P.layer j ws))
unfolding word_cost T.cost P.layer
word_layers hs zs os i [] = refl
word_layers hs zs os i (c ∷ cs) = omega (arith, word_layers hs zs os (suc i) cs)

pub own_cost : (m : ℕ) → width_good m ≡ true → (rs : List ℤ) (hs zs os : List ℕ) → Costed m (long m) rs zs os → length rs ≡ row_long m → (ws : List ℕ) → length ws ≡ long m →
    word_cost zs os 0 ws ≡ cost m rs ws
own_cost m w rs hs zs os y l ws e = word_layers hs zs os 0 ws ∙ sym (by_layers m w rs hs zs os y l ws e)

-- the sum of a row's sizes
pub record Weighing (rs : List ℤ) (i sum : ℕ) : Type 0 where
  pub split : sum + weight_of (drop i rs) ≡ weight_of rs
  pub small : sum ≤ i * 32768

pub weighing_more : {rs : List ℤ} {i sum x : ℕ} → Weighing rs i sum → i < length rs → x ≡ cost_zero (get_or rs i (pos 0)) + cost_one (get_or rs i (pos 0)) → x ≤ 32768 → Weighing rs (i + 1) (sum + x)
unfolding weight_of
weighing_more {rs} {i} a l e h = record {
  split = rw add-one (omega (arith, a.split, e, ap weight_of (drop-cons rs i (pos 0) l)));
  small = omega (arith, a.small);
}

pub weighing_end : {rs : List ℤ} {i sum : ℕ} → Weighing rs i sum → i ≡ length rs → sum ≡ weight_of rs
unfolding weight_of
weighing_end {rs} {i} a e = omega (arith, a.split, ap (λ (k : ℕ). weight_of (drop k rs)) e, ap weight_of (drop-length rs))
