-- What the search and the soft pass need of the tables: every coset has a word that costs less than `none`, the first of the cheapest is named, its
-- number is that of a word, and a table that was kept comes back whole.
-- Assumes nothing.
use Rattle.basics.proofs.Kit.{◌≡◌, ap, ◌∙◌, List, ℕ, ◌+◌, ◌-◌, ◌*◌, ◌/◌, ◌%◌, ◌^◌, ◌≤◌, ◌<◌, arith, length, get_or, take, drop, ℤ, pos}
use native.Mathlib.Nat.{mul-le-mul_right}
use lib.ListN.{length-drop}
use lib.Seq.{get_or-take, get_or-drop, length-take-le}
use Rattle.order.specs.Number.{number}
use Rattle.trellis.specs.Trellis.{back, free, final, first_word, First, NamesFirst}
use Rattle.trellis.specs.Rows.{layer}
use Rattle.trellis.proofs.Firsts.{names_first}
use Rattle.coset.specs.Coset.{none, least, first, Layers, Kept}
use Rattle.coset.specs.Runs.{Restore}
use Rattle.coset.proofs.Least.{first_lt, least_le}

-- from position 0 on
pub least_whole : (hs zs os : List ℕ) (j s : ℕ) → least hs zs os 0 j s ≡ back free (layer hs zs os j) (final none) 0 (length hs) s
least_whole hs zs os j s = let e : length hs - 0 ≡ length hs = omega arith in rw e

pub first_whole : (hs zs os : List ℕ) (j s : ℕ) → first hs zs os 0 j s ≡ first_word (layer hs zs os j) none (length hs) s
first_whole hs zs os j s = let e : length hs - 0 ≡ length hs = omega arith in rw e

module _ {q size : ℕ} {hs zs os : List ℕ} (a : Layers q size hs zs os) {j : ℕ} (lj : j < 4) where
  -- from a head on, no cost is above that of as many bits
  pub cost_le : (i s : ℕ) → i ≤ length hs - q → s < size → least hs zs os i j s ≤ (length hs - i) * a.top
  cost_le i s l ls =
      let e : length hs - (length hs - i) ≡ i = omega (arith, a.fits) in
      rw e at (least_le a lj (length hs - i) s (omega (arith, a.fits)) (omega arith) ls)

  pub cost_lt : (i s : ℕ) → i ≤ length hs - q → s < size → least hs zs os i j s < 2 ^ 15
  cost_lt i s l ls =
      let e : length hs - i ≤ length hs = omega arith in
      omega (arith, cost_le i s l ls, mul-le-mul_right a.top e, a.room)

  module _ (s : ℕ) (ls : s < size) where
    pub whole_le : least hs zs os 0 j s ≤ length hs * a.top
    whole_le = let e : length hs - 0 ≡ length hs = omega arith in omega (arith, cost_le 0 s (omega arith) ls, ap (λ (k : ℕ). k * a.top) e)

    pub whole_lt : least hs zs os 0 j s < none
    whole_lt = omega (arith, cost_lt 0 s (omega arith) ls)

    pub number_whole : number 2 (first hs zs os 0 j s) < 2 ^ length hs
    number_whole = let e : length hs - 0 ≡ length hs = omega arith in omega (arith, first_lt hs zs os j 0 s, ap (λ (k : ℕ). 2 ^ k) e)

    pub named : NamesFirst (layer hs zs os j) none (length hs) s
    named = names_first (layer hs zs os j) none (length hs) s

    pub whole_first : First (layer hs zs os j) (length hs) s (first hs zs os 0 j s)
    whole_first = rw (first_whole hs zs os j s) (named (omega (arith, least_whole hs zs os j s, whole_lt)))

-- A TABLE KEPT: the part that `restore` is handed
module _ {q size : ℕ} {hs zs os : List ℕ} (a : Layers q size hs zs os) (kept : List ℤ) (f : Kept q size hs zs os kept) {i : ℕ} (some : 0 < i) (l : i < length hs - q) where
  abbrev at : ℕ
  at = (i - 1) * (size * 4)

  abbrev part : List ℤ
  part = take (size * 4) (drop at kept)

  held : (s j : ℕ) → s < size → j < 4 → get_or part (s * 4 + j) (pos 0) ≡ pos (least hs zs os i j s)
  held s j ls lj = get_or-take (size * 4) (drop at kept) (s * 4 + j) (pos 0) (omega arith) ∙ get_or-drop at kept (s * 4 + j) (pos 0) ∙ f i s j some l ls lj

  pub restore_asks : (g : List ℕ) → length g ≡ size * 4 → at + size * 4 ≤ length kept → Restore g part
  restore_asks g e r = record {
    inside = omega (arith, length-take-le (size * 4) (drop at kept) (omega (arith, length-drop at kept)));
    costs = λ k lk.
        let d : k ≡ k / 4 * 4 + k % 4 = omega arith in
        let ls : k / 4 < size = omega arith in
        let lj : k % 4 < 4 = omega arith in
        record { value = least hs zs os i (k % 4) (k / 4); is = ap (λ (x : ℕ). get_or part x (pos 0)) d ∙ held (k / 4) (k % 4) ls lj; small = omega (arith, cost_lt a lj i (k / 4) (omega arith) ls) };
  }
