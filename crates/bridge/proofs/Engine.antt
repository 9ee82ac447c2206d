-- From the walk to the least with one layer's table replaced: where a layer's other table meets what the other layers cost, that is a sum over one
-- tuple.
-- Assumes nothing.
use Rattle.basics.proofs.Kit.{◌≡◌, ap, cond, ℕ, ◌+◌, ◌≤◌, ◌<◌, arith, eqb}
use Rattle.trellis.specs.Trellis.{meet}
use Rattle.trellis.proofs.Least.{least_le, least_found}
use Rattle.lanes.proofs.Rows.{four}
use Rattle.walk.specs.Walk.{sum4}

-- tuple k's total, over tables F
abbrev pub over : (F : ℕ → ℕ → ℕ) → (t : ℕ → ℕ) → ℕ
over F t = sum4 (λ j. F j (t j))

-- F with the table of layer j replaced
abbrev pub replaced : (F : ℕ → ℕ → ℕ) → (j : ℕ) → (H : ℕ → ℕ) → ℕ → ℕ → ℕ
replaced F j H l s = cond (eqb l j) (H s) (F l s)

pub part_le : (F : ℕ → ℕ → ℕ) (t : ℕ → ℕ) (j : ℕ) → j < 4 → F j (t j) ≤ over F t
part_le F t = four (λ j. F j (t j) ≤ over F t) (omega arith) (omega arith) (omega arith) (omega arith)

swap : (F : ℕ → ℕ → ℕ) (t H : ℕ → ℕ) (j : ℕ) → j < 4 → over (replaced F j H) t + F j (t j) ≡ over F t + H (t j)
swap F t H = four (λ j. over (replaced F j H) t + F j (t j) ≡ over F t + H (t j)) (omega arith) (omega arith) (omega arith) (omega arith)

-- a has what the other layers cost at the least where layer j has a coset: no tuple costs less, and below a bound some tuple costs that
pub record Others (F t : ℕ → ℕ → ℕ) (n j size bound : ℕ) (a : ℕ → ℕ) : Type 0 where
  pub no_less : (k : ℕ) → k < n → a (t k j) + F j (t k j) ≤ over F (t k)
  pub met : (s : ℕ) → s < size → a s < bound → (k : ℕ) × (k < n) × (t k j ≡ s) × (a s + F j s ≡ over F (t k))

module _ {F t : ℕ → ℕ → ℕ} {n j size bound : ℕ} {a : ℕ → ℕ} (o : Others F t n j size bound a) (lj : j < 4) (H : ℕ → ℕ) (cap : ℕ) where
  pub soft_le : (k : ℕ) → k < n → t k j < size → meet cap size a H ≤ over (replaced F j H) (t k)
  soft_le k l ls = omega (arith, least_le (λ s. a s + H s) cap size (t k j) ls, o.no_less k l, swap F (t k) H j lj)

  -- below the bound, the meeting is over one of the tuples
  pub soft_found : bound ≤ cap → meet cap size a H < bound → (k : ℕ) × (k < n) × (over (replaced F j H) (t k) ≡ meet cap size a H)
  soft_found c h =
      let r = least_found (λ s. a s + H s) cap size (omega arith) in
      let f = o.met r.0 r.1 (omega (arith, r.2)) in
      (f.0, f.1, omega (arith, r.2, f.3, ap H f.2, ap (F j) f.2, swap F (t f.0) H j lj))
