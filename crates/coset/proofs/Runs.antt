-- Pairs in place, from one to another: runs join, runs with nothing in them, and one pair. Tables are functions: one law serves every lane.
-- Assumes nothing.
use Rattle.basics.proofs.Kit.{◌≡◌, refl, sym, ap, ◌∙◌, ℕ, suc, ◌+◌, ◌-◌, ◌*◌, ◌^◌, ◌≤◌, ◌<◌, min, arith}
use native.Mathlib.Nat.{two-pow-succ, suc-mul, mul_assoc, pow-succ'}
use native.Mathlib.Decide.{dec_le, ℕ_discrete}
use lib.Bits.{xor_block}
use Rattle.field.specs.Field.{xor}
use Rattle.field.proofs.Xor as X
use Rattle.coset.specs.Runs.{leader, Ran}

pub same_leader : (h v : ℕ) → leader h (xor v h) ≡ leader h v
same_leader h v = omega (arith, X.uncancel v h)

moved : (h v : ℕ) → 0 < h → v ≡ xor v h → ⊥
moved h v p e = let z : 0 ≡ h = sym (X.self v) ∙ ap (xor v) e ∙ X.cancel v h in omega arith

module _ {h z o size : ℕ} where
  pub ran_none : {a : ℕ} {T : ℕ → ℕ} → Ran h z o size a a T T
  ran_none = record { done = λ v b x y. absurd (omega arith); before = λ v b x. refl; after = λ v b x. refl }

  pub ran_then : {a b c : ℕ} {T T' T'' : ℕ → ℕ} → ((s : ℕ) → s < size → xor s h < size) → a ≤ b → b ≤ c → Ran h z o size a b T T' → Ran h z o size b c T' T'' → Ran h z o size a c T T''
  ran_then {a} {b} {c} {T} {T'} {T''} over l m f g = record {
    done = λ v i x y. go v i x y (dec_le b (leader h v));
    before = λ v i x. g.before v i (omega arith) ∙ f.before v i x;
    after = λ v i x. g.after v i x ∙ f.after v i (omega arith);
  }
    where
      go : (v : ℕ) → v < size → a ≤ leader h v → leader h v < c → Dec (b ≤ leader h v) → T'' v ≡ min (T v + z) (T (xor v h) + o)
      go v i x y (no n) = g.before v i (omega arith) ∙ f.done v i x (omega arith)
      go v i x y (yes n) = g.done v i n y ∙ rw (f.after v i n, f.after (xor v h) (over v i) (omega (arith, same_leader h v)))

  -- where the column leads down, each pair has its first row elsewhere
  pub ran_skip : {a b : ℕ} {T : ℕ → ℕ} → 0 < h → ((s : ℕ) → a ≤ s → s < b → xor s h ≤ s) → Ran h z o size a b T T
  ran_skip {a} {b} {T} p n = record { done = λ v i x y. absurd (go v x y (dec_le v (xor v h))); before = λ v i x. refl; after = λ v i x. refl }
    where
      go : (v : ℕ) → a ≤ leader h v → leader h v < b → Dec (v ≤ xor v h) → ⊥
      go v x y (yes l) = moved h v p (omega (arith, n v (omega arith) (omega arith)))
      go v x y (no l) = omega (arith, n (xor v h) (omega arith) (omega arith), X.uncancel v h)

  pub ran_pair : {s : ℕ} {T T' : ℕ → ℕ} → s < xor s h → T' s ≡ min (T s + z) (T (xor s h) + o) → T' (xor s h) ≡ min (T (xor s h) + z) (T s + o) →
      ((v : ℕ) → (v ≡ s → ⊥) → (v ≡ xor s h → ⊥) → T' v ≡ T v) → Ran h z o size s (s + 1) T T'
  ran_pair {s} {T} {T'} l es eu r = record {
    done = λ v i x y. go v x y (ℕ_discrete v s) (ℕ_discrete (xor v h) s);
    before = λ v i x. r v (λ e. omega (arith, ap (λ (y : ℕ). xor y h) e)) (λ e. omega (arith, ap (λ (y : ℕ). xor y h) e, X.uncancel s h));
    after = λ v i x. r v (λ e. omega arith) (λ e. omega (arith, ap (λ (y : ℕ). xor y h) e, X.uncancel s h));
  }
    where
      go : (v : ℕ) → s ≤ leader h v → leader h v < s + 1 → Dec (v ≡ s) → Dec (xor v h ≡ s) → T' v ≡ min (T v + z) (T (xor v h) + o)
      go v x y (yes e) d = rw e es
      go v x y (no a) (yes e) =
          let u : v ≡ xor s h = sym (X.uncancel v h) ∙ ap (λ (y : ℕ). xor y h) e in
          rw (u, X.uncancel s h) eu
      go v x y (no a) (no c) = absurd (omega arith)

-- a block of 2 ^ (e + 1) rows from a multiple of it on: in the first half a column with highest bit e leads up, in the second down
module _ (e h c : ℕ) (lo : 2 ^ e ≤ h) (hi : h < 2 ^ suc e) where
  place : (x r : ℕ) → x < 2 → r < 2 ^ e → xor ((c * 2 + x) * 2 ^ e + r) h ≡ (c * 2 + xor x 1) * 2 ^ e + xor r (h - 2 ^ e)
  unfolding xor
  place x r lx lr =
      let k : h ≡ 1 * 2 ^ e + (h - 2 ^ e) = omega arith in
      ap (xor ((c * 2 + x) * 2 ^ e + r)) k
      ∙ xor_block e (c * 2 + x) 1 r (h - 2 ^ e) lr (omega (arith, two-pow-succ e))
      ∙ ap (λ (y : ℕ). y * 2 ^ e + xor r (h - 2 ^ e)) (xor_block 1 c 0 x 1 lx (omega arith) ∙ ap (λ (y : ℕ). y * 2 + xor x 1) (X.zero_r c))

  base_is : c * 2 ^ suc e ≡ (c * 2 + 0) * 2 ^ e
  base_is = let k : c * 2 + 0 ≡ c * 2 = omega arith in rw (k, mul_assoc c 2 (2 ^ e), pow-succ' 2 e)

  half_is : c * 2 ^ suc e + 2 ^ e ≡ (c * 2 + 1) * 2 ^ e
  half_is = let k : c * 2 + 1 ≡ suc (c * 2 + 0) = omega arith in rw (k, suc-mul (c * 2 + 0) (2 ^ e)) (omega (arith, base_is))

  low_part : (r : ℕ) → r < 2 ^ e → xor r (h - 2 ^ e) < 2 ^ e
  low_part r l = X.below e r (h - 2 ^ e) l (omega (arith, two-pow-succ e))

  pub block_up : (s : ℕ) → c * 2 ^ suc e ≤ s → s < c * 2 ^ suc e + 2 ^ e → s < xor s h
  unfolding xor
  block_up s a b =
      let r : ℕ = s - c * 2 ^ suc e in
      let k : s ≡ (c * 2 + 0) * 2 ^ e + r = omega (arith, base_is) in
      omega (arith, ap (λ (y : ℕ). xor y h) k, place 0 r (omega arith) (omega arith), half_is)

  pub block_down : (s : ℕ) → c * 2 ^ suc e + 2 ^ e ≤ s → s < c * 2 ^ suc e + 2 ^ suc e → xor s h ≤ s
  unfolding xor
  block_down s a b =
      let r : ℕ = s - (c * 2 ^ suc e + 2 ^ e) in
      let k : s ≡ (c * 2 + 1) * 2 ^ e + r = omega (arith, half_is) in
      let lr : r < 2 ^ e = omega (arith, two-pow-succ e) in
      omega (arith, ap (λ (y : ℕ). xor y h) k, place 1 r (omega arith) lr, base_is, low_part r lr)
