-- The layers of a word that is woven of four.
-- Assumes nothing.
use Rattle.basics.proofs.Kit.{◌≡◌, refl, sym, ap, ap₂, ◌∙◌, List, [], ◌∷◌, ℕ, suc, ◌+◌, ◌*◌, ◌/◌, ◌%◌, ◌^◌, ◌<◌, arith, length}
use native.Mathlib.Nat.{suc_inj}
use Rattle.code.proofs.Words.{Below}
use Rattle.split.specs.Split.{layer}
use Rattle.trellis.specs.Rows.{merge, weave}
use Rattle.lanes.proofs.Rows.{four}
use Rattle.bridge.proofs.Layering.{first, next}

length_merge : (n : ℕ) (bs cs : List ℕ) → length bs ≡ n → length cs ≡ n → length (merge bs cs) ≡ n
unfolding merge
length_merge n [] cs p q = p
length_merge n (b ∷ bs) [] p q = q
length_merge n (b ∷ bs) (c ∷ cs) p q = ap suc (length_merge (length bs) bs cs refl (omega arith)) ∙ p

lowest : (bs cs : List ℕ) → length bs ≡ length cs → Below 2 bs → layer 0 (merge bs cs) ≡ bs
unfolding layer merge
lowest [] cs l h = refl
lowest (b ∷ bs) [] l h = absurd (omega arith)
lowest (b ∷ bs) (c ∷ cs) l h =
    let e : (b + 2 * c) % 2 ≡ b = omega (arith, h.0) in
    ap₂ (λ (x : ℕ) (xs : List ℕ). x ∷ xs) (first (b + 2 * c) ∙ e) (lowest bs cs (suc_inj l) h.1)

others : (j : ℕ) (bs cs : List ℕ) → length bs ≡ length cs → Below 2 bs → layer (suc j) (merge bs cs) ≡ layer j cs
unfolding layer merge
others j [] [] l h = refl
others j [] (c ∷ cs) l h = absurd (omega arith)
others j (b ∷ bs) [] l h = absurd (omega arith)
others j (b ∷ bs) (c ∷ cs) l h =
    let e : (b + 2 * c) / 2 ≡ c = omega (arith, h.0) in
    ap₂ (λ (x : ℕ) (xs : List ℕ). x ∷ xs) (next (b + 2 * c) j ∙ ap (λ (x : ℕ). x / 2 ^ j % 2) e) (others j bs cs (suc_inj l) h.1)

-- a binary word is its own lowest layer
own : (bs : List ℕ) → Below 2 bs → layer 0 bs ≡ bs
unfolding layer
own [] h = refl
own (b ∷ bs) h = let e : b % 2 ≡ b = omega (arith, h.0) in ap₂ (λ (x : ℕ) (xs : List ℕ). x ∷ xs) (first b ∙ e) (own bs h.1)

merge_below : (p : ℕ) (bs cs : List ℕ) → Below 2 bs → Below p cs → Below (2 * p) (merge bs cs)
unfolding merge
merge_below p [] cs h k = tt
merge_below p (b ∷ bs) [] h k = tt
merge_below p (b ∷ bs) (c ∷ cs) h k = (omega (arith, h.0, k.0), merge_below p bs cs h.1 k.1)

module _ (n : ℕ) (b : ℕ → List ℕ) (count : (j : ℕ) → j < 4 → length (b j) ≡ n) (two : (j : ℕ) → j < 4 → Below 2 (b j)) where
  c0 : length (b 0) ≡ n
  c0 = count 0 (omega arith)

  c1 : length (b 1) ≡ n
  c1 = count 1 (omega arith)

  c2 : length (b 2) ≡ n
  c2 = count 2 (omega arith)

  c3 : length (b 3) ≡ n
  c3 = count 3 (omega arith)

  l2 : length (merge (b 2) (b 3)) ≡ n
  l2 = length_merge n (b 2) (b 3) c2 c3

  l1 : length (merge (b 1) (merge (b 2) (b 3))) ≡ n
  l1 = length_merge n (b 1) (merge (b 2) (b 3)) c1 l2

  pub weave_long : length (weave b) ≡ n
  unfolding weave
  weave_long = length_merge n (b 0) (merge (b 1) (merge (b 2) (b 3))) c0 l1

  pub weave_layer : (j : ℕ) → j < 4 → layer j (weave b) ≡ b j
  unfolding weave
  weave_layer =
      four (λ j. layer j (weave b) ≡ b j)
      (lowest (b 0) (merge (b 1) (merge (b 2) (b 3))) (c0 ∙ sym l1) (two 0 (omega arith)))
      (up 0 ∙ lowest (b 1) (merge (b 2) (b 3)) (c1 ∙ sym l2) (two 1 (omega arith)))
      (up 1 ∙ up2 0 ∙ lowest (b 2) (b 3) (c2 ∙ sym c3) (two 2 (omega arith)))
      (up 2 ∙ up2 1 ∙ others 0 (b 2) (b 3) (c2 ∙ sym c3) (two 2 (omega arith)) ∙ own (b 3) (two 3 (omega arith)))
    where
      up : (j : ℕ) → layer (suc j) (merge (b 0) (merge (b 1) (merge (b 2) (b 3)))) ≡ layer j (merge (b 1) (merge (b 2) (b 3)))
      up j = others j (b 0) (merge (b 1) (merge (b 2) (b 3))) (c0 ∙ sym l1) (two 0 (omega arith))

      up2 : (j : ℕ) → layer (suc j) (merge (b 1) (merge (b 2) (b 3))) ≡ layer j (merge (b 2) (b 3))
      up2 j = others j (b 1) (merge (b 2) (b 3)) (c1 ∙ sym l2) (two 1 (omega arith))

  pub weave_below : (p : ℕ) → Below p (b 3) → Below (2 * (2 * (2 * p))) (weave b)
  unfolding weave
  weave_below p h =
      merge_below (2 * (2 * p)) (b 0) (merge (b 1) (merge (b 2) (b 3))) (two 0 (omega arith))
      (merge_below (2 * p) (b 1) (merge (b 2) (b 3)) (two 1 (omega arith)) (merge_below p (b 2) (b 3) (two 2 (omega arith)) h))
