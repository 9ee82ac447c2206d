-- The words of the layers, end to end: one after another, each inside them.
-- Assumes nothing.
use Rattle.basics.proofs.Kit.{◌≡◌, refl, sym, ap, ap₂, ◌∙◌, List, ◌++◌, ℕ, ◌+◌, ◌-◌, ◌*◌, ◌≤◌, ◌<◌, arith, length, take, drop}
use mathlib.Core.Logic.{◌⊎◌, inl, inr}
use lib.Dec.{lit≤}
use Rattle.std.proofs.lemmas.Bool.{cases_lt}
use Rattle.field.proofs.Tests.{widths}
use native.Mathlib.Nat.{mul_comm, mul-le-mul_right}
use lib.Seq.{length-take-le, take_at, drop_at, drop-drop}
use lib.ListN.{length-append, length-drop}
use Rattle.code.specs.declared.shape.Shape.{Shape}
use Rattle.code.specs.Code.{long}
use Rattle.code.specs.Bits.{row_long}
use Rattle.code.proofs.Promise.{row_small}
use Rattle.code.proofs.Accepted.{width_small}
use Rattle.split.proofs.Whole.{fits}
use Rattle.join.specs.Calls.{part}

pub part_length : (m j : ℕ) (bs : List ℕ) → length bs ≡ row_long m → j < m → length (part m j bs) ≡ long m
unfolding part row_long
part_length m j bs e h =
    let f : j * long m + long m ≤ length bs = fits j m (long m) (j * long m) (length bs) h refl (mul_comm m (long m) ∙ sym e) in
    length-take-le (long m) (drop (j * long m) bs) (omega (arith, length-drop (j * long m) bs, f))

-- as a loop over the layers has them
module _ (h : Shape) (bs : List ℕ) (j : ℕ) where
  pub part_at : take (j * h.n + h.n - j * h.n) (drop (j * h.n) bs) ≡ part h.m j bs
  unfolding part
  part_at =
      let k : j * h.n + h.n - j * h.n ≡ h.n = omega arith in
      ap₂ (λ (n i : ℕ). take n (drop i bs)) (k ∙ h.numbers.n_is) (ap (λ (n : ℕ). j * n) h.numbers.n_is)

  pub next_inside : length bs ≡ row_long h.m → j < h.m → j * h.n + h.n ≤ length bs
  unfolding row_long
  next_inside l i = fits j h.m h.n (j * h.n) (length bs) i refl (mul_comm h.m h.n ∙ ap (λ (n : ℕ). n * h.m) h.numbers.n_is ∙ sym l)

  pub next_small : length bs ≡ row_long h.m → j < h.m → (j * h.n + h.n ≤ 60) × (j < 4)
  next_small l i = (omega (arith, next_inside l i, l, row_small h.m h.numbers.width_is), omega (arith, i, width_small h.m h.numbers.width_is))

  -- a chunk of n values, where so many are taken, is the word of a layer
  module _ (rest : List ℕ) (is_rest : rest ≡ drop (j * h.n) bs) where
    total : length bs ≡ row_long h.m → length bs ≡ h.m * h.n
    unfolding row_long
    total l = l ∙ (ap (λ (n : ℕ). n * h.m) (sym h.numbers.n_is) ∙ mul_comm h.n h.m)

    pub chunk_at : (xs next : List ℕ) → rest ≡ xs ++ next → length xs ≡ h.n → xs ≡ part h.m j bs
    unfolding part
    chunk_at xs next e n =
        sym (take_at xs next h.n n) ∙ ap (take h.n) (sym e ∙ is_rest)
        ∙ ap₂ (λ (n i : ℕ). take n (drop i bs)) h.numbers.n_is (ap (λ (n : ℕ). j * n) h.numbers.n_is)

    pub chunk_next : (xs next : List ℕ) → rest ≡ xs ++ next → length xs ≡ h.n → next ≡ drop ((j + 1) * h.n) bs
    chunk_next xs next e n =
        let k : (j + 1) * h.n ≡ j * h.n + h.n = omega arith in
        rw k (sym (drop_at xs next h.n n) ∙ ap (drop h.n) (sym e ∙ is_rest) ∙ drop-drop h.n (j * h.n) bs)

    some : 0 < h.n
    unfolding long
    some = rw h.numbers.n_is (widths (λ (m : ℕ). 0 < long m) (lit≤ tt) (lit≤ tt) h.m h.numbers.width_is)

    pub chunk_inside : (xs next : List ℕ) → length bs ≡ row_long h.m → rest ≡ xs ++ next → length xs ≡ h.n → j < h.m
    chunk_inside xs next l e n = go (cases_lt j h.m)
      where
        go : (j < h.m) ⊎ (h.m ≤ j) → j < h.m
        go (inl k) = k
        go (inr k) =
            absurd (omega (arith, some, total l, mul-le-mul_right h.n k, length-drop (j * h.n) bs, ap length (sym is_rest ∙ e), length-append xs next, n))

    pub chunks_end : length bs ≡ row_long h.m → length rest < h.n → h.m ≤ j
    chunks_end l e = go (cases_lt j h.m)
      where
        go : (j < h.m) ⊎ (h.m ≤ j) → h.m ≤ j
        go (inl k) = absurd (omega (arith, next_inside l k, length-drop (j * h.n) bs, ap length is_rest, e))
        go (inr k) = k
