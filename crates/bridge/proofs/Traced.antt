-- The word of a tuple's first words is a codeword that has the cost of the tuple.
-- Assumes nothing.
use Rattle.basics.proofs.Kit.{◌≡◌, refl, ap, ◌∙◌, true, List, ℕ, zero, suc, ◌+◌, ◌≤◌, ◌<◌, arith, length, leb, ℤ}
use borrow.Author.Tests.{le-leb}
use Rattle.field.specs.Field.{xor}
use Rattle.field.proofs.Xor as X
use Rattle.code.specs.Code.{long, is_codeword}
use Rattle.code.proofs.Words.{Below}
use Rattle.metric.specs.Cost.{cost}
use Rattle.trellis.specs.Trellis.{Columns, step, back, free, final, bit, choice, trace}
use Rattle.trellis.specs.Rows as R
use Rattle.lanes.specs.Lanes.{lane}
use Rattle.trellis.specs.Rows.{first_words}
use Rattle.trellis.proofs.Trellis.{Attains, reaches}
use Rattle.trellis.proofs.Trellis as TT
use Rattle.lanes.proofs.Rows.{four}
use Rattle.bridge.specs.Bridge.{Setting}
use Rattle.bridge.proofs.Engine.{over}
use Rattle.bridge.proofs.Bridge.{table, costless, Lane, woven, free_two}

-- a layer that costs nothing is traced as zeros
module _ (col : Columns) (big n : ℕ) (free_zero : (p : ℕ) → p < n → (col p).c0 ≡ 0) where
  back_zero : (i k : ℕ) → i + k ≤ n → back free col (final big) i k 0 ≡ 0
  unfolding back step
  back_zero i zero h = refl
  back_zero i (suc k) h = omega (arith, back_zero (suc i) k (omega arith), free_zero i (omega arith))

  trace_zero : (i k : ℕ) → i + k ≤ n → Below 1 (trace col (final big) i k 0)
  unfolding trace choice
  trace_zero i zero h = tt
  trace_zero i (suc k) h =
      let v : ℕ → ℕ = back free col (final big) (suc i) k in
      let e : bit (leb (v 0 + (col i).c0) (v (xor 0 (col i).h) + (col i).c1)) ≡ 0 =
      ap bit (le-leb (v 0 + (col i).c0) (v (xor 0 (col i).h) + (col i).c1) (omega (arith, back_zero (suc i) k (omega arith), free_zero i (omega arith)))) in
      rw e (omega arith, rw (X.zero_r 0) (trace_zero (suc i) k (omega arith)))

module _ {m r : ℕ} {hs : List ℕ} {N : ℕ} {conf : (k j : ℕ) → ℕ} {rs : List ℤ} {zs os : List ℕ} (y : Setting m r hs N conf rs zs os) (big : ℕ) where
  abbrev L : ℕ → Columns
  L = R.layer hs zs os

  abbrev F : ℕ → ℕ → ℕ
  F = table y big (λ j. free)

  -- THE WORD of a tuple that costs less than big
  pub word : (k : ℕ) → k < N → over F (conf k) < big → (s : List ℕ) → ((j : ℕ) → j < 4 → lane s j ≡ conf k j) →
      (is_codeword m r (first_words big hs zs os s) ≡ true) × (cost m rs (first_words big hs zs os s) ≡ over F (conf k))
  word k lk h s e =
      let t = woven y big (λ j. free) (λ j. free_two) (λ j u. refl) k lk (λ j. trace (L j) (final big) 0 (length hs) (lane s j)) each in
      (t.0, t.2)
    where
      small : (j : ℕ) → j < 4 → F j (conf k j) < big
      small = four (λ j. F j (conf k j) < big) (omega arith) (omega arith) (omega arith) (omega arith)

      each : (j : ℕ) → j < 4 → Lane y big (λ j. free) (λ j. free_two) (λ j u. refl) k j (trace (L j) (final big) 0 (length hs) (lane s j))
      each j lj =
          let a : Attains (L j) (final big) free 0 (length hs) (conf k j) (trace (L j) (final big) 0 (length hs) (conf k j)) = TT.traced (L j) (final big) 0 (length hs) (conf k j) in
          let r = reaches (L j) big free 0 (length hs) (conf k j) (trace (L j) (final big) 0 (length hs) (conf k j)) a (small j lj) in
          rw (e j lj) (record {
            count = a.count ∙ y.glue.count;
            two = free_two 0 (trace (L j) (final big) 0 (length hs) (conf k j)) a.held;
            sum = r.0;
            held = a.held;
            costs = r.1;
            high = λ u. rw (y.glue.high k j lk u lj) (trace_zero (L j) big (long m) (costless hs y.costs j u lj) 0 (length hs) (omega (arith, y.glue.count)));
          })
