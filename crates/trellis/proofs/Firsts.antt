-- THE TRACE NAMES THE FIRST OF THE CHEAPEST: it takes a 0 where a 0 attains the least, from the front.
-- Assumes nothing.
use Rattle.basics.proofs.Kit.{◌≡◌, refl, sym, ap, ◌∙◌, Bool, true, false, List, [], ◌∷◌, ℕ, zero, suc, ◌+◌, ◌≤◌, ◌<◌, min, arith, length, leb}
use borrow.Author.Tests.{leb-true, leb-false}
use Rattle.order.specs.Order.{not_after}
use Rattle.order.proofs.Promise.{less_head, same_head}
use Rattle.field.specs.Field.{xor}
use Rattle.field.proofs.Xor as X
use Rattle.trellis.specs.Trellis.{Column, Columns, pick, step, either, back, syn, cost, Held, free, final, bit, choice, trace, Adds, first_word, NamesFirst}
use Rattle.trellis.specs.Rows.{layer, Firsts}
use Rattle.trellis.proofs.Trellis.{lower, Attains, traced, reaches, none_less}

module _ (col : Columns) (v : ℕ → ℕ) where
  -- a bit more: the first word takes a 0 where a 0 attains the least
  one_more : (c : Column) (B : ℕ → ℕ) (s b y : ℕ) (bs : List ℕ) (t : ℕ → List ℕ) → b < 2 → B (xor s (pick b 0 c.h)) ≤ y →
      (B (xor s (pick b 0 c.h)) ≡ y → not_after (t (xor s (pick b 0 c.h))) bs ≡ true) → y + pick b c.c0 c.c1 ≡ step either c B s →
      not_after (choice c B s ∷ t (xor s (pick (choice c B s) 0 c.h))) (b ∷ bs) ≡ true
  unfolding step choice
  one_more c B s b y bs t lb ly rec e = go (leb (B s + c.c0) (B (xor s c.h) + c.c1)) refl b lb ly rec e
    where
      go : (a : Bool) → leb (B s + c.c0) (B (xor s c.h) + c.c1) ≡ a → (b : ℕ) → b < 2 → B (xor s (pick b 0 c.h)) ≤ y →
          (B (xor s (pick b 0 c.h)) ≡ y → not_after (t (xor s (pick b 0 c.h))) bs ≡ true) → y + pick b c.c0 c.c1 ≡ min (B s + c.c0) (B (xor s c.h) + c.c1) →
          not_after (bit a ∷ t (xor s (pick (bit a) 0 c.h))) (b ∷ bs) ≡ true
      go true ea zero lb ly rec e =
          same_head 0 0 (t (xor s 0)) bs refl (rec (omega (arith, leb-true (B s + c.c0) (B (xor s c.h) + c.c1) ea, ap B (X.zero_r s))))
      go true ea (suc zero) lb ly rec e = less_head 0 1 (t (xor s 0)) bs (omega arith)
      go false ea zero lb ly rec e = absurd (omega (arith, leb-false (B s + c.c0) (B (xor s c.h) + c.c1) ea, ap B (X.zero_r s)))
      go false ea (suc zero) lb ly rec e =
          same_head 1 1 (t (xor s c.h)) bs refl (rec (omega (arith, leb-false (B s + c.c0) (B (xor s c.h) + c.c1) ea)))
      go a ea (suc (suc b)) lb ly rec e = absurd (omega arith)

  -- no bits that attain the table come before the trace
  trace_first : (i : ℕ) (bs : List ℕ) (s : ℕ) → Held free i bs → v (xor s (syn col i bs)) + cost col i bs ≡ back free col v i (length bs) s →
      not_after (trace col v i (length bs) s) bs ≡ true
  unfolding trace back syn cost
  trace_first i [] s m e = unfold not_after in refl
  trace_first i (b ∷ bs) s m e =
      let x : ℕ = pick b 0 (col i).h in
      let y : ℕ = v (xor (xor s x) (syn col (suc i) bs)) + cost col (suc i) bs in
      one_more (col i) (back free col v (suc i) (length bs)) s b y bs (trace col v (suc i) (length bs)) m.0 (lower col v free (suc i) bs (xor s x) m.1)
      (λ d. trace_first (suc i) bs (xor s x) m.1 (sym d))
      (omega (arith, e, ap v (X.assoc s x (syn col (suc i) bs))))

-- bits that add up to s cost no less than the table has there
pub adds_le : (col : Columns) (big n s : ℕ) (bs : List ℕ) → Adds col n s bs → back free col (final big) 0 n s ≤ cost col 0 bs
adds_le col big n s bs a = rw (← a.count, ← a.sum) (none_less col big free 0 bs a.held)

pub names_first : (col : Columns) (big n s : ℕ) → NamesFirst col big n s
names_first col big n s h =
    let a : Attains col (final big) free 0 n s (first_word col big n s) = traced col (final big) 0 n s in
    let r = reaches col big free 0 n s (first_word col big n s) a h in
    record {
      adds = record { count = a.count; held = a.held; sum = r.0 };
      least = λ bs b. omega (arith, r.1, adds_le col big n s bs b);
      first = λ bs b e.
          rw b.count at (trace_first col (final big) 0 bs s b.held
          (omega (arith, e, r.1, ap (final big) (ap (xor s) b.sum ∙ X.self s), ap (λ (k : ℕ). back free col (final big) 0 k s) b.count)));
    }

pub firsts : (big : ℕ) (hs zs os : List ℕ) → Firsts big hs zs os
firsts big hs zs os s j = names_first (layer hs zs os j) big (length hs) s
