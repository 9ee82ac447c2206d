-- The table of columns is the least cost of the bits of each syndrome: no allowed bits cost less, and the trace (or some allowed bits) attain it.
-- Assumes nothing.
use Rattle.basics.proofs.Kit.{◌≡◌, refl, sym, ap, Bool, true, false, List, [], ◌∷◌, ℕ, zero, suc, ◌+◌, ◌≤◌, ◌<◌, min, arith, length, leb}
use borrow.Author.Tests.{leb-true, leb-false}
use Rattle.field.specs.Field.{xor}
use Rattle.field.proofs.Xor as X
use Rattle.trellis.specs.Trellis.{Column, Columns, pick, Choice, either, only, May, step, back, syn, cost, Held, free, final, bit, choice, trace}

-- any bit that may stand there costs at least the step
step_le : (a : Choice) (c : Column) (v : ℕ → ℕ) (s b : ℕ) → May a b → step a c v s ≤ v (xor s (pick b 0 c.h)) + pick b c.c0 c.c1
unfolding step
step_le either c v s zero m = rw (X.zero_r s) (omega arith)
step_le either c v s (suc b) m = omega arith
step_le (only x) c v s b m = rw m (omega arith)

bit_lt : (b : Bool) → bit b < 2
bit_lt true = omega arith
bit_lt false = omega arith

pub choice_lt : (c : Column) (v : ℕ → ℕ) (s : ℕ) → choice c v s < 2
unfolding choice
choice_lt c v s = bit_lt (leb (v s + c.c0) (v (xor s c.h) + c.c1))

-- and one attains it
choice_met : (c : Column) (v : ℕ → ℕ) (s : ℕ) → step either c v s ≡ v (xor s (pick (choice c v s) 0 c.h)) + pick (choice c v s) c.c0 c.c1
unfolding step choice
choice_met c v s = go (leb (v s + c.c0) (v (xor s c.h) + c.c1)) refl
  where
    go : (t : Bool) → leb (v s + c.c0) (v (xor s c.h) + c.c1) ≡ t →
        min (v s + c.c0) (v (xor s c.h) + c.c1) ≡ v (xor s (pick (bit t) 0 c.h)) + pick (bit t) c.c0 c.c1
    go true e = rw (X.zero_r s) (omega (arith, leb-true (v s + c.c0) (v (xor s c.h) + c.c1) e))
    go false e = omega (arith, leb-false (v s + c.c0) (v (xor s c.h) + c.c1) e)

step_met : (a : Choice) (c : Column) (v : ℕ → ℕ) (s : ℕ) → (b : ℕ) × May a b × (step a c v s ≡ v (xor s (pick b 0 c.h)) + pick b c.c0 c.c1)
step_met either c v s = (choice c v s, choice_lt c v s, choice_met c v s)
step_met (only x) c v s = (x, refl, unfold step in refl)

module _ (col : Columns) (v : ℕ → ℕ) where
  pub lower : (hold : ℕ → Choice) (i : ℕ) (bs : List ℕ) (s : ℕ) → Held hold i bs → back hold col v i (length bs) s ≤ v (xor s (syn col i bs)) + cost col i bs
  unfolding back syn cost
  lower hold i [] s m = rw (X.zero_r s) (omega arith)
  lower hold i (b ∷ bs) s m =
      let x : ℕ = pick b 0 (col i).h in
      omega (
        arith,
        step_le (hold i) (col i) (back hold col v (suc i) (length bs)) s b m.0,
        lower hold (suc i) bs (xor s x) m.1,
        ap v (X.assoc s x (syn col (suc i) bs)),
      )

  -- bits of the length, allowed, that attain the table at s
  pub record Attains (hold : ℕ → Choice) (i k s : ℕ) (bs : List ℕ) : Type 0 where
    pub count : length bs ≡ k
    pub held : Held hold i bs
    pub costs : back hold col v i k s ≡ v (xor s (syn col i bs)) + cost col i bs

  more : (hold : ℕ → Choice) (i k s b : ℕ) (bs : List ℕ) → May (hold i) b →
      step (hold i) (col i) (back hold col v (suc i) k) s ≡ back hold col v (suc i) k (xor s (pick b 0 (col i).h)) + pick b (col i).c0 (col i).c1 →
      Attains hold (suc i) k (xor s (pick b 0 (col i).h)) bs → Attains hold i (suc k) s (b ∷ bs)
  unfolding back syn cost
  more hold i k s b bs m e a = record {
    count = ap suc a.count;
    held = (m, a.held);
    costs = omega (arith, e, a.costs, ap v (X.assoc s (pick b 0 (col i).h) (syn col (suc i) bs)));
  }

  none : (hold : ℕ → Choice) (i s : ℕ) → Attains hold i zero s []
  unfolding back syn cost
  none hold i s = record { count = refl; held = tt; costs = rw (X.zero_r s) (omega arith) }

  pub attained : (hold : ℕ → Choice) (i k s : ℕ) → (bs : List ℕ) × Attains hold i k s bs
  attained hold i zero s = ([], none hold i s)
  attained hold i (suc k) s =
      let r = step_met (hold i) (col i) (back hold col v (suc i) k) s in
      let t = attained hold (suc i) k (xor s (pick r.0 0 (col i).h)) in
      (r.0 ∷ t.0, more hold i k s r.0 t.0 r.1 r.2 t.1)

  pub traced : (i k s : ℕ) → Attains free i k s (trace col v i k s)
  unfolding trace
  traced i zero s = none free i s
  traced i (suc k) s =
      let b : ℕ = choice (col i) (back free col v (suc i) k) s in
      more free i k s b (trace col v (suc i) k (xor s (pick b 0 (col i).h))) (choice_lt (col i) (back free col v (suc i) k) s) (choice_met (col i) (back free col v (suc i) k) s)
      (traced (suc i) k (xor s (pick b 0 (col i).h)))

-- with nothing behind: below big, the bits add up to s
at_zero : (big x : ℕ) → final big x < big → (x ≡ 0) × (final big x ≡ 0)
at_zero big zero h = (refl, refl)
at_zero big (suc x) h = absurd (omega arith)

pub reaches : (col : Columns) (big : ℕ) (hold : ℕ → Choice) (i k s : ℕ) (bs : List ℕ) → Attains col (final big) hold i k s bs → back hold col (final big) i k s < big →
    (syn col i bs ≡ s) × (cost col i bs ≡ back hold col (final big) i k s)
reaches col big hold i k s bs a h =
    let z = at_zero big (xor s (syn col i bs)) (omega (arith, a.costs)) in
    (sym (X.same s (syn col i bs) z.0), omega (arith, a.costs, z.1))

pub none_less : (col : Columns) (big : ℕ) (hold : ℕ → Choice) (i : ℕ) (bs : List ℕ) → Held hold i bs → back hold col (final big) i (length bs) (syn col i bs) ≤ cost col i bs
none_less col big hold i bs m = omega (arith, lower col (final big) hold i bs (syn col i bs) m, ap (final big) (X.self (syn col i bs)))
