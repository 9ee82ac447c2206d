-- THE GREATER METRIC IS THE LESSER COST: the metric of a word with a bit for each entry is the row's weight less twice its cost,
-- so greatest metrics, soft outputs and decodings come from least costs.
-- Assumes nothing.
use Rattle.basics.proofs.Kit.{◌≡◌, refl, sym, ap, ◌∙◌, Bool, true, List, [], ◌∷◌, ℕ, zero, suc, ◌+◌, ◌*◌, ◌≤◌, ◌<◌, arith, length, get_or, ℤ, pos, ◌-ℤ◌}
use native.Mathlib.Nat.{suc_inj}
use lib.Dec.{eqb-suc-zero}
use Rattle.order.specs.Order.{not_after}
use Rattle.code.specs.Code.{is_codeword}
use Rattle.code.specs.Bits.{all_bits, row_long}
use Rattle.code.proofs.Bits.{length_all_bits}
use Rattle.code.proofs.Words.{codeword_parts}
use Rattle.metric.specs.Metric.{metric_of, metric, at_most, Greatest, GreatestWith, Soft, Decoded}
use Rattle.metric.specs.Cost.{cost_zero, cost_one, discrepancy, weight_of, cost, top, Least, LeastWith}
use Rattle.metric.proofs.Integers.{plus, minus, same, le_at_most}

-- a codeword has a bit for each entry of a row
pub codeword_bits : (m r : ℕ) (rs : List ℤ) → length rs ≡ row_long m → (ws : List ℕ) → is_codeword m r ws ≡ true → length (all_bits m ws) ≡ length rs
unfolding row_long
codeword_bits m r rs l ws c = length_all_bits m ws ∙ ap (λ (n : ℕ). n * m) (codeword_parts m r ws c).count ∙ sym l

-- metric + 2 cost = weight, in natural numbers
pub metric_parts : (rs : List ℤ) (bs : List ℕ) → length rs ≡ length bs →
    cost_one (metric_of rs bs) + 2 * discrepancy rs bs ≡ cost_zero (metric_of rs bs) + weight_of rs
unfolding metric_of discrepancy weight_of
metric_parts [] bs l = refl
metric_parts (r ∷ rs) [] l = absurd (omega arith)
metric_parts (r ∷ rs) (zero ∷ bs) l = omega (arith, plus (metric_of rs bs) r, metric_parts rs bs (suc_inj l))
metric_parts (r ∷ rs) (suc b ∷ bs) l = rw (eqb-suc-zero b) (omega (arith, minus (metric_of rs bs) r, metric_parts rs bs (suc_inj l)))

pub top_parts : (rs : List ℤ) (d : ℕ) → cost_one (top rs d) + 2 * d ≡ cost_zero (top rs d) + weight_of rs
unfolding top
top_parts rs d = omega (arith, minus (pos (weight_of rs)) (pos (2 * d)))

pub top_own : (m : ℕ) (rs : List ℤ) (ws : List ℕ) → length (all_bits m ws) ≡ length rs → metric m rs ws ≡ top rs (cost m rs ws)
unfolding metric cost
top_own m rs ws l =
    let bs : List ℕ = all_bits m ws in
    same (metric_of rs bs) (top rs (discrepancy rs bs)) (omega (arith, metric_parts rs bs (sym l), top_parts rs (discrepancy rs bs)))

-- order and difference of metrics at two costs
pub top_le : (rs : List ℤ) (d e : ℕ) → d ≤ e → at_most (top rs e) (top rs d) ≡ true
top_le rs d e h = le_at_most (top rs e) (top rs d) (omega (arith, top_parts rs d, top_parts rs e))

pub top_minus : (rs : List ℤ) (d e : ℕ) → top rs d -ℤ top rs e ≡ pos (2 * e) -ℤ pos (2 * d)
top_minus rs d e =
    same (top rs d -ℤ top rs e) (pos (2 * e) -ℤ pos (2 * d))
    (omega (arith, top_parts rs d, top_parts rs e, minus (top rs d) (top rs e), minus (pos (2 * e)) (pos (2 * d))))

module _ (m : ℕ) (among : List ℕ → Bool) (rs : List ℤ) (full : (ws : List ℕ) → among ws ≡ true → length (all_bits m ws) ≡ length rs) where
  -- a word at a cost, the cost by the metric, and a word above a cost
  at_cost : (ws : List ℕ) (d : ℕ) → among ws ≡ true → cost m rs ws ≡ d → metric m rs ws ≡ top rs d
  at_cost ws d c e = top_own m rs ws (full ws c) ∙ ap (top rs) e

  of_metric : (ws : List ℕ) (d : ℕ) → among ws ≡ true → metric m rs ws ≡ top rs d → cost m rs ws ≡ d
  of_metric ws d c e =
      let k : ℕ = cost m rs ws in
      let h : top rs k ≡ top rs d = sym (top_own m rs ws (full ws c)) ∙ e in
      omega (arith, top_parts rs d, rw h at (top_parts rs k))

  under : (ws : List ℕ) (d : ℕ) → among ws ≡ true → d ≤ cost m rs ws → at_most (metric m rs ws) (top rs d) ≡ true
  under ws d c h = rw (top_own m rs ws (full ws c)) (top_le rs d (cost m rs ws) h)

  pub greatest : (d : ℕ) → Least m among rs d → Greatest m among rs (top rs d)
  greatest d s = record {
    met = (s.met.0, s.met.1, at_cost s.met.0 d s.met.1 s.met.2);
    all = λ ws c. under ws d c (s.all ws c);
  }

  pub greatest_with : (b v d : ℕ) → LeastWith m among rs b v d → GreatestWith m among rs b v (top rs d)
  greatest_with b v d s = record {
    met = (s.met.0, s.met.1, s.met.2, at_cost s.met.0 d s.met.1 s.met.3);
    all = λ ws c e. under ws d c (s.all ws c e);
  }

  pub soft : (b d0 d1 : ℕ) → LeastWith m among rs b 0 d0 → LeastWith m among rs b 1 d1 → Soft m among rs b (pos (2 * d1) -ℤ pos (2 * d0))
  soft b d0 d1 s t = record {
    of_zero = top rs d0;
    of_one = top rs d1;
    greatest_zero = greatest_with b 0 d0 s;
    greatest_one = greatest_with b 1 d1 t;
    difference = sym (top_minus rs d0 d1);
  }

  -- the first word of least cost, with soft outputs
  pub decoded_with : (ws : List ℕ) (d : ℕ) (so : List ℤ) → among ws ≡ true → cost m rs ws ≡ d → Least m among rs d →
      ((vs : List ℕ) → among vs ≡ true → cost m rs vs ≡ d → not_after ws vs ≡ true) → length so ≡ length rs →
      ((b : ℕ) → b < length rs → Soft m among rs b (get_or so b (pos 0))) → Decoded m among rs ws (top rs d) so
  decoded_with ws d so c e s t n f = record {
    word = c;
    own = sym (at_cost ws d c e);
    most = (greatest d s).all;
    first = λ vs k h. t vs k (of_metric vs d k h);
    count = n;
    softly = f;
  }

  pub decoded : (ws : List ℕ) (d : ℕ) (so : List ℤ) (zs os : ℕ → ℕ) → among ws ≡ true → cost m rs ws ≡ d → Least m among rs d →
      ((vs : List ℕ) → among vs ≡ true → cost m rs vs ≡ d → not_after ws vs ≡ true) → length so ≡ length rs →
      ((b : ℕ) → b < length rs → LeastWith m among rs b 0 (zs b) × LeastWith m among rs b 1 (os b) × (get_or so b (pos 0) ≡ pos (2 * os b) -ℤ pos (2 * zs b))) →
      Decoded m among rs ws (top rs d) so
  decoded ws d so zs os c e s t n f = decoded_with ws d so c e s t n (λ b h. rw (f b h).2 (soft b (zs b) (os b) (f b h).0 (f b h).1))
