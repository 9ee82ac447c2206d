-- The three verdicts from costs: the shortfall is twice what the word costs above the least; and from the greatest metric.
-- Assumes nothing.
use Rattle.basics.proofs.Kit.{◌≡◌, refl, ap, ◌∙◌, Bool, true, false, List, ℕ, ◌-◌, ◌*◌, ◌<◌, arith, length, ℤ, pos, ◌-ℤ◌}
use Rattle.code.specs.Bits.{all_bits}
use Rattle.metric.specs.Metric.{metric, at_most, Greatest, Marked}
use Rattle.metric.specs.Cost.{cost_zero, cost_one, cost, top, Least}
use Rattle.metric.proofs.Integers.{minus, same, gt_at_most, at_most_antisym}
use Rattle.metric.proofs.Costs.{top_parts, top_own, greatest}

pub marked_none : (m : ℕ) (among : List ℕ → Bool) (rs : List ℤ) (ws : List ℕ) → among ws ≡ false → Marked 0 (pos 0) m among rs ws
unfolding Marked
marked_none m among rs ws c = (c, refl)

module _ (m : ℕ) (among : List ℕ → Bool) (rs : List ℤ) (full : (ws : List ℕ) → among ws ≡ true → length (all_bits m ws) ≡ length rs) (ws : List ℕ)
    (d : ℕ) (c : among ws ≡ true) (s : Least m among rs d) where
  pub marked_short : d < cost m rs ws → Marked 1 (pos (2 * (cost m rs ws - d))) m among rs ws
  unfolding Marked
  marked_short h =
      let g : ℤ = top rs d in
      let o : ℤ = top rs (cost m rs ws) in
      rw (top_own m rs ws (full ws c)) (
        c,
        (
          g,
          greatest m among rs full d s,
          gt_at_most g o (omega (arith, top_parts rs d, top_parts rs (cost m rs ws))),
          same _ _ (omega (arith, top_parts rs d, top_parts rs (cost m rs ws), minus g o)),
        ),
      )

  pub marked_best : cost m rs ws ≡ d → Marked 2 (pos 0) m among rs ws
  unfolding Marked
  marked_best e = (c, rw (top_own m rs ws (full ws c) ∙ ap (top rs) e) (greatest m among rs full d s), refl)

-- the verdicts on a word from the greatest metric itself
module _ (m : ℕ) (among : List ℕ → Bool) (rs : List ℤ) (ws : List ℕ) (g : ℤ) (c : among ws ≡ true) (s : Greatest m among rs g) where
  pub marked_none_lacking : g -ℤ metric m rs ws ≡ pos 0 → Marked 2 (pos 0) m among rs ws
  unfolding Marked
  marked_none_lacking e = (c, rw (same g (metric m rs ws) (omega (arith, minus g (metric m rs ws), ap cost_one e, ap cost_zero e))) at s, refl)

  pub marked_lacking : (g -ℤ metric m rs ws ≡ pos 0 → ⊥) → Marked 1 (g -ℤ metric m rs ws) m among rs ws
  unfolding Marked
  marked_lacking n = (c, (g, s, go (at_most g (metric m rs ws)) refl, refl))
    where
      go : (b : Bool) → at_most g (metric m rs ws) ≡ b → b ≡ false
      go true e = absurd (n (rw (at_most_antisym g (metric m rs ws) e (s.all ws c)) (same _ _ (omega (arith, minus (metric m rs ws) (metric m rs ws))))))
      go false e = refl
