-- What document 03 asks of soft outputs, decodings and marks, over a set of words: statements about greatest metrics that are given to them.
-- No promise of a call cites it: Metric.antt says more, that the greatest metrics are there too; Promise.antt says that these follow.
-- Assumes nothing: these are definitions.
use Rattle.std.specs.Prelude.{◌≡◌, Bool, true, false, List, ℕ, ◌<◌, length, get_or, ℤ, pos, ◌-ℤ◌}
use Rattle.metric.specs.Metric.{metric, at_most, Greatest, GreatestWith}

-- soft outputs, one a bit
unfoldable pub SoftRight : (m : ℕ) → (among : List ℕ → Bool) → (rs soft : List ℤ) → Type 0
SoftRight m among rs so =
    (length so ≡ length rs)
    × ((b : ℕ) (g h : ℤ) → b < length rs → GreatestWith m among rs b 0 g → GreatestWith m among rs b 1 h → get_or so b (pos 0) ≡ g -ℤ h)

-- a decoding
pub record DecodedRight (m : ℕ) (among : List ℕ → Bool) (rs : List ℤ) (ws : List ℕ) (best : ℤ) (soft : List ℤ) : Type 0 where
  pub word : among ws ≡ true
  pub own : best ≡ metric m rs ws
  pub most : (vs : List ℕ) → among vs ≡ true → at_most (metric m rs vs) best ≡ true
  pub softly : SoftRight m among rs soft

-- a mark: 0 none, 1 short, 2 best
pub record MarkedRight (m : ℕ) (among : List ℕ → Bool) (rs : List ℤ) (ws : List ℕ) (verdict : ℕ) (shortfall : ℤ) : Type 0 where
  pub none : (verdict ≡ 0 → among ws ≡ false) × (among ws ≡ false → (verdict ≡ 0) × (shortfall ≡ pos 0))
  pub best :
      (verdict ≡ 2 → (among ws ≡ true) × ((vs : List ℕ) → among vs ≡ true → at_most (metric m rs vs) (metric m rs ws) ≡ true))
      × (among ws ≡ true → ((vs : List ℕ) → among vs ≡ true → at_most (metric m rs vs) (metric m rs ws) ≡ true) →
      (verdict ≡ 2) × (shortfall ≡ pos 0))
  pub short :
      (g : ℤ) → among ws ≡ true → Greatest m among rs g → at_most g (metric m rs ws) ≡ false →
      (verdict ≡ 1) × (shortfall ≡ g -ℤ metric m rs ws)
