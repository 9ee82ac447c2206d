-- What is promised of the order of words. A statement is a type; proofs/Promise.antt names the proof of each. Assumes nothing.
use Rattle.std.specs.Prelude.{◌≡◌, true, ◌||◌, List, ℕ}
use Rattle.order.specs.Order.{not_after}

-- of two words one does not come after the other
unfoldable pub OrderTotal : Type 0
OrderTotal = (vs ws : List ℕ) → (not_after vs ws || not_after ws vs) ≡ true

-- and where neither does, they are the same
unfoldable pub OrderAntisymmetric : Type 0
OrderAntisymmetric = (vs ws : List ℕ) → not_after vs ws ≡ true → not_after ws vs ≡ true → vs ≡ ws

unfoldable pub OrderTransitive : Type 0
OrderTransitive = (us vs ws : List ℕ) → not_after us vs ≡ true → not_after vs ws ≡ true → not_after us ws ≡ true
