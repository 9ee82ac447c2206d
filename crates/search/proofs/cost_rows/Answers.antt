-- `search::cost_rows` meets its contract.
-- Assumes nothing.
use Rattle.basics.proofs.Kit.{◌≡◌, refl, true, ℕ}
use Rattle.field.specs.Field.{width_good}
use Rattle.field.proofs.Tests.{widths}
use Rattle.search.proofs.cost_rows.Goals as goal

-- a width that is not 4
three : (m : ℕ) → width_good m ≡ true → (m ≡ 4 → ⊥) → m ≡ 3
three m w = widths (λ (m : ℕ). (m ≡ 4 → ⊥) → m ≡ 3) (λ n. refl) (λ n. absurd (n refl)) m w

pub cost_wide-requires : goal.cost_wide-requires
cost_wide-requires c = rw (three _ c.requires.width c.if-m-eq4.false) at c.requires

pub returns-else-m-eq4 : goal.returns-else-m-eq4
returns-else-m-eq4 c = rw (three _ c.requires.width c.if-m-eq4.false) c.cost_wide.ensures
