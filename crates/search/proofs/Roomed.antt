-- Rooms of three sizes hold what a code rules, and the scratch is all 0.
-- Assumes nothing.
use Rattle.basics.proofs.Kit.{◌≡◌, sym, ap, ◌∙◌, List, ℕ, ◌*◌, ◌^◌, ◌≤◌, arith, length, take, ℤ, pos}
use lib.ListN.{replicate}
use Rattle.code.specs.declared.shape.Shape.{Shape}
use Rattle.code.specs.Code.{long, syndrome_long}
use Rattle.tails.specs.Tails.{columns}
use Rattle.metric.specs.Scratch.{scratch_long, cleared}
use Rattle.walk.specs.Walk.{start}
use Rattle.spots.specs.Promise.{Walks}
use Rattle.spots.proofs.Walks.{walks}
use Rattle.search.specs.Within.{slots_of, Roomy, Sizes}
use Rattle.tails.proofs.Codewords.{columns_long}
use Rattle.search.proofs.Heads as H
use Rattle.search.proofs.Prepared.{long_le}

pub cleared_is : {y : List ℤ} (n : ℕ) → y ≡ replicate n (pos 0) → n ≡ scratch_long → y ≡ cleared
cleared_is n e f = e ∙ ap (λ (k : ℕ). replicate k (pos 0)) f

module _ (s : Shape) where
  size_is : s.size ≡ 2 ^ syndrome_long s.m s.r
  size_is = s.numbers.size_is ∙ ap (λ (q : ℕ). 2 ^ q) s.numbers.q_is

  pub wide : s.n * 4 ≤ 60
  wide = omega (arith, s.numbers.n_is, long_le s.m s.numbers.width_is)

  -- rooms of three sizes
  pub least_sizes : {n : ℕ} → n ≡ start (slots_of s) 4 → n ≤ 64 → s.size ≤ 16 → Sizes s 64 64
  least_sizes e h l = record { states_in = omega arith; count_in = omega arith; turns = omega arith; few = omega arith }

  pub small_sizes : {n : ℕ} → n ≡ start (slots_of s) 4 → n ≤ 336 → Sizes s 256 336
  small_sizes e h =
      record { states_in = omega (arith, size_is, H.small_in s.m s.r s.numbers.accepted_is (omega arith)); count_in = omega arith; turns = omega arith; few = omega arith }

  pub large_sizes : Sizes s 4096 4096
  unfolding Walks
  large_sizes =
      record { states_in = omega (arith, size_is, H.states_in s.m s.r s.numbers.accepted_is); count_in = omega (arith, (walks s.m s.r s.numbers.accepted_is).short); turns = omega arith; few = omega arith }

  -- k numbers for a table, and n for places, costs and marginals, which take turns with tables
  pub rooms : {n k : ℕ} → Sizes s k n → (t places f g : List ℕ) → length t ≡ k → length places ≡ n → length f ≡ n → length g ≡ n → Roomy s t places f g
  rooms z t places f g a b c d = record {
    states_t = omega (arith, z.states_in);
    count_places = omega (arith, z.count_in);
    states_f = omega (arith, z.states_in, z.turns);
    count_f = omega (arith, z.count_in);
    states_g = omega (arith, z.states_in, z.turns);
    count_g = omega (arith, z.count_in);
  }

  -- the columns of the code in a longer list
  pub headed : (x : List ℕ) → take (long s.m) x ≡ columns s.m s.r → take s.n x ≡ columns s.m s.r
  headed x e = ap (λ (k : ℕ). take k x) s.numbers.n_is ∙ e

  pub headed_long : (x : List ℕ) → take (long s.m) x ≡ columns s.m s.r → s.n ≡ length (take s.n x)
  headed_long x e = sym (ap length (headed x e) ∙ columns_long s.m s.r s.numbers.accepted_is ∙ sym s.numbers.n_is)
