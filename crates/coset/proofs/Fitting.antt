-- Layers fit when they have a greatest cost, and have one when they fit.
-- Assumes nothing.
use Rattle.basics.proofs.Kit.{List, ℕ, ◌*◌, ◌/◌, ◌^◌, ◌<◌, ◌≤◌, arith, length}
use native.Mathlib.Nat.{mul-le-mul_right, mul_comm}
use Rattle.std.proofs.Math.Nat.{mul-div-le}
use Rattle.std.proofs.lemmas.Nat.{le-div}
use Rattle.lanes.specs.Lanes.{entry}
use Rattle.coset.specs.Coset.{Fit, Layers}

module _ {q size : ℕ} {hs zs os : List ℕ} where
  -- with a number that no cost is above
  abbrev pub topped : Fit q size hs zs os → (top : ℕ) → ((i j : ℕ) → i < length hs → j < 4 → entry zs i j ≤ top) → ((i j : ℕ) → i < length hs → j < 4 → entry os i j ≤ top) →
      length hs * top < 2 ^ 15 → Layers q size hs zs os
  topped a t z o r = record {
    top = t;
    some = a.some;
    fits = a.fits;
    few = a.few;
    size_is = a.size_is;
    length_zs = a.length_zs;
    length_os = a.length_os;
    inside = a.inside;
    heads = a.heads;
    tails = a.tails;
    cost_zs = z;
    cost_os = o;
    room = r;
  }

  pub layers_of : Fit q size hs zs os → Layers q size hs zs os
  layers_of a =
      topped a (32767 / length hs) (λ i j l lj. le-div _ 32767 (length hs) (omega arith) (omega (arith, a.room_zs i j l lj)))
      (λ i j l lj. le-div _ 32767 (length hs) (omega arith) (omega (arith, a.room_os i j l lj))) (omega (arith, mul-div-le 32767 (length hs)))

  pub fit_of : Layers q size hs zs os → Fit q size hs zs os
  fit_of a = record {
    some = a.some;
    fits = a.fits;
    few = a.few;
    size_is = a.size_is;
    length_zs = a.length_zs;
    length_os = a.length_os;
    inside = a.inside;
    heads = a.heads;
    tails = a.tails;
    room_zs = λ i j l lj. omega (arith, mul-le-mul_right (length hs) (a.cost_zs i j l lj), mul_comm a.top (length hs), a.room);
    room_os = λ i j l lj. omega (arith, mul-le-mul_right (length hs) (a.cost_os i j l lj), mul_comm a.top (length hs), a.room);
  }
