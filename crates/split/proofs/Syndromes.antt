-- The syndromes of a word as the program computes them.
-- Assumes nothing.
use Rattle.basics.proofs.Kit.{◌≡◌, refl, sym, ap, ◌∙◌, true, List, ◌++◌, ℕ, zero, suc, ◌+◌, ◌-◌, ◌^◌, ◌≤◌, ◌<◌, arith, length, get_or, take, drop}
use native.Mathlib.Nat.{add-zero, zero-add, add-suc, suc-add, not-suc-le-zero, le_of_suc-le-suc}
use lib.Dec.{lit≤}
use lib.ListN.{replicate}
use lib.Seq.{take_all}
use Rattle.field.specs.Field.{width_good}
use Rattle.split.specs.Split.{layer, syndrome, syndromes, syndromes_from, padded}
use Rattle.field.proofs.Tests.{widths}

-- a syndrome fits sixteen bits
pub size_small : (m : ℕ) → width_good m ≡ true → 2 ^ m ≤ 16
size_small = widths (λ (m : ℕ). 2 ^ m ≤ 16) (lit≤ tt) (lit≤ tt)

-- THE PLACES of the tuple
from_at : (k i m r j : ℕ) (ws : List ℕ) → j < k → get_or (syndromes_from k i m r ws) j 0 ≡ syndrome m r (layer (i + j) ws)
unfolding syndromes_from
from_at zero i m r j ws h = absurd (not-suc-le-zero h)
from_at (suc k) i m r zero ws h = ap (λ (x : ℕ). syndrome m r (layer x ws)) (sym (add-zero i))
from_at (suc k) i m r (suc j) ws h = from_at k (suc i) m r j ws (le_of_suc-le-suc h) ∙ ap (λ (x : ℕ). syndrome m r (layer x ws)) (suc-add i j ∙ sym (add-suc i j))

pub place_at : (m r j : ℕ) (ws : List ℕ) → j < m → get_or (syndromes m r ws) j 0 ≡ syndrome m r (layer j ws)
unfolding syndromes
place_at m r j ws h = from_at m 0 m r j ws h ∙ ap (λ (x : ℕ). syndrome m r (layer x ws)) (zero-add j)

from_length : (k j m r : ℕ) (ws : List ℕ) → length (syndromes_from k j m r ws) ≡ k
unfolding syndromes_from
from_length zero j m r ws = refl
from_length (suc k) j m r ws = ap suc (from_length k (suc j) m r ws)

pub places : (m r : ℕ) (ws : List ℕ) → length (syndromes m r ws) ≡ m
unfolding syndromes
places m r ws = from_length m 0 m r ws

-- four places, of which those after the last layer are 0
four_zeros : (m : ℕ) → width_good m ≡ true → drop {A = ℕ} m (replicate 4 0) ≡ replicate (4 - m) 0
four_zeros = widths (λ (m : ℕ). drop {A = ℕ} m (replicate 4 0) ≡ replicate (4 - m) 0) refl refl

pub all_places : (m r : ℕ) (ws : List ℕ) → width_good m ≡ true → (j : ℕ) → j ≡ m → take j (syndromes m r ws) ++ drop {A = ℕ} j (replicate 4 0) ≡ padded (syndromes m r ws)
unfolding padded
all_places m r ws w j e =
    rw (e, four_zeros m w, places m r ws, take_all m (syndromes m r ws) (omega (arith, places m r ws))) refl
