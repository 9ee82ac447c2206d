-- What the tuples so far leave: the words of one that costs r, of which none comes before.
-- Assumes nothing.
use Rattle.basics.proofs.Kit.{◌≡◌, refl, ap, Bool, true, false, List, ℕ, zero, suc, ◌+◌, ◌*◌, ◌≤◌, ◌<◌, arith, eqb}
use native.Mathlib.Decide.{dec_le}
use borrow.Author.Tests.{eqb-true, eqb-false}
use Rattle.walk.specs.Walk.{total}
use Rattle.walk.specs.declared.At.{At}
use Rattle.walk.specs.Turns.{Standing}
use Rattle.ties.specs.Ties.{number_of, words, Costs, FirstTied}
use Rattle.ties.specs.Turn.{earlier, meet}
use Rattle.ties.proofs.Symbols.{last, last_greatest}
use Rattle.ties.proofs.Turns.{keep, take_this, lane_words}

-- no tuple so far costs r, or b is the words of one that does
pub data Met (n : ℕ) (f sl st w : List ℕ) (r i : ℕ) (b : List ℕ) : Type 0 where
  none : ((y : ℕ) → y < i → total f sl st y ≡ r → ⊥) → b ≡ last → Met n f sl st w r i b
  some : (y : ℕ) → Costs n f sl st r y → b ≡ words w sl st y → Met n f sl st w r i b

pub record Tied (n : ℕ) (f sl st w : List ℕ) (r i : ℕ) (b : List ℕ) : Type 0 where
  pub met : Met n f sl st w r i b
  pub first : (y : ℕ) → y < i → total f sl st y ≡ r → number_of b ≤ number_of (words w sl st y)

module _ {n : ℕ} {f sl st w : List ℕ} {r : ℕ} where
  pub tied_start : (b : List ℕ) → b ≡ last → Tied n f sl st w r 0 b
  tied_start b e = record { met = none (λ y l. absurd (omega arith)) e; first = λ y l. absurd (omega arith) }

  module _ (i : ℕ) (b : List ℕ) (t : Tied n f sl st w r i b) (l : i < n * 16) where
    -- what holds of the tuples so far, and of this one
    upto : (P : ℕ → Type 0) → ((y : ℕ) → y < i → P y) → P i → (y : ℕ) → y < i + 1 → P y
    upto P h p y u = go (dec_le i y)
      where
        go : Dec (i ≤ y) → P y
        go (yes a) =
            let e : y ≡ i = omega arith in
            rw e p
        go (no a) = h y (omega arith)

    other : (total f sl st i ≡ r → ⊥) → Tied n f sl st w r (i + 1) b
    other h = record { met = go t.met; first = upto (λ y. total f sl st y ≡ r → number_of b ≤ number_of (words w sl st y)) t.first (λ e. absurd (h e)) }
      where
        go : Met n f sl st w r i b → Met n f sl st w r (i + 1) b
        go (none a e) = none (upto (λ y. total f sl st y ≡ r → ⊥) a h) e
        go (some y c e) = some y c e

    behind : number_of b < number_of (words w sl st i) → Tied n f sl st w r (i + 1) b
    behind h = record { met = go t.met; first = upto (λ y. total f sl st y ≡ r → number_of b ≤ number_of (words w sl st y)) t.first (λ e. omega arith) }
      where
        go : Met n f sl st w r i b → Met n f sl st w r (i + 1) b
        go (none a e) = absurd (omega (arith, last_greatest (words w sl st i), ap number_of e))
        go (some y c e) = some y c e

    this : total f sl st i ≡ r → number_of (words w sl st i) ≤ number_of b → Tied n f sl st w r (i + 1) (words w sl st i)
    this e h = record { met = some i (l, e) refl; first = upto (λ y. total f sl st y ≡ r → number_of (words w sl st i) ≤ number_of (words w sl st y)) (λ y u q. omega (arith, t.first y u q)) (λ q. omega arith) }

    pub tied_more : Tied n f sl st w r (i + 1) (earlier r (total f sl st i) (words w sl st i) b)
    tied_more = go (eqb (total f sl st i) r) refl (dec_le (number_of (words w sl st i)) (number_of b))
      where
        go : (q : Bool) → eqb (total f sl st i) r ≡ q → Dec (number_of (words w sl st i) ≤ number_of b) → Tied n f sl st w r (i + 1) (earlier r (total f sl st i) (words w sl st i) b)
        go false e d = rw (keep r (total f sl st i) (words w sl st i) b (λ h. absurd (eqb-false _ _ e h))) (other (eqb-false _ _ e))
        go true e (yes h) = rw (take_this r (total f sl st i) (words w sl st i) b (eqb-true _ _ e) h) (this (eqb-true _ _ e) h)
        go true e (no h) =
            let g : number_of b < number_of (words w sl st i) = omega arith in
            rw (keep r (total f sl st i) (words w sl st i) b (λ _. g)) (behind g)

  -- a turn
  module _ {k : ℕ} {a : At} {b : List ℕ} (s : Standing f sl st k a) (l : k < n) (t : Tied n f sl st w r (k * 16) b) where
    lanes_met : (x : ℕ) → x ≤ 16 → Tied n f sl st w r (k * 16 + x) (meet a.total w a.places r b x)
    unfolding meet
    lanes_met zero u =
        let e : k * 16 + 0 ≡ k * 16 = omega arith in
        rw e t
    lanes_met (suc x) u =
        let h = tied_more (k * 16 + x) (meet a.total w a.places r b x) (lanes_met x (omega arith)) (omega arith) in
        let e : k * 16 + suc x ≡ k * 16 + x + 1 = omega arith in
        rw e (rw (← s.lanes x (omega arith), lane_words s w x (omega arith)) at h)

    pub tied_turn : (m : List ℕ) → m ≡ meet a.total w a.places r b 16 → Tied n f sl st w r ((k + 1) * 16) m
    tied_turn m e =
        let q : (k + 1) * 16 ≡ k * 16 + 16 = omega arith in
        rw (q, e) (lanes_met 16 (omega arith))

  pub tied_end : {b : List ℕ} → Tied n f sl st w r (n * 16) b → (i : ℕ) × Costs n f sl st r i → FirstTied n f sl st w r b
  tied_end {b} t c = record { found = go t.met; first = λ i h. t.first i h.0 h.1 }
    where
      go : Met n f sl st w r (n * 16) b → (i : ℕ) × Costs n f sl st r i × (b ≡ words w sl st i)
      go (none a e) = absurd (a c.0 c.1.0 c.1.1)
      go (some y h e) = (y, h, e)
