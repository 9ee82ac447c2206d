-- The turns of the walk: which bit changes, where the rows lie, and that the total and the count are kept from turn to turn.
-- Assumes nothing.
use Rattle.basics.proofs.Kit.{◌≡◌, refl, sym, ap, ◌∙◌, Bool, true, false, cond, List, [], ◌∷◌, ℕ, zero, suc, ◌+◌, ◌-◌, ◌*◌, ◌/◌, ◌%◌, ◌^◌, ◌≤◌, ◌<◌, arith, length, get_or, eqb}
use native.Mathlib.Nat.{pow-suc, mul_assoc}
use native.Mathlib.Decide.{dec_le, ℕ_discrete}
use lib.Bits.{bit_xor}
use lib.Count.{count_trailing_zeros, under}
use Rattle.lanes.specs.Lanes.{lane}
use Rattle.walk.specs.declared.At.{At}
use Rattle.walk.specs.Walk.{sum4, start, step, changed_bit, place, spot, total, change, changes, movers, Slots, Rounds}
use Rattle.walk.specs.Turns.{Each, Row, to, Standing, Movable, Moved, Together, Begins}
use Rattle.walk.proofs.Shifts.{at_most_one, each4}

-- the bit that changes is one of the first d
tz_below : (k d n : ℕ) → 0 < n → n < 2 ^ d → d ≤ k → count_trailing_zeros k n < d
unfolding count_trailing_zeros
tz_below k zero n a b l = absurd (omega arith)
tz_below zero (suc d) n a b l = absurd (omega arith)
tz_below (suc k) (suc d) n a b l = go (n % 2) refl (λ h i. tz_below k d (n / 2) h i (omega arith))
  where
    go : (r : ℕ) → n % 2 ≡ r → (0 < n / 2 → n / 2 < 2 ^ d → count_trailing_zeros k (n / 2) < d) → under r (count_trailing_zeros k (n / 2)) < suc d
    go zero e h =
        let s : n / 2 < 2 ^ d = omega (arith, pow-suc 2 d) in
        omega (arith, h (omega arith) s)
    go (suc r) e h = omega arith

-- and where the turn does not begin a round of 2^d turns
tz_within : (k d c z : ℕ) → 0 < z → z < 2 ^ d → d ≤ k → count_trailing_zeros k (c * 2 ^ d + z) < d
unfolding count_trailing_zeros
tz_within k zero c z a b l = absurd (omega arith)
tz_within zero (suc d) c z a b l = absurd (omega arith)
tz_within (suc k) (suc d) c z a b l = go (n % 2) refl (λ h i. tz_within k d c (z / 2) h i (omega arith))
  where
    n : ℕ
    n = c * 2 ^ suc d + z

    twice : c * 2 ^ suc d ≡ c * 2 ^ d * 2
    twice = ap (λ (x : ℕ). c * x) (pow-suc 2 d) ∙ sym (mul_assoc c (2 ^ d) 2)

    go : (r : ℕ) → n % 2 ≡ r → (0 < z / 2 → z / 2 < 2 ^ d → count_trailing_zeros k (c * 2 ^ d + z / 2) < d) → under r (count_trailing_zeros k (n / 2)) < suc d
    go zero e h =
        let half : n / 2 ≡ c * 2 ^ d + z / 2 = omega (arith, twice) in
        rw half (omega (arith, h (omega (arith, twice)) (omega (arith, pow-suc 2 d))))
    go (suc r) e h = omega arith

-- tuple x of turn k: its places, and what it costs
module _ (sl st : List ℕ) (k x : ℕ) (lx : x < 16) where
  turn_of : (k * 16 + x) / 16 ≡ k
  turn_of = omega arith

  lane_of : (k * 16 + x) % 16 ≡ x
  lane_of = omega arith

  pub spot_at : (j : ℕ) → spot sl st (k * 16 + x) j ≡ place sl st k j + x
  spot_at j = rw (turn_of, lane_of) refl

  pub total_at : (f : List ℕ) → sum4 (λ j. get_or f (place sl st k j + x) 0) ≡ total f sl st (k * 16 + x)
  unfolding total
  total_at f = rw (turn_of, lane_of) refl

-- a slot's place at a turn, from that at the turn before
place_to : (sl st : List ℕ) (k j p : ℕ) → 0 < k → p ≡ place sl st (k - 1) j → to st k j p ≡ place sl st k j
unfolding place
place_to sl st zero j p l e = absurd (omega arith)
place_to sl st (suc k) j p l e = let z : suc k - 1 ≡ k = omega arith in ap (λ (q : ℕ). bit_xor q (step st (changed_bit (suc k)) j)) (e ∙ ap (λ (i : ℕ). place sl st i j) z)

-- turn 0, of any steps
pub begun : (f sl r0 r1 r2 r3 t : List ℕ) → Row f (start sl 0) r0 → Row f (start sl 1) r1 → Row f (start sl 2) r2 → Row f (start sl 3) r3 →
    Each 16 (λ x. lane t x ≡ lane r0 x + lane r1 x + lane r2 x + lane r3 x) → (st : List ℕ) →
    Standing f sl st 0 (record { places = start sl 0 ∷ start sl 1 ∷ start sl 2 ∷ start sl 3 ∷ []; rows = r0 ∷ r1 ∷ r2 ∷ r3 ∷ []; total = t; adjusted = 0 })
unfolding place changes
begun f sl r0 r1 r2 r3 t h0 h1 h2 h3 h st =
    let places : List ℕ = start sl 0 ∷ start sl 1 ∷ start sl 2 ∷ start sl 3 ∷ [] in
    let sums : Each 16 (λ x. lane t x ≡ get_or f (start sl 0 + x) 0 + get_or f (start sl 1 + x) 0 + get_or f (start sl 2 + x) 0 + get_or f (start sl 3 + x) 0) = λ x lx. omega (arith, h x lx, h0 x lx, h1 x lx, h2 x lx, h3 x lx) in
    record {
      at = each4 (λ j. lane places j ≡ place sl st 0 j) refl refl refl refl;
      summed = record { rows = each4 (λ j. Row f (lane places j) (get_or (r0 ∷ r1 ∷ r2 ∷ r3 ∷ []) j [])) h0 h1 h2 h3; lanes = sums };
      lanes = λ x lx. sums x lx ∙ total_at sl st 0 x lx f;
      count = refl;
    }

-- THE RUNNING TOTAL: turn k from the turn before it
pub stands : {f sl st : List ℕ} (k : ℕ) {a b : At} → 0 < k → Standing f sl st (k - 1) a → Moved f st k a b → Standing f sl st k b
unfolding changes
stands zero l s m = absurd (omega arith)
stands {f} {sl} {st} (suc k) {a} {b} l s m = record {
  at = at;
  summed = m.summed;
  lanes = λ x lx. m.summed.lanes x lx ∙ rw (at 0 (omega arith), at 1 (omega arith), at 2 (omega arith), at 3 (omega arith)) (total_at sl st (suc k) x lx f);
  count = m.count ∙ rw (at 0 (omega arith), at 1 (omega arith), at 2 (omega arith), at 3 (omega arith), was 0 (omega arith), was 1 (omega arith), was 2 (omega arith), was 3 (omega arith), s.count, z) refl;
}
  where
    z : suc k - 1 ≡ k
    z = omega arith

    at : (j : ℕ) → j < 4 → lane b.places j ≡ place sl st (suc k) j
    at j lj = m.at j lj ∙ place_to sl st (suc k) j (lane a.places j) l (s.at j lj)

    was : (j : ℕ) → j < 4 → lane a.places j ≡ place sl st (suc k - 1) j
    was j lj = s.at j lj

-- a walk makes few changes
changes_few : (sl st : List ℕ) (k : ℕ) → changes sl st k ≤ k * 4
unfolding changes
changes_few sl st zero = omega arith
changes_few sl st (suc k) = omega (arith, changes_few sl st k, one 0, one 1, one 2, one 3)
  where
    one : (j : ℕ) → change sl st k j ≤ 1
    one j = at_most_one (eqb (place sl st (suc k) j) (place sl st k j))

pub movers_few : (st : List ℕ) → (2 ≤ movers st) × (movers st ≤ 3)
movers_few st = go (eqb (step st 0 2) 0)
  where
    go : (b : Bool) → (2 ≤ cond b 2 3) × (cond b 2 3 ≤ 3)
    go true = (omega arith, omega arith)
    go false = (omega arith, omega arith)

-- a turn within a round
pub together : {n round : ℕ} {st : List ℕ} → Rounds n round st → (c z : ℕ) → 0 < z → z < round → Together st (c * round + z) (movers st)
together {n} {round} {st} r c z a b =
    let l : changed_bit (c * round + z) < r.bits = rw r.power (tz_within 64 r.bits c z a (rw r.power at b) (omega (arith, r.few))) in
    record { changed = r.changed _ l; same = λ j lj. r.same _ j l lj; still = λ j lj h. r.still _ j l lj h }

module _ {n : ℕ} {f sl st : List ℕ} (w : Slots n f sl st) where
  bit_below : (k : ℕ) → k < n → 0 < k → changed_bit k < 12
  bit_below k l h = tz_below 64 12 k h (omega (arith, w.few)) (omega arith)

  -- the slots follow each other, none of them empty
  edge : (j : ℕ) → j < 4 → start sl j + 16 ≤ start sl (suc j)
  edge j l = omega (arith, w.above 0 j w.some l, w.below 0 j w.some l)

  pub later : (i j : ℕ) → i < j → j ≤ 4 → start sl (suc i) ≤ start sl j
  later i zero l lj = absurd (omega arith)
  later i (suc j) l lj = go (ℕ_discrete i j) (λ b. later i j b (omega arith))
    where
      go : Dec (i ≡ j) → (i < j → start sl (suc i) ≤ start sl j) → start sl (suc i) ≤ start sl (suc j)
      go (yes e) h = omega (arith, ap (λ (i : ℕ). start sl (suc i)) e)
      go (no b) h = omega (arith, h (omega arith), edge j (omega arith))

  pub within : (j p : ℕ) → j < 4 → p < start sl (suc j) → p < length f
  within j p lj l = omega (arith, later j 4 lj (omega arith), w.ends)

  pub row_in : (k j : ℕ) → k < n → j < 4 → place sl st k j + 16 ≤ length f
  row_in k j l lj = omega (arith, w.below k j l lj, later j 4 lj (omega arith), w.ends)

  pub begins : Begins f sl
  unfolding place
  begins = record {
    slots = w.slots;
    inside = λ j lj. row_in 0 j w.some lj;
    room = λ x lx. omega (arith, total_at sl st 0 x lx f, w.room (0 * 16 + x) (omega (arith, w.some)));
  }

  pub movable : {k : ℕ} {a : At} → 0 < k → k < n → Standing f sl st (k - 1) a → Movable f st k a
  movable {k} {a} l h s = record {
    steps = w.steps;
    bit = bit_below k h l;
    summed = s.summed;
    inside = λ j lj. rw (at j lj) (row_in k j h lj);
    old = λ x lx. omega (arith, s.summed.lanes x lx, s.lanes x lx, w.room ((k - 1) * 16 + x) (omega arith));
    new = λ x lx. rw (at 0 (omega arith), at 1 (omega arith), at 2 (omega arith), at 3 (omega arith)) (omega (arith, total_at sl st k x lx f, w.room (k * 16 + x) (omega arith)));
    few = omega (arith, s.count, changes_few sl st (k - 1), w.few);
  }
    where
      at : (j : ℕ) → j < 4 → to st k j (lane a.places j) ≡ place sl st k j
      at j lj = place_to sl st k j (lane a.places j) l (s.at j lj)

  -- any turn
  pub arrives : {k : ℕ} {a b : At} → Standing f sl st (k - 1) a → (k ≡ 0 → b ≡ a) → (0 < k → Moved f st k a b) → Standing f sl st k b
  arrives {k} {a} {b} s h m = go (dec_le k 0)
    where
      go : Dec (k ≤ 0) → Standing f sl st k b
      go (yes l) =
          let e : k ≡ k - 1 = omega arith in
          rw (h (omega arith), e) s
      go (no l) = stands k (omega arith) s (m (omega arith))
