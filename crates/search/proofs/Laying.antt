-- The places of a code's walk over a table of keys or of costs: what the walk asks, that some tuple costs the least, and that words on which all places
-- that take part agree are those of the first tuple.
-- Assumes nothing.
use Rattle.basics.proofs.Kit.{◌≡◌, refl, sym, ap, ap₂, ◌∙◌, Bool, true, false, cond, List, ℕ, suc, ◌+◌, ◌*◌, ◌/◌, ◌^◌, ◌≤◌, ◌<◌, arith, length, get_or, eqb}
use borrow.Author.Tests.{eq-eqb}
use lib.ListN.{replicate}
use Rattle.code.specs.declared.shape.Shape.{Shape}
use Rattle.spots.specs.Promise.{Walkable, Walks, WalksInRounds}
use Rattle.spots.specs.Spots.{Placed, round}
use Rattle.spots.proofs.Walks.{walks, no_steps}
use Rattle.spots.proofs.Rounds.{walks_in_rounds}
use Rattle.trellis.proofs.Least.{least_le, least_found, least_cap, le_least}
use Rattle.lanes.specs.Lanes.{lane}
use Rattle.lanes.proofs.Rows.{four, lanes_at}
use Rattle.gather.specs.Gather.{key_cost, Sixteens}
use Rattle.walk.specs.Walk.{start, spot, total, least_total, Slots, Rounds, Marginals}
use Rattle.ties.specs.Ties.{spaced, number_of, words, FirstTied, word_at, Agree}
use Rattle.search.specs.Within.{cap, Laid, Ties, FirstWords, Cheap, Walked, slots_of, steps_of, turns_of, words_of}

-- a walk of one turn is one round
pub one_round : (st : List ℕ) → Rounds 1 1 st
one_round st = record { bits = 0; few = omega arith; power = refl; whole = refl; changed = λ b l. absurd (omega arith); same = λ b j l. absurd (omega arith); still = λ b j l. absurd (omega arith) }

-- words that are the same in each layer have one number
pub number_same : (vs ws : List ℕ) → ((j : ℕ) → j < 4 → lane vs j ≡ lane ws j) → number_of vs ≡ number_of ws
unfolding number_of
number_same vs ws h =
    ap₂ (λ (a c : ℕ). a + c) (ap₂ (λ (a c : ℕ). a + c) (ap₂ (λ (a c : ℕ). a + c) (part 0 (omega arith)) (part 1 (omega arith))) (part 2 (omega arith))) (part 3 (omega arith))
  where
    part : (j : ℕ) → j < 4 → 2 ^ j * spaced 16 (lane vs j) ≡ 2 ^ j * spaced 16 (lane ws j)
    part j lj = ap (λ (x : ℕ). 2 ^ j * spaced 16 x) (h j lj)

number_le : (vs ws : List ℕ) → ((j : ℕ) → j < 4 → lane vs j ≡ lane ws j) → number_of vs ≤ number_of ws
number_le vs ws h = let e : number_of vs ≡ number_of ws = number_same vs ws h in omega arith

module _ (s : Shape) where
  pub w : Walkable s.m s.r
  unfolding Walks
  w = walks s.m s.r s.numbers.accepted_is

  -- a walk of one turn has no steps
  pub none_in_one : {n : ℕ} → n ≡ turns_of s → n ≡ 1 → replicate 48 0 ≡ steps_of s
  none_in_one f g = no_steps s.m s.r s.numbers.accepted_is (sym f ∙ g)

  -- its rounds
  pub rounds_ok : Rounds (turns_of s) (round s.m s.r) (steps_of s)
  unfolding WalksInRounds
  rounds_ok = walks_in_rounds s.m s.r s.numbers.accepted_is

  -- its places are taken sixteen at a time
  pub sixteens : {places : List ℕ} {n : ℕ} → Placed s.m s.r s.size places → n ≡ s.size * 4 → Sixteens n places
  sixteens p e = record { sixteens = rw p.long w.sixteens; inside = λ i h. omega (arith, p.inside i h) }

  turn : (i : ℕ) → i < turns_of s * 16 → i / 16 < turns_of s
  turn i h = omega arith

  pub spot_in : (i j : ℕ) → i < turns_of s * 16 → j < 4 → (start (slots_of s) j ≤ spot (slots_of s) (steps_of s) i j) × (spot (slots_of s) (steps_of s) i j < start (slots_of s) (suc j))
  spot_in i j li lj = (omega (arith, w.above (i / 16) j (turn i li) lj), omega (arith, w.below (i / 16) j (turn i li) lj))

  pub apart : (j : ℕ) → j < 4 → start (slots_of s) j + 16 ≤ start (slots_of s) (suc j)
  apart j lj = omega (arith, w.above 0 j w.some lj, w.below 0 j w.some lj)

  module _ {cost : ℕ → ℕ} {places f : List ℕ} (l : Laid s cost places f) where
    pub spot_long : (i j : ℕ) → i < turns_of s * 16 → j < 4 → spot (slots_of s) (steps_of s) i j < length places
    spot_long i j li lj =
        four (λ j. spot (slots_of s) (steps_of s) i j < start (slots_of s) (suc j) → spot (slots_of s) (steps_of s) i j < length places)
        (λ h. omega (arith, apart 1 (omega arith), apart 2 (omega arith), apart 3 (omega arith), l.placed.long))
        (λ h. omega (arith, apart 2 (omega arith), apart 3 (omega arith), l.placed.long))
        (λ h. omega (arith, apart 3 (omega arith), l.placed.long))
        (λ h. omega (arith, l.placed.long)) j lj (spot_in i j li lj).1

    module _ {n : ℕ} (k : Cheap cost n) (ln : n ≡ s.size * 4) where
      cost_le : (i j : ℕ) → i < turns_of s * 16 → j < 4 → get_or f (spot (slots_of s) (steps_of s) i j) 0 ≤ 1905
      cost_le i j li lj =
          let h : spot (slots_of s) (steps_of s) i j < length places = spot_long i j li lj in
          omega (arith, l.gathered.costs (spot (slots_of s) (steps_of s) i j) h, k (get_or places (spot (slots_of s) (steps_of s) i j) 0) (omega (arith, l.placed.inside (spot (slots_of s) (steps_of s) i j) h)))

      total_le : (i : ℕ) → i < turns_of s * 16 → total f (slots_of s) (steps_of s) i ≤ 7620
      unfolding total
      total_le i li = omega (arith, cost_le i 0 li (omega arith), cost_le i 1 li (omega arith), cost_le i 2 li (omega arith), cost_le i 3 li (omega arith))

      -- what the walk asks
      pub slots_ok : Slots (turns_of s) f (slots_of s) (steps_of s)
      slots_ok = record {
        some = w.some;
        few = w.few;
        slots = w.slots_long;
        steps = w.steps_long;
        ends = sym (l.gathered.long ∙ l.placed.long);
        above = w.above;
        below = w.below;
        room = λ i li. omega (arith, total_le i li);
      }

      -- a tuple that costs the least
      pub tied : (i : ℕ) × Ties s f (least_total cap f (slots_of s) (steps_of s) (turns_of s)) i
      tied =
          let h : 0 < turns_of s * 16 = omega (arith, w.some) in
          let r = least_found (total f (slots_of s) (steps_of s)) cap (turns_of s * 16) (omega (arith, least_le (total f (slots_of s) (steps_of s)) cap (turns_of s * 16) 0 h, total_le 0 h)) in
          (r.0, (r.1, r.2))

    -- WHERE ALL AGREE, each tuple that costs the least has these words
    module _ (t g best : List ℕ) (x : ℕ) (mg : Marginals (turns_of s) cap f (slots_of s) (steps_of s) g) (e : x ≡ least_total cap f (slots_of s) (steps_of s) (turns_of s))
        (ag : Agree (slots_of s) t places g x best) where
      least_there : (i j : ℕ) → Ties s f x i → j < 4 → get_or g (spot (slots_of s) (steps_of s) i j) 0 ≡ x
      least_there i j c lj =
          let p : ℕ = spot (slots_of s) (steps_of s) i j in
          let o = spot_in i j c.0 lj in
          let h : ℕ → ℕ = λ k. cond (eqb (spot (slots_of s) (steps_of s) k j) p) (total f (slots_of s) (steps_of s) k) cap in
          omega (
            arith,
            mg j p lj o.0 o.1,
            least_le h cap (turns_of s * 16) i c.0,
            ap (λ (y : Bool). cond y (total f (slots_of s) (steps_of s) i) cap) (eq-eqb p p refl),
            c.1,
            le_least h cap (turns_of s * 16) x (omega (arith, least_cap (total f (slots_of s) (steps_of s)) cap (turns_of s * 16))) (λ k lk. held k lk (eqb (spot (slots_of s) (steps_of s) k j) p)),
          )
        where
          held : (k : ℕ) → k < turns_of s * 16 → (y : Bool) → x ≤ cond y (total f (slots_of s) (steps_of s) k) cap
          held k lk true = omega (arith, least_le (total f (slots_of s) (steps_of s)) cap (turns_of s * 16) k lk)
          held k lk false = omega (arith, least_cap (total f (slots_of s) (steps_of s)) cap (turns_of s * 16))

      same : (i j : ℕ) → Ties s f x i → j < 4 → lane best j ≡ word_at t places (spot (slots_of s) (steps_of s) i j)
      same i j c lj = let o = spot_in i j c.0 lj in sym (ag j (spot (slots_of s) (steps_of s) i j) lj o.0 o.1 (least_there i j c lj))

      pub agreed : ((i : ℕ) × Ties s f x i) → FirstWords s t places f x best
      agreed r = record {
        found = (r.0, r.1, λ j lj. same r.0 j r.1 lj);
        first = λ i c. number_le best (words_of s t places i) (λ j lj. same i j c lj ∙ sym (lanes_at (λ j. word_at t places (spot (slots_of s) (steps_of s) i j)) j lj));
      }

    -- where the words of all places stand in a list
    pub from_words : {t ws best : List ℕ} {x : ℕ} → ((p : ℕ) → p < length places → get_or ws p 0 ≡ word_at t places p) →
        FirstTied (turns_of s) f (slots_of s) (steps_of s) ws x best → FirstWords s t places f x best
    from_words {t} {ws} {best} {x} v e = record {
      found = (e.found.0, e.found.1, λ j lj. ap (λ (u : List ℕ). lane u j) e.found.2 ∙ at e.found.0 e.found.1.0 j lj);
      first = λ i c. let h : number_of (words ws (slots_of s) (steps_of s) i) ≡ number_of (words_of s t places i) = number_same _ _ (λ j lj. at i c.0 j lj ∙ sym (lanes_at (λ j. word_at t places (spot (slots_of s) (steps_of s) i j)) j lj)) in omega (arith, e.first i c);
    }
      where
        at : (i : ℕ) → i < turns_of s * 16 → (j : ℕ) → j < 4 → lane (words ws (slots_of s) (steps_of s) i) j ≡ word_at t places (spot (slots_of s) (steps_of s) i j)
        at i li j lj = lanes_at (λ j. get_or ws (spot (slots_of s) (steps_of s) i j) 0) j lj ∙ v (spot (slots_of s) (steps_of s) i j) (spot_long i j li lj)

-- what the walk leaves, over the places as they are after it
pub walked : {s : Shape} {t places places' f g best : List ℕ} {x : ℕ} → Laid s (key_cost t) places f → places' ≡ places → x ≡ least_total cap f (slots_of s) (steps_of s) (turns_of s) →
    FirstWords s t places f x best → Marginals (turns_of s) cap f (slots_of s) (steps_of s) g → length g ≡ start (slots_of s) 4 → Walked s t places' f g x best
walked l e u v m n = rw e record { laid = l; least = u; words = v; marginals = m; long_g = n ∙ sym l.placed.long }
