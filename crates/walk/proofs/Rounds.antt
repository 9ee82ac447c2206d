-- The rounds of the walk: what the turns of a round leave, one by one, and what a round leaves.
-- Assumes nothing.
use Rattle.basics.proofs.Kit.{◌≡◌, sym, ap, ◌∙◌, Bool, true, false, cond, List, ℕ, zero, suc, ◌+◌, ◌-◌, ◌*◌, ◌/◌, ◌≤◌, ◌<◌, min, arith, length, get_or}
use mathlib.Core.Bool.{false≢true}
use native.Mathlib.Nat.{suc-mul, mul-le-mul_right, div-add-mod'}
use native.Mathlib.Decide.{dec_le}
use lib.Bits.{bit_xor, xor_zero_r}
use lib.Pow.{pow_pos}
use lib.ListN.{replicate}
use Rattle.lanes.specs.Lanes.{lane, limit}
use Rattle.trellis.specs.Trellis.{least_of}
use Rattle.walk.specs.declared.At.{At}
use Rattle.walk.specs.Walk.{step, changed_bit, place, movers, least_at, Slots, Rounds, Marginals}
use Rattle.walk.specs.Turns.{Each, lows, Blank, Standing, Together}
use Rattle.walk.proofs.Rows.{lows_length, lows_small}
use Rattle.walk.proofs.Turns.{movers_few, together, within}
use Rattle.walk.proofs.Blocks.{Block, block_none, block_turn, block_join, Marked, rows_in, not_lowered, lowered}

-- what the first k turns leave, which are whole rounds
pub record Walking (soft : Bool) (cap : ℕ) (f sl st : List ℕ) (k : ℕ) (g : List ℕ) (a : At) (m : List ℕ) : Type 0 where
  pub standing : Standing f sl st (k - 1) a
  pub least : Block cap f sl st 0 k m
  pub marks : soft ≡ true → Marked cap f sl st (movers st) k k g

-- turn i of the round that begins with turn k, before the rows that move are lowered
pub record Turning (soft : Bool) (cap : ℕ) (f sl st : List ℕ) (k round i : ℕ) (g : List ℕ) (a : At) : Type 0 where
  pub from : k ≤ i
  pub till : i < k + round
  pub standing : Standing f sl st i a
  pub marks : soft ≡ true → Marked cap f sl st (movers st) i k g

-- what the turns of a round leave, from turn k to the one before turn i: l is the least of them
pub record Rounding (soft : Bool) (cap : ℕ) (f sl st : List ℕ) (k round i : ℕ) (g : List ℕ) (a : At) (l : List ℕ) : Type 0 where
  pub from : k < i
  pub till : i ≤ k + round
  pub standing : Standing f sl st (i - 1) a
  pub least : Block cap f sl st k (i - k) l
  pub marks : soft ≡ true → Marked cap f sl st (movers st) i k g

-- without marginals nothing is asked of g
pub not_asked : {cap : ℕ} {f g : List ℕ} → Blank false cap f g
not_asked = record { long = λ z. absurd (false≢true z); all = λ z. absurd (false≢true z) }

module _ {n round : ℕ} {f sl st : List ℕ} (w : Slots n f sl st) (r : Rounds n round st) where
  pub some_turns : 0 < round
  some_turns = rw r.power (pow_pos r.bits)

  pub starts : {soft : Bool} {cap k : ℕ} {g : List ℕ} {a : At} → k ≡ 0 → cap < limit → Blank soft cap f g → Standing f sl st 0 a → Walking soft cap f sl st k g a (replicate 16 cap)
  unfolding least_of
  starts {soft} {cap} {k} {g} e l b s = rw e (record {
    standing = s;
    least = block_none 0 l;
    marks = λ z. record {
      long = b.long z;
      small = λ i li. rw (b.all z i li) l;
      moving = λ j p lw lj c d. b.all z p (omega (arith, b.long z, within w j p lj d));
      still = λ j p lw lj c d. b.all z p (omega (arith, b.long z, within w j p lj d));
    };
  })

  -- the rounds are all turns
  pub all_turns : n / round * round ≡ n
  all_turns = omega (arith, div-add-mod' n round, r.whole)

  module _ {k : ℕ} (c : ℕ) (whole : k ≡ c * round) (lc : c < n / round) where
    -- the round ends where the walk does, or before
    pub fits : k + round ≤ n
    fits = omega (arith, whole, suc-mul c round, mul-le-mul_right round lc, all_turns)

    -- turn k is one of them
    pub turn_below : k < n
    turn_below = omega (arith, fits, some_turns)

    pub as_one : (i : ℕ) → k < i → i < k + round → Together st i (movers st)
    as_one i a b =
        let e : c * round + (i - k) ≡ i = omega (arith, whole) in
        rw e at (together r c (i - k) (omega arith) (omega arith))

    -- a slot that stands still
    keeps : (j : ℕ) → movers st ≤ j → j < 4 → (z : ℕ) → z < round → place sl st (k + z) j ≡ place sl st k j
    unfolding place
    keeps j lj l4 zero lz = let e : k + 0 ≡ k = omega arith in ap (λ (i : ℕ). place sl st i j) e
    keeps j lj l4 (suc z) lz =
        let e : k + suc z ≡ suc (k + z) = omega arith in
        let s : step st (changed_bit (suc (k + z))) j ≡ 0 = rw e at ((as_one (k + suc z) (omega arith) (omega arith)).still j lj l4) in
        ap (λ (i : ℕ). place sl st i j) e ∙ ap (bit_xor (place sl st (k + z) j)) s ∙ xor_zero_r (place sl st (k + z) j) ∙ keeps j lj l4 z (omega arith)

    pub round_start : {soft : Bool} {cap : ℕ} {g m : List ℕ} {a b : At} → Walking soft cap f sl st k g a m → Standing f sl st k b → Turning soft cap f sl st k round k g b
    round_start v s = record { from = omega arith; till = omega (arith, some_turns); standing = s; marks = v.marks }

    module _ {soft : Bool} {cap i : ℕ} {g : List ℕ} {a : At} (v : Turning soft cap f sl st k round i g a) where
      turn_in : i < n
      turn_in = omega (arith, v.till, fits)

      pub places_in : soft ≡ true → Each 4 (λ j. lane a.places j + 16 ≤ length g)
      places_in z = rows_in w turn_in a.places v.standing.at cap g a.total 0 4 (omega arith) (v.marks z).long

      pub turn_block : Block cap f sl st i 1 a.total
      turn_block = block_turn w turn_in v.standing

      -- the rows that move are lowered to the total
      pub lowered_first : {h : List ℕ} → soft ≡ true → h ≡ cond soft (lows g a.places a.total 0 (movers st)) g → Marked cap f sl st (movers st) (i + 1) k h
      lowered_first {h} z e =
          let m = v.marks z in
          let same : h ≡ lows g a.places a.total 0 (movers st) = e ∙ ap (λ (b : Bool). cond b (lows g a.places a.total 0 (movers st)) g) z in
          rw same (record {
            long = lows_length g a.places a.total 0 (movers st) ∙ m.long;
            small = lows_small g a.places a.total 0 (places_in z) m.small turn_block.small (movers st) (omega (arith, (movers_few st).1));
            moving = λ j p lw lj b d. lowered w turn_in a.places v.standing.at cap g a.total 0 (movers st) (omega (arith, (movers_few st).1)) m.long j p lj b d i 1 turn_block (omega arith) (omega arith) (λ y ly. ap (λ (x : ℕ). place sl st x j) (omega arith)) (m.moving j p lw lj b d);
            still = λ j p lw lj b d. not_lowered w turn_in a.places v.standing.at cap g a.total 0 (movers st) (omega (arith, (movers_few st).1)) m.long j p lj b d (λ y ly q. omega arith) ∙ m.still j p lw lj b d;
          })

      pub first_least : i ≡ k → Block cap f sl st k (i + 1 - k) a.total
      first_least e = let d : i + 1 - k ≡ 1 = omega arith in rw (d, ← e) turn_block

      pub least_more : {l l' : List ℕ} → Block cap f sl st k (i - k) l → Each 16 (λ x. lane l' x ≡ min (lane l x) (lane a.total x)) → Block cap f sl st k (i + 1 - k) l'
      least_more {l} {l'} p h =
          let e : k + (i - k) ≡ i = omega (arith, v.from) in
          let d : i - k + 1 ≡ i + 1 - k = omega (arith, v.from) in
          let b : Block cap f sl st (k + (i - k)) 1 a.total = rw e turn_block in
          rw d at (block_join p b l' h)

      -- the turn is over
      pub turn_over : {h l : List ℕ} → (soft ≡ true → Marked cap f sl st (movers st) (i + 1) k h) → Block cap f sl st k (i + 1 - k) l → Rounding soft cap f sl st k round (i + 1) h a l
      turn_over m p =
          let e : i + 1 - 1 ≡ i = omega arith in
          record { from = omega (arith, v.from); till = omega (arith, v.till); standing = rw e v.standing; least = p; marks = m }

    -- the round goes on
    pub round_more : {soft : Bool} {cap i : ℕ} {g : List ℕ} {a b : At} {l : List ℕ} → Rounding soft cap f sl st k round i g a l → i < k + round → Standing f sl st i b → Turning soft cap f sl st k round i g b
    round_more v lt s = record { from = omega (arith, v.from); till = lt; standing = s; marks = v.marks }

    -- the round ends: the rows that stood still are lowered to its least total
    module _ {soft : Bool} {cap i : ℕ} {g : List ℕ} {a : At} {l : List ℕ} (v : Rounding soft cap f sl st k round i g a l) (end : i ≡ k + round) where
      last_in : i - 1 < n
      last_in = omega (arith, v.from, fits)

      pub last_places : soft ≡ true → Each 4 (λ j. lane a.places j + 16 ≤ length g)
      last_places z = rows_in w last_in a.places v.standing.at cap g l 0 4 (omega arith) (v.marks z).long

      whole_block : Block cap f sl st k round l
      whole_block = let e : i - k ≡ round = omega arith in rw e at v.least

      pub lowered_rest : {h : List ℕ} → soft ≡ true → h ≡ cond soft (lows g a.places l (movers st) (4 - movers st)) g → Marked cap f sl st (movers st) i i h
      lowered_rest {h} z e =
          let same : h ≡ lows g a.places l (movers st) (4 - movers st) = e ∙ ap (λ (b : Bool). cond b (lows g a.places l (movers st) (4 - movers st)) g) z in
          let few : movers st + (4 - movers st) ≤ 4 = omega (arith, (movers_few st).1) in
          rw same (record {
            long = lows_length g a.places l (movers st) (4 - movers st) ∙ (v.marks z).long;
            small = lows_small g a.places l (movers st) (last_places z) (v.marks z).small v.least.small (4 - movers st) few;
            moving = λ j p lw lj c d. not_lowered w last_in a.places v.standing.at cap g l (movers st) (4 - movers st) few (v.marks z).long j p lj c d (λ y ly q. omega arith) ∙ (v.marks z).moving j p lw lj c d;
            still = λ j p lw lj c d. rw end (lowered w last_in a.places v.standing.at cap g l (movers st) (4 - movers st) few (v.marks z).long j p lj c d k round whole_block lw (omega (arith, (movers_few st).1)) (λ y ly. stood j lw lj y ly) ((v.marks z).still j p lw lj c d));
          })
        where
          stood : (j : ℕ) → movers st ≤ j → j < 4 → (y : ℕ) → y < round → place sl st (k + y) j ≡ place sl st (i - 1) j
          stood j lw lj y ly =
              let e : k + (round - 1) ≡ i - 1 = omega (arith, some_turns) in
              keeps j lw lj y ly ∙ sym (keeps j lw lj (round - 1) (omega (arith, some_turns))) ∙ ap (λ (x : ℕ). place sl st x j) e

      pub round_end : {h p m' : List ℕ} → (soft ≡ true → Marked cap f sl st (movers st) i i h) → Block cap f sl st 0 k p → Each 16 (λ x. lane m' x ≡ min (lane p x) (lane l x)) → Walking soft cap f sl st i h a m'
      round_end {h} {p} {m'} q o e = record {
        standing = v.standing;
        least = let z : k + round ≡ i = omega arith in
            let y : 0 + k ≡ k = omega arith in
            let next : Block cap f sl st (0 + k) round l = rw y whole_block in
            rw z at (block_join o next m' e);
        marks = q;
      }

pub all_marginals : {cap : ℕ} {f sl st : List ℕ} {n : ℕ} {g : List ℕ} → Marked cap f sl st (movers st) n n g → Marginals n cap f sl st g
all_marginals {cap} {f} {sl} {st} {n} {g} m j p lj c d = go (dec_le (movers st) j)
  where
    go : Dec (movers st ≤ j) → get_or g p 0 ≡ least_at cap f sl st n j p
    go (yes h) = m.still j p h lj c d
    go (no h) = m.moving j p (omega arith) lj c d
