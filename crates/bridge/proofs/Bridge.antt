-- From tables to codewords: over the tuples of a code, the least sum of the layers' tables is the least cost of a codeword, with bits held or not.
-- Assumes nothing.
use Rattle.basics.proofs.Kit.{◌≡◌, refl, sym, ap, ap₂, ◌∙◌, Bool, true, cond, List, [], ◌∷◌, ℕ, zero, suc, ◌+◌, ◌*◌, ◌^◌, ◌≤◌, ◌<◌, arith, length, get_or, ℤ, pos}
use native.Mathlib.Decide.{dec_le}
use lib.ListN.{replicate, length-replicate}
use borrow.Author.Tests.{le-ltb}
use Rattle.field.specs.Field.{width_good, xor}
use Rattle.field.proofs.Tests.{widths}
use Rattle.field.proofs.Xor as X
use Rattle.code.specs.Code.{long, is_codeword}
use Rattle.code.proofs.Words.{Below, widen, good, CodewordParts, codeword_parts}
use Rattle.split.specs.Split.{layer}
use Rattle.split.proofs.Layers.{layer_length}
use Rattle.tails.specs.Tails.{added}
use Rattle.tails.specs.Tails as Tails
use Rattle.metric.specs.Cost.{cost_zero, cost}
use Rattle.trellis.specs.Trellis.{Columns, Choice, back, syn, Held, free, final}
use Rattle.trellis.specs.Trellis as T
use Rattle.trellis.specs.Rows as R
use Rattle.trellis.specs.Rows.{weave}
use Rattle.trellis.proofs.Trellis.{Attains, attained, reaches, none_less}
use Rattle.lanes.proofs.Rows.{four}
use Rattle.walk.specs.Walk.{sum4}
use Rattle.bridge.specs.Bridge.{Costed, Setting}
use Rattle.bridge.proofs.Engine.{over}
use Rattle.bridge.proofs.Layering.{by_layers}
use Rattle.bridge.proofs.Weave.{weave_long, weave_layer, weave_below}

syn_zeros : (col : Columns) (i : ℕ) (bs : List ℕ) → Below 1 bs → syn col i bs ≡ 0
unfolding syn
syn_zeros col i [] b = refl
syn_zeros col i (zero ∷ bs) b = X.zero_l (syn col (suc i) bs) ∙ syn_zeros col (suc i) bs b.1
syn_zeros col i (suc x ∷ bs) b = absurd (omega (arith, b.0))

pub free_two : (i : ℕ) (bs : List ℕ) → Held free i bs → Below 2 bs
free_two i [] h = tt
free_two i (b ∷ bs) h = (h.0, free_two (suc i) bs h.1)

pub two_free : (i : ℕ) (bs : List ℕ) → Below 2 bs → Held free i bs
two_free i [] h = tt
two_free i (b ∷ bs) h = (h.0, two_free (suc i) bs h.1)

-- what bits add up to
module _ (zs os : List ℕ) (j : ℕ) where
  adds_from : (hs gs : List ℕ) (i : ℕ) (bs : List ℕ) → ((k : ℕ) → get_or gs (i + k) 0 ≡ get_or hs k 0) → length bs ≡ length hs → syn (R.layer gs zs os j) i bs ≡ added hs bs
  unfolding syn added
  adds_from [] gs i [] f e = refl
  adds_from [] gs i (b ∷ bs) f e = absurd (omega arith)
  adds_from (h ∷ hs) gs i [] f e = absurd (omega arith)
  adds_from (h ∷ hs) gs i (b ∷ bs) f e =
      ap₂ xor (bit b) (adds_from hs gs (suc i) bs (λ k. ap (λ (n : ℕ). get_or gs n 0) (moved i k) ∙ f (suc k)) (omega arith))
    where
      moved : (i k : ℕ) → suc i + k ≡ i + suc k
      moved i k = omega arith

      here : get_or gs i 0 ≡ h
      here = ap (λ (n : ℕ). get_or gs n 0) (omega arith) ∙ f 0

      bit : (b : ℕ) → T.pick b 0 (get_or gs i 0) ≡ Tails.pick b 0 h
      bit zero = refl
      bit (suc b) = here

pub adds : (hs zs os : List ℕ) (j : ℕ) (bs : List ℕ) → length bs ≡ length hs → syn (R.layer hs zs os j) 0 bs ≡ added hs bs
adds hs zs os j bs e = adds_from zs os j hs hs 0 bs (λ k. ap (λ (n : ℕ). get_or hs n 0) (omega arith)) e

-- a layer above the width costs nothing
pub costless : {m : ℕ} {rs : List ℤ} (hs : List ℕ) {zs os : List ℕ} → Costed m (long m) rs zs os → (j : ℕ) → m ≤ j → j < 4 → (i : ℕ) → i < long m → (R.layer hs zs os j i).c0 ≡ 0
costless {m} {rs} hs y j u lj i li = y.zeros i j li lj ∙ ap (λ (t : Bool). cost_zero (cond t (get_or rs (i * m + j) (pos 0)) (pos 0))) (le-ltb j m u)

module _ {m r : ℕ} {hs : List ℕ} {N : ℕ} {conf : (k j : ℕ) → ℕ} {rs : List ℤ} {zs os : List ℕ} (y : Setting m r hs N conf rs zs os) (big : ℕ) where
  w : width_good m ≡ true
  w = y.glue.width

  abbrev L : ℕ → Columns
  L = R.layer hs zs os

  -- the tables, with bits held
  abbrev pub table : (holds : ℕ → ℕ → Choice) → ℕ → ℕ → ℕ
  table holds j = back (holds j) (L j) (final big) 0 (length hs)

  lane_free : (j : ℕ) → m ≤ j → j < 4 → (i : ℕ) (bs : List ℕ) → Below 1 bs → i + length bs ≤ long m → T.cost (L j) i bs ≡ 0
  unfolding T.cost
  lane_free j u lj i [] b e = refl
  lane_free j u lj i (zero ∷ bs) b e = omega (arith, lane_free j u lj (suc i) bs b.1 (omega arith), costless hs y.costs j u lj i (omega arith))
  lane_free j u lj i (suc x ∷ bs) b e = absurd (omega (arith, b.0))

  module _ (holds : ℕ → ℕ → Choice) (binary : (j i : ℕ) (bs : List ℕ) → Held (holds j) i bs → Below 2 bs)
      (above : (j : ℕ) → m ≤ j → holds j ≡ free) where
    -- a codeword by its layers: their syndromes are a tuple, their costs no less than its tables and together the codeword's
    pub record Layered (ws : List ℕ) : Type 0 where
      pub place : ℕ
      pub inside : place < N
      pub sums : (j : ℕ) → j < 4 → conf place j ≡ syn (L j) 0 (layer j ws)
      pub no_less : (j : ℕ) → j < 4 → table holds j (conf place j) ≤ T.cost (L j) 0 (layer j ws)
      pub costs : cost m rs ws ≡ sum4 (λ j. T.cost (L j) 0 (layer j ws))

    pub layered : (ws : List ℕ) → is_codeword m r ws ≡ true → ((j : ℕ) → j < 4 → Held (holds j) 0 (layer j ws)) → Layered ws
    layered ws cw held =
        let p : CodewordParts m r ws = codeword_parts m r ws cw in
        let f = y.glue.there ws cw in
        record {
          place = f.0;
          inside = f.1;
          sums = sums ws p f.0 f.2;
          no_less = λ j lj.
              let e : length hs ≡ length (layer j ws) = y.glue.count ∙ sym (layer_length j ws ∙ p.count) in
              rw (sums ws p f.0 f.2 j lj, e) (none_less (L j) big (holds j) 0 (layer j ws) (held j lj));
          costs = by_layers m w rs hs zs os y.costs y.length_row ws p.count;
        }
      where
        sums : (ws : List ℕ) → CodewordParts m r ws → (k : ℕ) → ((j : ℕ) → j < 4 → added hs (layer j ws) ≡ conf k j) → (j : ℕ) → j < 4 → conf k j ≡ syn (L j) 0 (layer j ws)
        sums ws p k f j lj = sym (adds hs zs os j (layer j ws) (layer_length j ws ∙ p.count ∙ sym y.glue.count) ∙ f j lj)

    -- NO CODEWORD WITH THE HELD BITS COSTS LESS than some tuple's tables
    pub lower : (ws : List ℕ) → is_codeword m r ws ≡ true → ((j : ℕ) → j < 4 → Held (holds j) 0 (layer j ws)) →
        (k : ℕ) × (k < N) × (over (table holds) (conf k) ≤ cost m rs ws)
    lower ws cw held =
        let v : Layered ws = layered ws cw held in
        (v.place, v.inside, omega (arith, v.no_less 0 (omega arith), v.no_less 1 (omega arith), v.no_less 2 (omega arith), v.no_less 3 (omega arith), v.costs))

    -- bits of layer j that have place j of tuple k and its table's cost
    pub record Lane (k j : ℕ) (bs : List ℕ) : Type 0 where
      pub count : length bs ≡ long m
      pub two : Below 2 bs
      pub sum : syn (L j) 0 bs ≡ conf k j
      pub held : Held (holds j) 0 bs
      pub costs : T.cost (L j) 0 bs ≡ table holds j (conf k j)
      pub high : m ≤ j → Below 1 bs

    -- THE WORD OF SUCH LAYERS is a codeword of that cost, with the held bits
    pub woven : (k : ℕ) → k < N → (b : ℕ → List ℕ) → ((j : ℕ) → j < 4 → Lane k j (b j)) →
        (is_codeword m r (weave b) ≡ true) × ((j : ℕ) → j < 4 → Held (holds j) 0 (layer j (weave b))) × (cost m rs (weave b) ≡ over (table holds) (conf k))
    woven k lk b la = (
      y.glue.only (weave b) long_is (good m (weave b) small) k lk sums,
      (λ j lj. rw (lays j lj) (la j lj).held),
      by_layers m w rs hs zs os y.costs y.length_row (weave b) long_is
          ∙ omega (arith, part 0 (omega arith), part 1 (omega arith), part 2 (omega arith), part 3 (omega arith)),
    )
      where
        long_is : length (weave b) ≡ long m
        long_is = weave_long (long m) b (λ j lj. (la j lj).count) (λ j lj. (la j lj).two)

        lays : (j : ℕ) → j < 4 → layer j (weave b) ≡ b j
        lays = weave_layer (long m) b (λ j lj. (la j lj).count) (λ j lj. (la j lj).two)

        small : Below (2 ^ m) (weave b)
        small =
            widths (λ (m : ℕ). (m ≤ 3 → Below 1 (b 3)) → Below (2 ^ m) (weave b))
            (λ h. weave_below (long m) b (λ j lj. (la j lj).count) (λ j lj. (la j lj).two) 1 (h (omega arith)))
            (λ h. weave_below (long m) b (λ j lj. (la j lj).count) (λ j lj. (la j lj).two) 2 (la 3 (omega arith)).two)
            m w (la 3 (omega arith)).high

        part : (j : ℕ) → j < 4 → T.cost (L j) 0 (layer j (weave b)) ≡ table holds j (conf k j)
        part j lj = ap (T.cost (L j) 0) (lays j lj) ∙ (la j lj).costs

        sums : (j : ℕ) → j < 4 → added hs (layer j (weave b)) ≡ conf k j
        sums j lj = ap (added hs) (lays j lj) ∙ sym (adds hs zs os j (b j) ((la j lj).count ∙ sym y.glue.count)) ∙ (la j lj).sum

    -- a lane that costs less than big has such bits
    lane_there : (k : ℕ) → k < N → (j : ℕ) → j < 4 → table holds j (conf k j) < big → (bs : List ℕ) × Lane k j bs
    lane_there k lk j lj h = go (dec_le m j)
      where
        a : (bs : List ℕ) × Attains (L j) (final big) (holds j) 0 (length hs) (conf k j) bs
        a = attained (L j) (final big) (holds j) 0 (length hs) (conf k j)

        s : (syn (L j) 0 a.0 ≡ conf k j) × (T.cost (L j) 0 a.0 ≡ table holds j (conf k j))
        s = reaches (L j) big (holds j) 0 (length hs) (conf k j) a.0 a.1 h

        zeros : List ℕ
        zeros = replicate (long m) 0

        below : (n : ℕ) → Below 1 (replicate n 0)
        below zero = tt
        below (suc n) = (omega arith, below n)

        go : Dec (m ≤ j) → (bs : List ℕ) × Lane k j bs
        go (no n) = (
          a.0,
          record {
            count = a.1.count ∙ y.glue.count;
            two = binary j 0 a.0 a.1.held;
            sum = s.0;
            held = a.1.held;
            costs = s.1;
            high = λ u. absurd (n u);
          },
        )
        go (yes u) = (
          zeros,
          record {
            count = length-replicate (long m) 0;
            two = two;
            sum = syn_zeros (L j) 0 zeros (below (long m)) ∙ sym nothing;
            held = rw (above j u) (two_free 0 zeros two);
            costs = none_cost zeros (below (long m)) (length-replicate (long m) 0);
            high = λ v. below (long m);
          },
        )
          where
            two : Below 2 zeros
            two = widen (omega arith) zeros (below (long m))

            nothing : conf k j ≡ 0
            nothing = y.glue.high k j lk u lj

            none_cost : (bs : List ℕ) → Below 1 bs → length bs ≡ long m → T.cost (L j) 0 bs ≡ table holds j (conf k j)
            none_cost bs b e =
                let z : T.cost (L j) 0 bs ≡ 0 = lane_free j u lj 0 bs b (omega arith) in
                let v : length hs ≡ length bs = y.glue.count ∙ sym e in
                let x = none_less (L j) big (holds j) 0 bs (rw (above j u) (two_free 0 bs (widen {n = 1} {p = 2} (omega arith) bs b))) in
                let q : table holds j (conf k j) ≡ back (holds j) (L j) (final big) 0 (length bs) (syn (L j) 0 bs) =
                ap₂ (λ (n s : ℕ). back (holds j) (L j) (final big) 0 n s) v (nothing ∙ sym (syn_zeros (L j) 0 bs b)) in
                omega arith

    -- A CONFIGURATION that costs less than big has a codeword of that cost, with the held bits
    pub attains : (k : ℕ) → k < N → over (table holds) (conf k) < big →
        (ws : List ℕ) × (is_codeword m r ws ≡ true) × ((j : ℕ) → j < 4 → Held (holds j) 0 (layer j ws)) × (cost m rs ws ≡ over (table holds) (conf k))
    attains k lk h =
        let b : ℕ → List ℕ = bits in
        let t = woven k lk bits each in
        (weave bits, t.0, t.1, t.2)
      where
        there : (j : ℕ) → j < 4 → (bs : List ℕ) × Lane k j bs
        there =
            four (λ j. (bs : List ℕ) × Lane k j bs) (lane_there k lk 0 (omega arith) (omega arith)) (lane_there k lk 1 (omega arith) (omega arith))
            (lane_there k lk 2 (omega arith) (omega arith)) (lane_there k lk 3 (omega arith) (omega arith))

        bits : ℕ → List ℕ
        bits zero = (there 0 (omega arith)).0
        bits (suc zero) = (there 1 (omega arith)).0
        bits (suc (suc zero)) = (there 2 (omega arith)).0
        bits (suc (suc (suc j))) = (there 3 (omega arith)).0

        each : (j : ℕ) → j < 4 → Lane k j (bits j)
        each = four (λ j. Lane k j (bits j)) (there 0 (omega arith)).1 (there 1 (omega arith)).1 (there 2 (omega arith)).1 (there 3 (omega arith)).1
