-- THE SEARCH IS RIGHT: the least over the configurations is the least cost of a codeword; and where one layer's table with a bit held meets what the
-- other layers cost, that is the least cost of a codeword with that bit.
-- Assumes nothing.
use Rattle.basics.proofs.Kit.{◌≡◌, refl, sym, ap, ◌∙◌, Bool, true, false, cond, List, [], ◌∷◌, ℕ, zero, suc, ◌+◌, ◌*◌, ◌≤◌, ◌<◌, arith, length, get_or, eqb, ℤ}
use mathlib.Core.Path.{subst}
use native.Mathlib.Nat.{not-suc-le-zero, le_of_suc-le-suc}
use borrow.Author.Tests.{eq-eqb, ne_eqb, eqb-true}
use lib.Arith.{digits_lt}
use Rattle.field.specs.Field.{width_good}
use Rattle.field.proofs.Tests.{widths}
use Rattle.code.specs.Code.{long, is_codeword}
use Rattle.code.specs.Bits.{bit_at, row_long}
use Rattle.code.specs.Promise.{BothThere}
use Rattle.code.proofs.Both.{both_there}
use Rattle.code.proofs.Words.{Below, CodewordParts, codeword_parts}
use Rattle.split.specs.Split.{layer}
use Rattle.split.specs.Promise.{LayerBits}
use Rattle.split.proofs.Layers.{layer_below, layer_length, layer_bits}
use Rattle.metric.specs.Cost.{weight_of, cost, Least, LeastWith}
use Rattle.metric.proofs.Bounds.{cost_le}
use Rattle.trellis.specs.Trellis.{Choice, either, only, May, back, Held, free, final, least_of, holding, meet}
use Rattle.trellis.specs.Rows as R
use Rattle.trellis.proofs.Least.{least_le, least_found}
use Rattle.bridge.specs.Bridge.{Setting}
use Rattle.bridge.proofs.Engine.{over, replaced, Others, soft_le, soft_found}
use Rattle.bridge.proofs.Bridge.{table, lower, attains, free_two, two_free}

-- bits with the one at i held
holding_two : (i v : ℕ) → v < 2 → (p : ℕ) (bs : List ℕ) → Held (holding i v) p bs → Below 2 bs
holding_two i v hv p [] h = tt
holding_two i v hv p (b ∷ bs) h = (go (eqb p i) h.0, holding_two i v hv (suc p) bs h.1)
  where
    go : (t : Bool) → May (cond t (only v) either) b → b < 2
    go true e = omega arith
    go false l = l

held_at : (i v p k : ℕ) (bs : List ℕ) → p + k ≡ i → k < length bs → Held (holding i v) p bs → get_or bs k 0 ≡ v
held_at i v p k [] e l h = absurd (not-suc-le-zero l)
held_at i v p zero (b ∷ bs) e l h = subst (λ (t : Bool). May (cond t (only v) either) b) (eq-eqb p i (omega arith)) h.0
held_at i v p (suc k) (b ∷ bs) e l h = held_at i v (suc p) k bs (omega arith) (le_of_suc-le-suc l) h.1

at_held : (i v p : ℕ) (bs : List ℕ) → Below 2 bs → ((k : ℕ) → p + k ≡ i → k < length bs → get_or bs k 0 ≡ v) → Held (holding i v) p bs
at_held i v p [] b f = tt
at_held i v p (x ∷ xs) b f = (go (eqb p i) refl, at_held i v (suc p) xs b.1 (λ k e l. f (suc k) (omega arith) (omega arith)))
  where
    go : (t : Bool) → eqb p i ≡ t → May (cond t (only v) either) x
    go true e = f 0 (omega (arith, eqb-true p i e)) (omega arith)
    go false e = b.0

-- some codeword has v at a bit
some_with : (m r : ℕ) → width_good m ≡ true → r < long m → (b : ℕ) → b < row_long m → (v : ℕ) → v < 2 →
    (ws : List ℕ) × (is_codeword m r ws ≡ true) × (bit_at m b ws ≡ v)
unfolding BothThere
some_with m r w f b h zero hv = (both_there m r b w f h).0
some_with m r w f b h (suc zero) hv = (both_there m r b w f h).1
some_with m r w f b h (suc (suc v)) hv = absurd (omega arith)

-- cap is above the cost of every word, and big no less than that
module _ {m r : ℕ} {hs : List ℕ} {N : ℕ} {conf : (k j : ℕ) → ℕ} {rs : List ℤ} {zs os : List ℕ} (y : Setting m r hs N conf rs zs os) (big cap bound : ℕ)
    (light : weight_of rs < bound) (under : bound ≤ cap) (over_all : cap ≤ big) where
  w : width_good m ≡ true
  w = y.glue.width

  -- the tables of the layers
  abbrev pub F : ℕ → ℕ → ℕ
  F = table y big (λ j. free)

  low : (ws : List ℕ) → is_codeword m r ws ≡ true → (k : ℕ) × (k < N) × (over F (conf k) ≤ cost m rs ws)
  low ws cw = lower y big (λ j. free) (λ j. free_two) (λ j h. refl) ws cw (λ j lj. two_free 0 (layer j ws) (layer_below j ws))

  abbrev pub best : ℕ
  best = least_of (λ k. over F (conf k)) cap N

  pub best_small : best < bound
  best_small =
      let e = some_with m r w y.glue.few 0 some 0 (omega arith) in
      let f = low e.0 e.1 in
      omega (arith, least_le (λ k. over F (conf k)) cap N f.0 f.1, f.2, cost_le m rs e.0)
    where
      some : 0 < row_long m
      some = widths (λ (m : ℕ). 0 < row_long m) (unfold row_long long in omega arith) (unfold row_long long in omega arith) m w

  pub least : Least m (is_codeword m r) rs best
  least =
      let r = least_found (λ k. over F (conf k)) cap N (omega (arith, best_small)) in
      let a = attains y big (λ j. free) (λ j. free_two) (λ j h. refl) r.0 r.1 (omega (arith, r.2, best_small)) in
      record {
        met = (a.0, a.1, a.3 ∙ r.2);
        all = λ ws cw. let f = low ws cw in omega (arith, f.2, least_le (λ k. over F (conf k)) cap N f.0 f.1);
      }

  module _ (i j v : ℕ) (hi : i < long m) (hj : j < m) (hv : v < 2) where
    -- the layer's table with the bit held, and all tables so
    abbrev pub H : ℕ → ℕ
    H = back (holding i v) (R.layer hs zs os j) (final big) 0 (length hs)

    holds : ℕ → ℕ → Choice
    holds k = cond (eqb k j) (holding i v) free

    lj : j < 4
    lj = widths (λ (m : ℕ). j < m → j < 4) (λ h. omega arith) (λ h. omega arith) m w hj

    binary : (k p : ℕ) (bs : List ℕ) → Held (holds k) p bs → Below 2 bs
    unfolding holds
    binary k p bs = go (eqb k j)
      where
        go : (x : Bool) → Held (cond x (holding i v) free) p bs → Below 2 bs
        go true h = holding_two i v hv p bs h
        go false h = free_two p bs h

    above : (k : ℕ) → m ≤ k → holds k ≡ free
    unfolding holds
    above k h = ap (λ (x : Bool). cond x (holding i v) free) (ne_eqb k j (λ e. omega arith))

    same : (k s : ℕ) → table y big holds k s ≡ replaced F j H k s
    unfolding holds
    same k s = go (eqb k j) refl
      where
        go : (x : Bool) → eqb k j ≡ x → back (cond x (holding i v) free) (R.layer hs zs os k) (final big) 0 (length hs) s ≡ cond x (H s) (F k s)
        go true e = ap (λ (z : ℕ). back (holding i v) (R.layer hs zs os z) (final big) 0 (length hs) s) (eqb-true k j e)
        go false e = refl

    over_same : (u : ℕ → ℕ) → over (table y big holds) u ≡ over (replaced F j H) u
    over_same u = omega (arith, same 0 (u 0), same 1 (u 1), same 2 (u 2), same 3 (u 3))

    all_held : (ws : List ℕ) → is_codeword m r ws ≡ true → bit_at m (i * m + j) ws ≡ v → (k : ℕ) → k < 4 → Held (holds k) 0 (layer k ws)
    unfolding holds LayerBits
    all_held ws cw e k lk = go (eqb k j) refl
      where
        here : get_or (layer j ws) i 0 ≡ v
        here = sym (layer_bits m j i ws hj) ∙ e

        go : (x : Bool) → eqb k j ≡ x → Held (cond x (holding i v) free) 0 (layer k ws)
        go true f = rw (eqb-true k j f) (at_held i v 0 (layer j ws) (layer_below j ws) (λ n a b. rw (sym (zero_plus n) ∙ a) here))
          where
            zero_plus : (n : ℕ) → 0 + n ≡ n
            zero_plus n = omega arith
        go false f = two_free 0 (layer k ws) (layer_below k ws)

    module _ (size : ℕ) (a : ℕ → ℕ) (others : Others F conf N j size bound a) (inside : (k : ℕ) → k < N → conf k j < size) where
      abbrev pub soft : ℕ
      soft = meet cap size a H

      low_with : (ws : List ℕ) → is_codeword m r ws ≡ true → bit_at m (i * m + j) ws ≡ v → soft ≤ cost m rs ws
      low_with ws cw b =
          let f = lower y big holds binary above ws cw (all_held ws cw b) in
          omega (arith, f.2, over_same (conf f.0), soft_le others lj H cap f.0 f.1 (inside f.0 f.1))

      pub soft_small : soft < bound
      unfolding row_long
      soft_small =
          let p = some_with m r w y.glue.few (i * m + j) (digits_lt hi hj) v hv in
          omega (arith, low_with p.0 p.1 p.2, cost_le m rs p.0)

      pub least_with : LeastWith m (is_codeword m r) rs (i * m + j) v soft
      unfolding holds LayerBits
      least_with =
          let f = soft_found others lj H cap under soft_small in
          let a = attains y big holds binary above f.0 f.1 (omega (arith, over_same (conf f.0), f.2, soft_small)) in
          record {
            met = (a.0, a.1, layer_bits m j i a.0 hj ∙ held_here a.0 a.1 (a.2 j lj), a.3 ∙ over_same (conf f.0) ∙ f.2);
            all = low_with;
          }
        where
          held_here : (ws : List ℕ) → is_codeword m r ws ≡ true → Held (holds j) 0 (layer j ws) → get_or (layer j ws) i 0 ≡ v
          held_here ws cw h =
              let p : CodewordParts m r ws = codeword_parts m r ws cw in
              held_at i v 0 i (layer j ws) (omega arith) (omega (arith, layer_length j ws, p.count))
              (subst (λ (x : Bool). Held (cond x (holding i v) free) 0 (layer j ws)) (eq-eqb j j refl) h)
