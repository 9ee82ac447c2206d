-- The least total over a block of turns, lane by lane, and what the marginals gain by it: a row that stands still over the block is lowered once.
-- Assumes nothing.
use Rattle.basics.proofs.Kit.{◌≡◌, refl, sym, ap, ◌∙◌, cond, List, ℕ, suc, ◌+◌, ◌-◌, ◌*◌, ◌/◌, ◌%◌, ◌≤◌, ◌<◌, min, arith, length, get_or, eqb}
use native.Mathlib.Nat.{le_antisymm}
use native.Mathlib.Decide.{dec_le, ℕ_discrete}
use borrow.Author.Tests.{eq-eqb, ne_eqb}
use lib.ListN.{replicate, get_or-replicate}
use Rattle.lanes.specs.Lanes.{lane, limit}
use Rattle.trellis.specs.Trellis.{least_of}
use Rattle.trellis.proofs.Least.{least_cap, least_le, le_least}
use Rattle.walk.specs.declared.At.{At}
use Rattle.walk.specs.Walk.{start, place, spot, total, least_total, least_at, Slots}
use Rattle.walk.specs.Turns.{Each, Small, lows, Standing}
use Rattle.walk.proofs.Rows.{lows_other, lows_at}
use Rattle.walk.proofs.Turns.{spot_at, later, row_in}

-- the least of cap and of the totals of d turns from turn u on
pub record Block (cap : ℕ) (f sl st : List ℕ) (u d : ℕ) (t : List ℕ) : Type 0 where
  pub small : Each 16 (λ x. lane t x < limit)
  pub under : (z x : ℕ) → z < d → x < 16 → lane t x ≤ total f sl st ((u + z) * 16 + x)
  pub over : (b x : ℕ) → x < 16 → b ≤ cap → ((z : ℕ) → z < d → b ≤ total f sl st ((u + z) * 16 + x)) → b ≤ lane t x

module _ {cap : ℕ} {f sl st : List ℕ} where
  pub block_none : (u : ℕ) → cap < limit → Block cap f sl st u 0 (replicate 16 cap)
  block_none u l = record {
    small = λ x lx. rw (get_or-replicate 16 x cap 0 lx) l;
    under = λ z x lz lx. absurd (omega arith);
    over = λ b x lx h k. rw (get_or-replicate 16 x cap 0 lx) h;
  }

  pub block_turn : {n k : ℕ} {a : At} → Slots n f sl st → k < n → Standing f sl st k a → Block cap f sl st k 1 a.total
  block_turn {n} {k} w l s = record {
    small = λ x lx. omega (arith, s.lanes x lx, w.room (k * 16 + x) (omega arith));
    under = λ z x lz lx. let e : k + z ≡ k = omega arith in rw e (omega (arith, s.lanes x lx));
    over = λ b x lx h g. let e : k + 0 ≡ k = omega arith in omega (arith, s.lanes x lx, rw e at (g 0 (omega arith)));
  }

  -- a block after another
  pub block_join : {u d e : ℕ} {l t : List ℕ} → Block cap f sl st u d l → Block cap f sl st (u + d) e t → (m : List ℕ) → Each 16 (λ x. lane m x ≡ min (lane l x) (lane t x)) → Block cap f sl st u (d + e) m
  block_join {u} {d} {e} {l} {t} p q m h = record {
    small = λ x lx. omega (arith, h x lx, p.small x lx);
    under = λ z x lz lx. go z x lz lx (dec_le d z);
    over = λ b x lx k g. omega (arith, h x lx, p.over b x lx k (λ z lz. g z (omega arith)), q.over b x lx k (λ z lz. let a : u + d + z ≡ u + (d + z) = omega arith in rw a (g (d + z) (omega arith))));
  }
    where
      go : (z x : ℕ) → z < d + e → x < 16 → Dec (d ≤ z) → lane m x ≤ total f sl st ((u + z) * 16 + x)
      go z x lz lx (yes a) =
          let r : u + d + (z - d) ≡ u + z = omega arith in
          omega (arith, h x lx, rw r at (q.under (z - d) x (omega arith) lx))
      go z x lz lx (no a) = omega (arith, h x lx, p.under z x (omega arith) lx)

  -- all turns
  pub block_least : {n : ℕ} {m : List ℕ} → Block cap f sl st 0 n m → least_of (lane m) cap 16 ≡ least_total cap f sl st n
  block_least {n} {m} p =
      le_antisymm
      (le_least (total f sl st) cap (n * 16) (least_of (lane m) cap 16) (least_cap (lane m) cap 16) (λ i h.
      let e : (0 + i / 16) * 16 + i % 16 ≡ i = omega arith in
      omega (arith, least_le (lane m) cap 16 (i % 16) (omega arith), rw e at (p.under (i / 16) (i % 16) (omega arith) (omega arith)))))
      (le_least (lane m) cap 16 (least_total cap f sl st n) (least_cap (total f sl st) cap (n * 16)) (λ x lx.
      p.over (least_total cap f sl st n) x lx (least_cap (total f sl st) cap (n * 16)) (λ z lz. least_le (total f sl st) cap (n * 16) ((0 + z) * 16 + x) (omega arith))))

-- THE MARGINALS of the first v turns for the first w slots, and of the first u for the others
pub record Marked (cap : ℕ) (f sl st : List ℕ) (w v u : ℕ) (g : List ℕ) : Type 0 where
  pub long : length g ≡ length f
  pub small : Small g
  pub moving : (j p : ℕ) → j < w → j < 4 → start sl j ≤ p → p < start sl (suc j) → get_or g p 0 ≡ least_at cap f sl st v j p
  pub still : (j p : ℕ) → w ≤ j → j < 4 → start sl j ≤ p → p < start sl (suc j) → get_or g p 0 ≡ least_at cap f sl st u j p

-- rows i, .., i + c - 1 lowered to t, at the places a of turn k
module _ {n : ℕ} {f sl st : List ℕ} (w : Slots n f sl st) {k : ℕ} (lk : k < n) (a : List ℕ) (at : Each 4 (λ j. lane a j ≡ place sl st k j)) (cap : ℕ) (g t : List ℕ) (i c : ℕ) (few : i + c ≤ 4) (long : length g ≡ length f) where
  pub rows_in : Each 4 (λ j. lane a j + 16 ≤ length g)
  rows_in j lj = rw (at j lj, long) (row_in w k j lk lj)

  -- place p of slot j
  module _ (j p : ℕ) (lj : j < 4) (from : start sl j ≤ p) (till : p < start sl (suc j)) where
    -- the row of another slot has it not
    apart : (h : ℕ) → h < 4 → (h ≡ j → ⊥) → lane a h ≤ p → p < lane a h + 16 → ⊥
    apart h lh ne x y = go (dec_le h j) (ℕ_discrete h j)
      where
        go : Dec (h ≤ j) → Dec (h ≡ j) → ⊥
        go d (yes e) = ne e
        go (yes d) (no e) = omega (arith, at h lh, w.below k h lk lh, later w h j (omega arith) (omega arith))
        go (no d) (no e) = omega (arith, at h lh, w.above k h lk lh, later w j h (omega arith) (omega arith))

    pub not_lowered : ((h : ℕ) → h < c → i + h ≡ j → ⊥) → get_or (lows g a t i c) p 0 ≡ get_or g p 0
    not_lowered ne = lows_other g a t i c p (λ h lh. apart (i + h) (omega arith) (ne h lh))

    -- its own row is lowered, to the least of d turns from turn u on, over which it stands still
    module _ (u d : ℕ) (b : Block cap f sl st u d t) (lo : i ≤ j) (hi : j < i + c) (stays : (z : ℕ) → z < d → place sl st (u + z) j ≡ place sl st k j) where
      abbrev with_p : ℕ → ℕ
      with_p y = cond (eqb (spot sl st y j) p) (total f sl st y) cap

      hit : (z x : ℕ) → z < d → x < 16 → place sl st k j + x ≡ p → with_p ((u + z) * 16 + x) ≡ total f sl st ((u + z) * 16 + x)
      hit z x lz lx h = rw (eq-eqb (spot sl st ((u + z) * 16 + x) j) p (spot_at sl st (u + z) x lx j ∙ ap (λ (q : ℕ). q + x) (stays z lz) ∙ h)) refl

      miss : (z x : ℕ) → z < d → x < 16 → (place sl st k j + x ≡ p → ⊥) → with_p ((u + z) * 16 + x) ≡ cap
      miss z x lz lx h = rw (ne_eqb (spot sl st ((u + z) * 16 + x) j) p (λ q. h (sym (spot_at sl st (u + z) x lx j ∙ ap (λ (q : ℕ). q + x) (stays z lz)) ∙ q))) refl

      -- what is below the turns before and the block is below all
      all_above : (m : ℕ) → m ≤ least_of with_p cap (u * 16) → ((z x : ℕ) → z < d → x < 16 → place sl st k j + x ≡ p → m ≤ total f sl st ((u + z) * 16 + x)) → m ≤ least_of with_p cap ((u + d) * 16)
      all_above m l h = le_least with_p cap ((u + d) * 16) m (omega (arith, l, least_cap with_p cap (u * 16))) (λ y ly. go y ly (dec_le (u * 16) y) (ℕ_discrete (place sl st k j + y % 16) p))
        where
          go : (y : ℕ) → y < (u + d) * 16 → Dec (u * 16 ≤ y) → Dec (place sl st k j + y % 16 ≡ p) → m ≤ with_p y
          go y ly (no b) q = omega (arith, l, least_le with_p cap (u * 16) y (omega arith))
          go y ly (yes b) (yes q) =
              let e : (u + (y / 16 - u)) * 16 + y % 16 ≡ y = omega arith in
              omega (arith, rw e at (hit (y / 16 - u) (y % 16) (omega arith) (omega arith) q), rw e at (h (y / 16 - u) (y % 16) (omega arith) (omega arith) q))
          go y ly (yes b) (no q) =
              let e : (u + (y / 16 - u)) * 16 + y % 16 ≡ y = omega arith in
              omega (arith, l, least_cap with_p cap (u * 16), rw e at (miss (y / 16 - u) (y % 16) (omega arith) (omega arith) q))

      more : least_of with_p cap ((u + d) * 16) ≤ least_of with_p cap (u * 16)
      more = le_least with_p cap (u * 16) (least_of with_p cap ((u + d) * 16)) (least_cap with_p cap ((u + d) * 16)) (λ y ly. least_le with_p cap ((u + d) * 16) y (omega arith))

      pub lowered : get_or g p 0 ≡ least_at cap f sl st u j p → get_or (lows g a t i c) p 0 ≡ least_at cap f sl st (u + d) j p
      lowered m = go (dec_le (place sl st k j) p) (dec_le (place sl st k j + 16) p)
        where
          here : i + (j - i) ≡ j
          here = omega arith

          inside : (x : ℕ) → x < 16 → place sl st k j + x ≡ p → get_or (lows g a t i c) p 0 ≡ least_of with_p cap ((u + d) * 16)
          inside x lx z =
              let q : lane a (i + (j - i)) + x ≡ p = rw here (omega (arith, at j lj, z)) in
              ap (λ (y : ℕ). get_or (lows g a t i c) y 0) (sym q)
              ∙ lows_at g a t i c (j - i) x (omega arith) lx (rw here (rows_in j lj)) (λ h lh ne r s. apart (i + h) (omega arith) (λ e. ne (omega arith)) (rw q at r) (rw q at s))
              ∙ ap (λ (y : ℕ). min y (lane t x)) (ap (λ (y : ℕ). get_or g y 0) q ∙ m)
              ∙ le_antisymm
              (all_above (min (least_of with_p cap (u * 16)) (lane t x)) (omega arith) (λ v y lv ly e. let same : y ≡ x = omega arith in rw same (omega (arith, b.under v x lv lx))))
              (omega (arith, more, b.over (least_of with_p cap ((u + d) * 16)) x lx (least_cap with_p cap ((u + d) * 16)) (λ v lv. omega (arith, hit v x lv lx z, least_le with_p cap ((u + d) * 16) ((u + v) * 16 + x) (omega arith)))))

          outside : ((x : ℕ) → x < 16 → place sl st k j + x ≡ p → ⊥) → get_or (lows g a t i c) p 0 ≡ least_of with_p cap ((u + d) * 16)
          outside o =
              lows_other g a t i c p (λ h lh r s. away (i + h) (omega arith) (ℕ_discrete (i + h) j) r s) ∙ m
              ∙ le_antisymm (all_above (least_of with_p cap (u * 16)) (omega arith) (λ v y lv ly e. absurd (o y ly e))) more
            where
              away : (h : ℕ) → h < 4 → Dec (h ≡ j) → lane a h ≤ p → p < lane a h + 16 → ⊥
              away h lh (yes e) r s = let q : lane a h ≡ place sl st k j = at h lh ∙ ap (place sl st k) e in o (p - place sl st k j) (omega arith) (omega arith)
              away h lh (no e) r s = apart h lh e r s

          go : Dec (place sl st k j ≤ p) → Dec (place sl st k j + 16 ≤ p) → get_or (lows g a t i c) p 0 ≡ least_of with_p cap ((u + d) * 16)
          go (yes x) (no y) = inside (p - place sl st k j) (omega arith) (omega arith)
          go (no x) y = outside (λ z lz e. omega arith)
          go (yes x) (yes y) = outside (λ z lz e. omega arith)
