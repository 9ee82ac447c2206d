-- The places of a code once they are filled: each has the entry that it stands for.
-- Assumes nothing.
use Rattle.basics.proofs.Kit.{◌≡◌, refl, sym, ap, ◌∙◌, true, List, ◌++◌, ℕ, zero, suc, ◌+◌, ◌-◌, ◌*◌, ◌^◌, ◌≤◌, ◌<◌, arith, length, get_or, take}
use mathlib.Core.Logic.{◌⊎◌, inl, inr}
use native.Mathlib.Nat.{mod-eq_of_lt}
use lib.ListN.{replicate}
use lib.Seq.{ext_get_or}
use lib.Pow.{pow_mono}
use Rattle.field.specs.Field.{xor}
use Rattle.field.proofs.Xor as X
use Rattle.code.specs.Code.{accepted, syndrome_long}
use Rattle.split.specs.Members.{picked}
use Rattle.split.proofs.Sums.{picked_zeros}
use Rattle.tails.proofs.Accepted.{le_or_lt}
use Rattle.tails.specs.Tails.{place_columns, marked}
use Rattle.tails.proofs.Picked.{picked_append, picked_take, picked_chosen, chosen_lt}
use Rattle.walk.specs.Walk.{start}
use Rattle.spots.specs.Spots.{room_bits, slots_from, slots, Placed}
use Rattle.spots.specs.Filling.{ten_columns, all_place_columns, ten_of, entry, Slots, SlotsFilled}
use Rattle.spots.proofs.Filled.{ten_below}
use Rattle.spots.proofs.Data as D

pub picked_lt : (c : ℕ) (es : List ℕ) (k : ℕ) → ((b : ℕ) → get_or es b 0 < 2 ^ c) → picked es k < 2 ^ c
picked_lt c es k h = rw (picked_chosen es k) (chosen_lt c (length es) (λ b. get_or es b 0) k (λ b l. h b))

-- columns that are 0 change nothing
picked_ten : (es : List ℕ) (p : ℕ) → p < 2 ^ 10 → picked (take 10 (es ++ replicate 10 0)) p ≡ picked es p
picked_ten es p h =
    picked_take 10 (es ++ replicate 10 0) p ∙ ap (picked (es ++ replicate 10 0)) (mod-eq_of_lt h) ∙ picked_append es (replicate 10 0) p
    ∙ ap (xor (picked es p)) (picked_zeros 10 _) ∙ X.zero_r (picked es p)

module _ (m r : ℕ) (a : accepted m r ≡ true) where
  pub apart : (j : ℕ) → j < 4 → start (slots m r) (suc j) ≡ start (slots m r) j + 2 ^ room_bits m r j
  unfolding slots slots_from
  apart zero h = omega arith
  apart (suc zero) h = omega arith
  apart (suc (suc zero)) h = omega arith
  apart (suc (suc (suc zero))) h = omega arith
  apart (suc (suc (suc (suc j)))) h = absurd (omega arith)

  pub asked : (l : List ℕ) → length l ≡ start (slots m r) 4 → Slots (all_place_columns m r) (slots m r) l
  unfolding slots slots_from
  asked l e = record {
    columns_long = D.columns_count m r a;
    slots_long = refl;
    small = λ b. omega (arith, D.all_small m r a b, pow_mono (D.syndrome_few m r a));
    apart = λ j h. record { bits = room_bits m r j; some = D.room_some m r a j h; few = D.room_few m r a j h; ends = apart j h };
    ends = sym e;
  }

  -- the slot of a place
  record Found (p : ℕ) : Type 0 where
    pub slot : ℕ
    pub is_slot : slot < 4
    pub above : start (slots m r) slot ≤ p
    pub below : p < start (slots m r) (suc slot)

  first : start (slots m r) 0 ≡ 0
  unfolding slots slots_from
  first = refl

  found : (p : ℕ) → p < start (slots m r) 4 → Found p
  found p h = one (le_or_lt (start (slots m r) 3) p) (le_or_lt (start (slots m r) 2) p) (le_or_lt (start (slots m r) 1) p)
    where
      one : (start (slots m r) 3 ≤ p) ⊎ (p < start (slots m r) 3) → (start (slots m r) 2 ≤ p) ⊎ (p < start (slots m r) 2) → (start (slots m r) 1 ≤ p) ⊎ (p < start (slots m r) 1) → Found p
      one (inl k) x y = record { slot = 3; is_slot = omega arith; above = k; below = h }
      one (inr g) (inl k) y = record { slot = 2; is_slot = omega arith; above = k; below = g }
      one (inr g) (inr f) (inl k) = record { slot = 1; is_slot = omega arith; above = k; below = f }
      one (inr g) (inr f) (inr e) = record { slot = 0; is_slot = omega arith; above = omega (arith, first); below = e }

  pub placed : (size : ℕ) (before after : List ℕ) → size ≡ 2 ^ syndrome_long m r → length before ≡ start (slots m r) 4 →
      SlotsFilled 4 (all_place_columns m r) (slots m r) before after → Placed m r size after
  unfolding marked ten_columns
  placed size before after es e f = record {
    long = f.long ∙ e;
    entries = λ j p lj lp.
        f.entries j p lj lp
        ∙ ap (λ (x : List ℕ). entry x j p) (D.ten_right m r a j lj)
        ∙ ap (λ (x : ℕ). x * 4 + j) (picked_ten (place_columns m r j) p (omega (arith, apart j lj, pow_mono (D.room_few m r a j lj))));
    inside = λ p lp. in_slot p (found p (omega (arith, f.long)));
  }
    where
      in_slot : (p : ℕ) → Found p → get_or after p 0 < size * 4
      in_slot p s =
          let q : start (slots m r) s.slot + (p - start (slots m r) s.slot) ≡ p = omega (arith, s.above) in
          let v : get_or after (start (slots m r) s.slot + (p - start (slots m r) s.slot)) 0 ≡ entry (ten_of (all_place_columns m r) s.slot) s.slot (p - start (slots m r) s.slot) =
          f.entries s.slot (p - start (slots m r) s.slot) s.is_slot (omega (arith, s.above, s.below)) in
          let w : get_or after p 0 ≡ entry (ten_of (all_place_columns m r) s.slot) s.slot (p - start (slots m r) s.slot) = rw q at v in
          omega (arith, w, es, s.is_slot, picked_lt (syndrome_long m r) (ten_of (all_place_columns m r) s.slot) (p - start (slots m r) s.slot) (ten_below (2 ^ syndrome_long m r) (all_place_columns m r) s.slot (D.all_small m r a)))

  -- the places of a code are one list
  pub placed_same : {size : ℕ} {ps qs : List ℕ} → Placed m r size ps → Placed m r size qs → ps ≡ qs
  placed_same {size} {ps} {qs} p q = ext_get_or 0 ps qs (p.long ∙ sym q.long) (λ i h. in_slot i (found i (omega (arith, p.long))))
    where
      in_slot : (i : ℕ) → Found i → get_or ps i 0 ≡ get_or qs i 0
      in_slot i s =
          let k : ℕ = i - start (slots m r) s.slot in
          let e : start (slots m r) s.slot + k ≡ i = omega (arith, s.above) in
          let l : start (slots m r) s.slot + k < start (slots m r) (suc s.slot) = omega (arith, s.above, s.below) in
          rw e at (p.entries s.slot k s.is_slot l ∙ sym (q.entries s.slot k s.is_slot l))
