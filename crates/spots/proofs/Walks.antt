-- Where the walk of a code goes: its rows stay in their slots, and the place of a tuple stands for its coset.
-- Assumes nothing.
use Rattle.basics.proofs.Kit.{◌≡◌, refl, sym, ap, ap₂, ◌∙◌, true, List, [], ◌∷◌, ◌++◌, ℕ, zero, suc, ◌+◌, ◌-◌, ◌*◌, ◌/◌, ◌%◌, ◌^◌, ◌≤◌, ◌<◌, arith, eqb, length, get_or}
use native.Mathlib.Nat.{mod-lt, zero-lt-suc, add-zero, div-add-mod'}
use borrow.Author.Tests.{le-ltb, eq-eqb}
use lib.Bits as B
use lib.Bits.{bit_xor}
use lib.ListN.{replicate}
use lib.Pow.{pow_pos, pow_mono}
use Rattle.field.specs.Field.{xor}
use Rattle.code.specs.Code.{accepted, long, message_long, bch_dimension, configuration_long}
use Rattle.tails.specs.Tails.{marked, steps, step_count, turns, step, changed_bit, off, visited, place_columns}
use Rattle.walk.specs.Walk.{start, place, spot}
use Rattle.spots.specs.Spots.{slot_bits, slots_from, slots, all_steps}
use Rattle.spots.specs.Promise.{Walks, SpotVisited, VisitedInside, VisitedHigh}
use Rattle.spots.proofs.Cases.{the_list}
use Rattle.spots.proofs.Data as D
use Rattle.spots.proofs.Entries.{picked_lt, apart}

-- steps that are 0 change nothing
pub get_or_zeros : (xs : List ℕ) (n k : ℕ) → get_or (xs ++ replicate n 0) k 0 ≡ get_or xs k 0
get_or_zeros [] zero k = refl
get_or_zeros [] (suc n) zero = refl
get_or_zeros [] (suc n) (suc k) = get_or_zeros [] n k
get_or_zeros (x ∷ xs) n zero = refl
get_or_zeros (x ∷ xs) n (suc k) = get_or_zeros xs n k

off_same : (m r k j : ℕ) → off (all_steps m r) k j ≡ off (steps m r) k j
unfolding off all_steps
off_same m r zero j = refl
off_same m r (suc k) j = ap₂ bit_xor (off_same m r k j) (get_or_zeros (steps m r) (48 - length (steps m r)) (changed_bit (suc k) * 4 + j))

module _ (m r : ℕ) (a : accepted m r ≡ true) (j : ℕ) (h : j < 4) where
  off_row : (k : ℕ) → D.Row m r a j h (off (all_steps m r) k j)
  unfolding off
  off_row zero = record { below = pow_pos (slot_bits m r j); row = refl }
  off_row (suc k) =
      let o = off_row k in
      let s = D.step_row m r a j h (changed_bit (suc k)) in
      record {
        below = B.xor_lt (slot_bits m r j) (off (all_steps m r) k j) (step (all_steps m r) (changed_bit (suc k)) j) o.below s.below;
        row = B.xor_mod (off (all_steps m r) k j) (step (all_steps m r) (changed_bit (suc k)) j) 4 ∙ ap₂ bit_xor o.row s.row;
      }

  -- sixteen lanes from there on
  fits : (k : ℕ) → off (all_steps m r) k j + 16 ≤ 2 ^ slot_bits m r j
  fits k = let o = off_row k in omega (arith, o.below, o.row, D.bits_sixteen m r a j h)

  -- where the slot begins
  begun : start (slots m r) j ≡ start (slots m r) j / 2 ^ slot_bits m r j * 2 ^ slot_bits m r j
  begun = sym (rw (D.begins m r a j h, add-zero) at (div-add-mod' (start (slots m r) j) (2 ^ slot_bits m r j)))

  place_off : (k : ℕ) → place (slots m r) (all_steps m r) k j ≡ start (slots m r) j + off (all_steps m r) k j
  unfolding place off
  place_off zero = omega arith
  place_off (suc k) =
      let b : ℕ = slot_bits m r j in
      let q : ℕ = start (slots m r) j / 2 ^ b in
      let o : off (all_steps m r) k j < 2 ^ b = (off_row k).below in
      let s = (D.step_row m r a j h (changed_bit (suc k))).below in
      let z : step (all_steps m r) (changed_bit (suc k)) j ≡ 0 * 2 ^ b + step (all_steps m r) (changed_bit (suc k)) j = omega arith in
      ap₂ bit_xor (place_off k ∙ ap (λ (x : ℕ). x + off (all_steps m r) k j) begun) z
      ∙ B.xor_block b q 0 (off (all_steps m r) k j) (step (all_steps m r) (changed_bit (suc k)) j) o s
      ∙ ap (λ (x : ℕ). x * 2 ^ b + bit_xor (off (all_steps m r) k j) (step (all_steps m r) (changed_bit (suc k)) j)) (B.xor_zero_r q)
      ∙ ap (λ (x : ℕ). x + bit_xor (off (all_steps m r) k j) (step (all_steps m r) (changed_bit (suc k)) j)) (sym begun)

  -- lane l of a row
  lane : (k l : ℕ) → l < 16 → off (all_steps m r) k j + l ≡ xor (off (steps m r) k j) l
  unfolding xor
  lane k l lt =
      let o : off (all_steps m r) k j ≡ off (all_steps m r) k j / 16 * 2 ^ 4 = omega (arith, (off_row k).row) in
      ap (λ (x : ℕ). x + l) o ∙ sym (B.xor_shifted (off (all_steps m r) k j / 16) 4 l lt) ∙ ap (λ (x : ℕ). bit_xor x l) (sym o ∙ off_same m r k j)

pub walks : Walks
unfolding Walks slots slots_from
walks m r a = record {
  some = D.some_turns m r a;
  few = D.few_turns m r a;
  slots_long = refl;
  steps_long = D.steps_count m r a;
  short = D.places_count m r a;
  sixteens = D.places_sixteens m r a;
  above = λ k j lk h. omega (arith, place_off m r a j h k);
  below = λ k j lk h. omega (arith, place_off m r a j h k, fits m r a j h k, apart m r a j h, pow_mono (D.bits_room m r a j h));
}

-- a walk of one turn has no steps
pub no_steps : (m r : ℕ) → accepted m r ≡ true → turns m r ≡ 1 → replicate 48 0 ≡ all_steps m r
unfolding all_steps steps turns step_count configuration_long message_long bch_dimension long
no_steps m r a e = the_list all_steps (λ m r. eqb (turns m r) 1) tt a (eq-eqb (turns m r) 1 e)

pub spot_visited : SpotVisited
unfolding SpotVisited visited
spot_visited m r size i j places a p li h =
    let l : i % 16 < 16 = mod-lt i (zero-lt-suc 15) in
    let at : spot (slots m r) (all_steps m r) i j ≡ start (slots m r) j + (off (all_steps m r) (i / 16) j + i % 16) = omega (arith, place_off m r a j h (i / 16)) in
    ap (λ (x : ℕ). get_or places x 0) at ∙ p.entries j (off (all_steps m r) (i / 16) j + i % 16) h (omega (arith, fits m r a j h (i / 16), apart m r a j h, pow_mono (D.bits_room m r a j h)))
    ∙ ap (λ (x : ℕ). marked m r j x * 4 + j) (lane m r a j h (i / 16) (i % 16) l)

-- a coset of layer j has as many bits as the layer
deep_enough : (m r i j : ℕ) → accepted m r ≡ true → j < 4 → visited m r i j < 2 ^ D.deep m r j
unfolding visited marked
deep_enough m r i j a h = picked_lt (D.deep m r j) (place_columns m r j) _ (D.column_small m r a j h)

pub visited_inside : VisitedInside
unfolding VisitedInside
visited_inside m r i j a h = omega (arith, deep_enough m r i j a h, pow_mono (D.deep_few m r j))

pub visited_high : VisitedHigh
unfolding VisitedHigh
visited_high m r i j a hm h =
    let none : D.deep m r j ≡ 0 = simp (le-ltb j m hm) in
    let one : visited m r i j < 2 ^ 0 = rw none at (deep_enough m r i j a h) in
    omega arith
