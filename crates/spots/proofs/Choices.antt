-- What a code's walk has, by tests of m and r in the order in which the functions ask, so that the check finds each of their returns by itself.
-- Assumes nothing.
use Rattle.basics.proofs.Kit.{◌≡◌, sym, true, cond, List, [], ◌∷◌, ℕ, ◌%◌, eqb}
use lib.Dec.{eqb→eq}
use borrow.Author.Tests.{eq-eqb}
use Rattle.code.specs.Code.{accepted, long, bch_dimension, configuration_long, message_long}
use Rattle.tails.specs.Tails.{place_columns, steps, step_count, turns}
use Rattle.tails.proofs.Accepted.{tested}
use Rattle.spots.specs.Spots.{slot_bits, room_from, slots_from, slots, all_steps, round}
use Rattle.spots.specs.Filling.{nine_columns, packed}
use Rattle.spots.proofs.Cases.{alike, alike_same, case}

abbrev slots_asked : (m r : ℕ) → List ℕ
slots_asked m r =
    cond (eqb m 3)
    (cond (eqb r 3) (0 ∷ 128 ∷ 256 ∷ 320 ∷ 336 ∷ []) (cond (eqb (r % 3) 1) (0 ∷ 64 ∷ 128 ∷ 144 ∷ 160 ∷ []) (0 ∷ 16 ∷ 32 ∷ 48 ∷ 64 ∷ [])))
    (cond (eqb r 1) (0 ∷ 256 ∷ 512 ∷ 768 ∷ 784 ∷ [])
    (cond (eqb r 2) (0 ∷ 128 ∷ 192 ∷ 256 ∷ 320 ∷ []) (cond (eqb r 4) (0 ∷ 256 ∷ 512 ∷ 768 ∷ 1024 ∷ []) (0 ∷ 1024 ∷ 2048 ∷ 3072 ∷ 4096 ∷ []))))

pub slots_are : (m r : ℕ) → accepted m r ≡ true → slots m r ≡ slots_asked m r
unfolding slots slots_from room_from slot_bits place_columns
slots_are m r a = sym (alike_same _ _ (tested (λ m r. alike (slots_asked m r) (slots m r)) tt m r a))

-- those of a code that has the same
abbrev steps_asked : (m r : ℕ) → List ℕ
steps_asked m r =
    cond (eqb m 3)
    (cond (eqb r 3) (all_steps 3 3) (cond (eqb (r % 3) 1) (all_steps 3 1) (all_steps 3 2)))
    (cond (eqb r 1) (all_steps 4 1) (cond (eqb r 2) (all_steps 4 2) (cond (eqb r 4) (all_steps 4 4) (all_steps 4 6))))

pub steps_are : (m r : ℕ) → accepted m r ≡ true → all_steps m r ≡ steps_asked m r
unfolding all_steps steps
steps_are m r a = sym (alike_same _ _ (tested (λ m r. alike (steps_asked m r) (all_steps m r)) tt m r a))

abbrev turns_asked : (m r : ℕ) → ℕ
turns_asked m r = cond (eqb m 3) (cond (eqb r 3) 32 (cond (eqb (r % 3) 1) 4 1)) (cond (eqb r 1) 256 (cond (eqb r 2) 16 4096))

pub turns_are : (m r : ℕ) → accepted m r ≡ true → turns m r ≡ turns_asked m r
unfolding turns step_count configuration_long message_long bch_dimension long
turns_are m r a = sym (eqb→eq _ _ (tested (λ m r. eqb (turns_asked m r) (turns m r)) tt m r a))

abbrev round_asked : (m r : ℕ) → ℕ
round_asked m r = cond (eqb m 3) (cond (eqb r 3) 8 (cond (eqb (r % 3) 1) 4 1)) (cond (eqb r 2) 4 (cond (eqb r 6) 64 16))

pub round_is : (m r : ℕ) → accepted m r ≡ true → round m r ≡ round_asked m r
unfolding round
round_is m r a = sym (eqb→eq _ _ (tested (λ m r. eqb (round_asked m r) (round m r)) tt m r a))

abbrev packed_asked : (r : ℕ) → ℕ
packed_asked r = cond (eqb r 2) 1996854969000069 (cond (eqb r 5) 6704459381163661 0)

pub packed_is : (r : ℕ) → accepted 3 r ≡ true → turns 3 r ≡ 1 → packed (nine_columns r) ≡ packed_asked r
unfolding packed nine_columns place_columns turns step_count configuration_long message_long bch_dimension long
packed_is r a o = sym (eqb→eq _ _ (case (λ m r. eqb (turns m r) 1) (λ m r. eqb (packed_asked r) (packed (nine_columns r))) tt 3 r a (eq-eqb (turns 3 r) 1 o)))
