-- A walk of one turn: the places that are written are those of the code.
-- Assumes nothing.
use Rattle.basics.proofs.Kit.{◌≡◌, sym, ap, ◌∙◌, Bool, true, ◌&&◌, List, [], ◌++◌, ℕ, suc, ◌+◌, arith, eqb, length, get_or, take, drop}
use mathlib.Core.List.{append-nil}
use borrow.Author.Tests.{eq-eqb}
use lib.Dec.{T, eqb→eq}
use lib.ListN.{drop_of_length-le, length-drop}
use lib.Seq.{sets, sets-eq}
use Rattle.field.specs.Field.{xor}
use Rattle.field.proofs.Tests.{all, at, and_l, and_r}
use Rattle.code.specs.Code.{accepted, bch_dimension, configuration_long, long, message_long}
use Rattle.split.specs.Members.{picked}
use Rattle.tails.specs.Tails.{place_columns, step_count, turns}
use Rattle.walk.specs.Walk.{start}
use Rattle.spots.specs.Spots.{slot_bits, room_from, slots_from, slots}
use Rattle.spots.specs.Filling.{ten_columns, all_place_columns, ten_of, entry, SlotsFilled, nine_columns, packed, eight_twice, short_column, short_places}
use Rattle.spots.proofs.Cases.{case, the_number}

-- a list that is as long as what is stored
pub all_stored : (vs l : List ℕ) → length l ≡ length vs → sets l 0 vs ≡ vs
all_stored vs l e = sets-eq vs l 0 (omega arith) ∙ rw (drop_of_length-le l {i = 0 + length vs} (omega arith)) (append-nil vs)

pub with_columns : (x : ℕ) {l : List ℕ} {a b c a' b' c' : ℕ} → l ≡ eight_twice a b c x → a ≡ a' → b ≡ b' → c ≡ c' → l ≡ eight_twice a' b' c' x
with_columns x e f g h = cc

abbrev put : ℕ → List ℕ → List ℕ → List ℕ
put n l part = take n l ++ (part ++ drop 16 (drop n l))

-- four slots, each put into its part
pub all_put : (w : ℕ) (l : List ℕ) {p q s t : List ℕ} → length l ≡ 64 →
    p ≡ eight_twice (short_column w 0) (short_column w 1) (short_column w 2) 0 → q ≡ eight_twice (short_column w 3) (short_column w 4) (short_column w 5) 1 →
    s ≡ eight_twice (short_column w 6) (short_column w 7) (short_column w 8) 2 → t ≡ eight_twice 0 0 0 3 →
    put 48 (put 32 (put 16 (put 0 l p) q) s) t ≡ short_places w
unfolding eight_twice short_places
all_put w l e a b c d =
    let none : drop 16 (drop 16 (drop 16 (drop 16 l))) ≡ [] = drop_of_length-le (drop 16 (drop 16 (drop 16 l))) {i = 16} (simp length-drop (omega arith)) in
    rw (a, b, c, d) (ap (λ (rest : List ℕ). short_places w ++ rest) none)

-- tests: slot j has sixteen places, and place p has its entry
sixteen : (m r j : ℕ) → Bool
sixteen m r j = eqb (start (slots m r) (suc j)) (start (slots m r) j + 16)

right : (m r j p : ℕ) → Bool
right m r j p = eqb (get_or (short_places (packed (nine_columns r))) (start (slots m r) j + p) 0) (entry (ten_of (all_place_columns m r) j) j p)

module _ (m r : ℕ) (a : accepted m r ≡ true) (one : turns m r ≡ 1) where
  pub width : 3 ≡ m
  unfolding turns step_count configuration_long message_long bch_dimension long
  width = the_number (λ m r. m) (λ m r. eqb (turns m r) 1) tt a (eq-eqb (turns m r) 1 one)

  pub sixty_four : 64 ≡ start (slots m r) 4
  unfolding turns step_count configuration_long message_long bch_dimension long slots slots_from room_from slot_bits place_columns
  sixty_four = the_number (λ m r. start (slots m r) 4) (λ m r. eqb (turns m r) 1) tt a (eq-eqb (turns m r) 1 one)

  all_right : T (all 4 (λ j. sixteen m r j && all 16 (right m r j)))
  unfolding sixteen right turns step_count configuration_long message_long bch_dimension long slots slots_from room_from slot_bits place_columns all_place_columns ten_columns nine_columns packed eight_twice short_places picked xor
  all_right = case (λ m r. eqb (turns m r) 1) (λ m r. all 4 (λ j. sixteen m r j && all 16 (right m r j))) tt m r a (eq-eqb (turns m r) 1 one)

  pub short_filled : (before : List ℕ) → length before ≡ start (slots m r) 4 →
      SlotsFilled 4 (all_place_columns m r) (slots m r) before (short_places (packed (nine_columns r)))
  unfolding sixteen right eight_twice short_places
  short_filled before e = record {
    long = sixty_four ∙ sym e;
    entries = λ j p lj lp.
        let t = at 4 (λ j. sixteen m r j && all 16 (right m r j)) all_right j lj in
        let f : start (slots m r) (suc j) ≡ start (slots m r) j + 16 = eqb→eq _ _ (and_l (sixteen m r j) _ t) in
        eqb→eq _ _ (at 16 (right m r j) (and_r (sixteen m r j) _ t) p (omega arith));
  }
