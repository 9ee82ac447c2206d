-- The statements of specs/Promise.antt.
-- Assumes nothing.
use Rattle.basics.proofs.Kit.{◌≡◌, refl, sym, ap, ◌∙◌, List, ◌∷◌, ◌++◌, ℕ, zero, suc, ◌+◌, ◌*◌, ◌≤◌, true, arith, ℤ}
use Rattle.std.proofs.Common.{map, suc-mul, add-mul, add_comm, suc-add, zero-add, zero-mul}
use Rattle.refusal.proofs.Outcomes.{outcome_zero}
use Rattle.code.specs.Code.{code_good, width}
use Rattle.code.specs.Bits.{row_long}
use Rattle.sheet.specs.Sheet.{reliabilities, most, written, all_good}
use Rattle.sheet.specs.Promise.{WrittenRead}
use Rattle.sheet.proofs.Trips.{written_read}
use Rattle.practice.specs.Practice.{row_drawn, after, drawn_from, drawn, state_after}
use Rattle.practice.specs.Calls.{PracticeSays}
use Rattle.practice.specs.Promise.{Practised, PracticeReads, rows, DrawsJoin}
use Rattle.practice.proofs.Draws.{after_sum}
use Rattle.practice.proofs.Questions.{drawn_all_good, drawn_length, accepted}

-- what an accepted call was asked, and what it left
pub record Accepted (c n s t : ℕ) (p : List ℕ) : Type 0 where
  pub known : code_good c ≡ true
  pub few : n ≤ 200
  pub state_is : t ≡ state_after c n s
  pub sheet_is : p ≡ written (drawn c n s)

pub practised : (c n s t : ℕ) (p : List ℕ) → Practised c n s t p → Accepted c n s t p
unfolding Practised PracticeSays
practised c n s t p (o, w) =
    let d = outcome_zero _ _ _ w in
    let a = accepted c n s _ d.0 in
    record { known = a.known; few = a.few; state_is = d.1.0; sheet_is = d.1.1 }

pub practised_good : (c n s t : ℕ) (p : List ℕ) → Practised c n s t p → all_good reliabilities (drawn c n s) ≡ true
unfolding drawn
practised_good c n s t p w = let a = practised c n s t p w in drawn_all_good c n 1 s a.known (omega (arith, a.few))

pub practice_reads : PracticeReads
unfolding PracticeReads WrittenRead drawn most
practice_reads c n s t p w =
    let a = practised c n s t p w in
    rw a.sheet_is (written_read (drawn c n s) (practised_good c n s t p w) (omega (arith, drawn_length c n 1 s, a.few)))

-- rows are drawn alike whatever the numbers
module _ (c : ℕ) where
  abbrev per : ℕ
  per = row_long (width c)

  abbrev rows_from : (i n s : ℕ) → List (List ℤ)
  rows_from i n s = map (λ q. q.row) (drawn_from i c n s)

  same_rows : (n i j s : ℕ) → rows_from i n s ≡ rows_from j n s
  unfolding drawn_from
  same_rows zero i j s = refl
  same_rows (suc n) i j s = ap (λ (l : List (List ℤ)). row_drawn per s ∷ l) (same_rows n (suc i) (suc j) (after per s))

  join_rows : (a b i j s : ℕ) → rows_from i (a + b) s ≡ rows_from i a s ++ rows_from j b (after (a * per) s)
  unfolding drawn_from after
  join_rows zero b i j s = rw (zero-add b, zero-mul per) (same_rows b i j s)
  join_rows (suc a) b i j s =
      let e : after (a * per) (after per s) ≡ after (suc a * per) s = after_sum per (a * per) s ∙ ap (λ (k : ℕ). after k s) (add_comm per (a * per) ∙ sym (suc-mul a per)) in
      rw (suc-add a b, ← e) (ap (λ (l : List (List ℤ)). row_drawn per s ∷ l) (join_rows a b (suc i) j (after per s)))

pub draws_join : DrawsJoin
unfolding DrawsJoin rows PracticeReads drawn state_after
draws_join c a b s t u v x y z p q r =
    let e = (practised c a s t x p).state_is in
    let first = (practice_reads c a s t x p).1 in
    let second = (practice_reads c b t u y q).1 in
    let whole = (practice_reads c (a + b) s v z r).1 in
    let states : after (b * row_long (width c)) (after (a * row_long (width c)) s) ≡ after ((a + b) * row_long (width c)) s =
    after_sum (a * row_long (width c)) (b * row_long (width c)) s ∙ ap (λ (k : ℕ). after k s) (sym (add-mul a b (row_long (width c)))) in (
      rw (first, second, whole, e) (join_rows c a b 1 1 s),
      (practised c (a + b) s v z r).state_is ∙ sym states ∙ ap (after (b * row_long (width c))) (sym e) ∙ sym (practised c b t u y q).state_is,
    )
