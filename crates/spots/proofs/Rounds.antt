-- The turns of a code's walk make whole rounds, and at every turn as many slots change as layers go to another coset.
-- Assumes nothing.
use Rattle.basics.proofs.Kit.{◌≡◌, refl, sym, ap, ◌∙◌, Bool, true, cond, List, ℕ, zero, suc, ◌+◌, ◌-◌, ◌*◌, ◌/◌, ◌%◌, ◌^◌, ◌≤◌, ◌<◌, arith, eqb, leb, ltb, length}
use mathlib.Core.Path.{fun_ext}
use native.Mathlib.Nat.{zero-lt-suc}
use borrow.Author.Tests.{eq-eqb, ne_eqb, lt-ltb, le-ltb}
use lib.Count.{count_trailing_zeros}
use lib.Dec.{T, eqb→eq, leb→le, ltb→lt}
use Rattle.field.specs.Field.{xor}
use Rattle.field.proofs.Tests.{all, at, same_below, eq_below}
use Rattle.field.proofs.Xor as X
use Rattle.code.specs.Code.{accepted, long, message_long, bch_dimension, configuration_long}
use Rattle.split.specs.Members.{picked}
use Rattle.tails.specs.Tails.{place_columns, marked, steps, step_count, turns, off, visited}
use Rattle.tails.proofs.Accepted.{ten, tested}
use Rattle.tails.proofs.Picked.{picked_add}
use Rattle.tails.proofs.Gray.{lowest_lt}
use Rattle.walk.specs.Walk.{sum4, changed_bit, step, place, changes, movers}
use Rattle.spots.specs.Spots.{slots, all_steps, round, layers_changed, layers_a_step}
use Rattle.spots.specs.Promise.{WalksInRounds, ChangesAreLayers, Adjustments}
use Rattle.spots.proofs.Walks.{get_or_zeros}

-- ---- the rounds
abbrev bits : (m r : ℕ) → ℕ
bits m r = changed_bit (round m r)

-- what a step within a round is
abbrev within : (st : List ℕ) → (b j : ℕ) → ℕ
within st b j = cond (ltb j (movers st)) (step st b 0) 0

pub walks_in_rounds : WalksInRounds
unfolding WalksInRounds round all_steps steps turns step_count configuration_long message_long bch_dimension long count_trailing_zeros
walks_in_rounds m r a =
    let st = all_steps m r in
    let e = eq_below (bits m r) 4 (step st) (within st) (tested (λ m r. same_below (bits m r) 4 (step (all_steps m r)) (within (all_steps m r))) tt m r a) in
    let four : movers st ≤ 4 = leb→le (movers st) 4 (tested (λ m r. leb (movers (all_steps m r)) 4) tt m r a) in
    record {
      bits = bits m r;
      few = leb→le (bits m r) 12 (tested (λ m r. leb (bits m r) 12) tt m r a);
      power = eqb→eq (round m r) (2 ^ bits m r) (tested (λ m r. eqb (round m r) (2 ^ bits m r)) tt m r a);
      whole = eqb→eq (turns m r % round m r) 0 (tested (λ m r. eqb (turns m r % round m r) 0) tt m r a);
      changed = λ b h. ltb→lt 0 (step st b 0) (at (bits m r) (λ b. ltb 0 (step st b 0)) (tested (λ m r. all (bits m r) (λ b. ltb 0 (step (all_steps m r) b 0))) tt m r a) b h);
      same = λ b j h l. e b j h (omega (arith, four)) ∙ ap (λ (x : Bool). cond x (step st b 0) 0) (lt-ltb j (movers st) l);
      still = λ b j h l g. e b j h g ∙ ap (λ (x : Bool). cond x (step st b 0) 0) (le-ltb j (movers st) l);
    }

-- ---- the changes: a number that is xored with another stays only where this is 0
abbrev moved : ℕ → ℕ
moved e = cond (eqb e 0) 0 1

stays : (p e : ℕ) → cond (eqb (xor p e) p) 0 1 ≡ moved e
stays p zero = rw (X.zero_r p, eq-eqb p p refl) refl
stays p (suc e) =
    rw (ne_eqb (xor p (suc e)) p (λ h. let z : suc e ≡ 0 = sym (X.cancel p (suc e)) ∙ ap (xor p) h ∙ X.self p in omega arith), ne_eqb (suc e) 0 (λ z. omega arith)) refl

-- the tuple of lane x at the next turn
visited_next : (m r x k j : ℕ) → x < 16 →
    visited m r (suc k * 16 + x) j ≡ xor (visited m r (k * 16 + x) j) (marked m r j (step (all_steps m r) (changed_bit (suc k)) j))
unfolding visited marked off xor all_steps
visited_next m r x k j h =
    let q : (suc k * 16 + x) / 16 ≡ suc k = omega arith in
    let w : (suc k * 16 + x) % 16 ≡ x = omega arith in
    let p : (k * 16 + x) / 16 ≡ k = omega arith in
    let v : (k * 16 + x) % 16 ≡ x = omega arith in
    let o = off (steps m r) k j in
    let e = step (steps m r) (changed_bit (suc k)) j in
    rw (q, w, p, v, get_or_zeros (steps m r) (48 - length (steps m r)) (changed_bit (suc k) * 4 + j))
    (ap (picked (place_columns m r j)) (X.assoc o e x ∙ ap (xor o) (X.comm e x) ∙ sym (X.assoc o x e)) ∙ picked_add (place_columns m r j) (xor o x) e)

-- every step moves as many slots, by places as by what these stand for: t tells what place p of slot j is taken for
abbrev moves : (t : (m r j p : ℕ) → ℕ) → (m r b : ℕ) → ℕ
moves t m r b = sum4 (λ j. moved (t m r j (step (all_steps m r) b j)))

abbrev as_many : (t : (m r j p : ℕ) → ℕ) → (m r : ℕ) → Bool
as_many t m r = all (step_count m r) (λ b. eqb (moves t m r b) (layers_a_step m r))

-- so a count c of what is another number g at a turn than at the one before grows by as much at each
counted : (t : (m r j p : ℕ) → ℕ) → T (ten (as_many t)) → (m r : ℕ) → accepted m r ≡ true →
    (g : (k j : ℕ) → ℕ) → ((k j : ℕ) → g (suc k) j ≡ xor (g k j) (t m r j (step (all_steps m r) (changed_bit (suc k)) j))) →
    (c : ℕ → ℕ) → c 0 ≡ 0 → ((k : ℕ) → c (suc k) ≡ c k + sum4 (λ j. cond (eqb (g (suc k) j) (g k j)) 0 1)) →
    (k : ℕ) → k < turns m r → c k ≡ k * layers_a_step m r
unfolding turns
counted t d m r a g next c none more zero h = omega (arith, none)
counted t d m r a g next c none more (suc k) h =
    let b : ℕ = changed_bit (suc k) in
    let e : sum4 (λ j. cond (eqb (g (suc k) j) (g k j)) 0 1) ≡ moves t m r b =
    ap sum4 (fun_ext (λ j. ap (λ (x : ℕ). cond (eqb x (g k j)) 0 1) (next k j) ∙ stays (g k j) (t m r j (step (all_steps m r) b j)))) in
    let f : moves t m r b ≡ layers_a_step m r = eqb→eq _ _ (at (step_count m r) (λ b. eqb (moves t m r b) (layers_a_step m r)) (tested (as_many t) d m r a) b (lowest_lt (step_count m r) 64 (suc k) (zero-lt-suc k) h)) in
    omega (arith, more k, e, f, counted t d m r a g next c none more k (omega arith))

pub adjustments : Adjustments
unfolding Adjustments changes place xor layers_a_step all_steps steps step_count configuration_long message_long bch_dimension long
adjustments m r k a = counted (λ m r j p. p) tt m r a (place (slots m r) (all_steps m r)) (λ k j. refl) (changes (slots m r) (all_steps m r)) refl (λ k. refl) k

pub changes_are_layers : ChangesAreLayers
unfolding ChangesAreLayers Adjustments layers_changed marked picked place_columns xor layers_a_step all_steps steps step_count configuration_long message_long bch_dimension long
changes_are_layers m r x k a l h =
    adjustments m r k a h
    ∙ sym (counted marked tt m r a (λ k j. visited m r (k * 16 + x) j) (λ k j. visited_next m r x k j l) (layers_changed m r x) refl (λ k. refl) k h)
