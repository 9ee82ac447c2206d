-- A turn of the second walk, lane by lane, and what the turns so far leave.
-- Assumes nothing.
use Rattle.basics.proofs.Kit.{◌≡◌, refl, sym, Bool, true, false, ◌&&◌, ◌||◌, not, cond, List, ℕ, zero, suc, ◌+◌, ◌*◌, ◌/◌, ◌%◌, ◌≤◌, ◌<◌, arith, eqb, ltb, length}
use mathlib.Core.Bool.{false≢true}
use native.Mathlib.Numerals.{add-one}
use borrow.Author.Tests.{eqb-true, eq-eqb, lt-ltb, le-ltb}
use borrow.Author.Count.{below_more}
use Rattle.lanes.specs.Lanes.{lane}
use Rattle.walk.specs.Walk.{Slots}
use Rattle.walk.specs.declared.At.{At}
use Rattle.walk.specs.Turns.{Each, Standing}
use Rattle.walk.proofs.Turns.{row_in}
use Rattle.ties.specs.Ties.{number_of, words}
use Rattle.ties.specs.Turn.{four, words_at, Inside, earlier, meet, NoneCosts, BeforeAll}

-- a test of the lanes below x, and of one more
pub none_more : {P : ℕ → Type 0} {any one : Bool} {x : ℕ} → (any ≡ false → Each x P) → (one ≡ false → P x) → any || one ≡ false → Each (x + 1) P
none_more {P} {any} {one} {x} = go any one
  where
    go : (any one : Bool) → (any ≡ false → Each x P) → (one ≡ false → P x) → any || one ≡ false → Each (x + 1) P
    go false false h p e = below_more _ _ (h refl) (p refl)
    go false true h p e = absurd (false≢true (sym e))
    go true one h p e = absurd (false≢true (sym e))

-- a lane that does not count
pub not_counted : {t r : ℕ} {before : Bool} {P : Type 0} → (before ≡ true → P) → eqb t r && not before ≡ false → t ≡ r → P
not_counted {t} {r} {before} {P} h e q = go before h (rw (eq-eqb t r q) at e)
  where
    go : (before : Bool) → (before ≡ true → P) → not before ≡ false → P
    go true h e = h refl
    go false h e = absurd (false≢true (sym e))

-- the words of a list one by one
pub one_by_one : (b : List ℕ) → number_of (four (lane b 0) (lane b 1) (lane b 2) (lane b 3)) ≡ number_of b
unfolding number_of
one_by_one b = refl

module _ (r t : ℕ) (v b : List ℕ) where
  pub keep : (t ≡ r → number_of b < number_of v) → earlier r t v b ≡ b
  unfolding earlier
  keep h = go (eqb t r) refl
    where
      go : (q : Bool) → eqb t r ≡ q → cond (q && not (ltb (number_of b) (number_of v))) v b ≡ b
      go true e = rw (lt-ltb (number_of b) (number_of v) (h (eqb-true t r e))) refl
      go false e = refl

  pub take_this : t ≡ r → number_of v ≤ number_of b → earlier r t v b ≡ v
  unfolding earlier
  take_this e h = rw (eq-eqb t r e, le-ltb (number_of b) (number_of v) h) refl

-- LANES of rows, of which the first x are met
module _ (t w a : List ℕ) (r : ℕ) (b : List ℕ) where
  pub meet_more : (x : ℕ) → meet t w a r b (x + 1) ≡ earlier r (lane t x) (words_at w a x) (meet t w a r b x)
  unfolding meet
  meet_more x = rw (add-one x) refl

  -- where b comes before each that counts, none is taken
  passed : BeforeAll t w a r b 16 → (x : ℕ) → x ≤ 16 → meet t w a r b x ≡ b
  unfolding meet
  passed h zero l = refl
  passed h (suc x) l = rw (passed h x (omega arith)) (keep r (lane t x) (words_at w a x) b (h x (omega arith)))

  pub pass : BeforeAll t w a r b 16 → b ≡ meet t w a r b 16
  pass h = sym (passed h 16 (omega arith))

  pub pass_none : NoneCosts t r 16 → b ≡ meet t w a r b 16
  pass_none h = pass (λ x l e. absurd (h x l e))

-- TURN k: the words of its lanes, and where its rows lie
module _ {f sl st : List ℕ} {k : ℕ} {a : At} (s : Standing f sl st k a) where
  pub lane_words : (w : List ℕ) (x : ℕ) → x < 16 → words w sl st (k * 16 + x) ≡ words_at w a.places x
  lane_words w x l =
      let d : (k * 16 + x) / 16 ≡ k = omega arith in
      let m : (k * 16 + x) % 16 ≡ x = omega arith in
      rw (s.at 0 (omega arith), s.at 1 (omega arith), s.at 2 (omega arith), s.at 3 (omega arith)) (simp (d, m))

  pub rows_of : {n len : ℕ} → Slots n f sl st → k < n → len ≡ length f → Inside len a.places
  rows_of {n} {len} z l e = record { in0 = row 0 (omega arith); in1 = row 1 (omega arith); in2 = row 2 (omega arith); in3 = row 3 (omega arith) }
    where
      row : (j : ℕ) → j < 4 → lane a.places j + 16 ≤ len
      row j lj = omega (arith, e, s.at j lj, row_in z k j l lj)
