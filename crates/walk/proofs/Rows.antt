-- Numbers written one by one: a list made so, a run of them in a list, and rows lowered.
-- Assumes nothing.
use Rattle.basics.proofs.Kit.{◌≡◌, refl, ap, ◌∙◌, Bool, true, false, cond, List, ℕ, zero, suc, ◌+◌, ◌-◌, ◌≤◌, ◌<◌, min, arith, length, get_or, set}
use native.Mathlib.Numerals.{add-one}
use native.Mathlib.Decide.{dec_le}
use lib.ListN.{length-set}
use lib.Seq.{get_or-set_same, get_or-set_other}
use Rattle.lanes.specs.Lanes.{lane, limit}
use Rattle.walk.specs.Turns.{Each, Small, fill, low, lows}

-- the first x of n numbers are those of F
pub record Made (n : ℕ) (F : ℕ → ℕ) (x : ℕ) (r : List ℕ) : Type 0 where
  pub within : x ≤ n
  pub long : length r ≡ n
  pub done : Each x (λ y. get_or r y 0 ≡ F y)

pub made_start : {n : ℕ} {F : ℕ → ℕ} {r : List ℕ} → length r ≡ n → Made n F 0 r
made_start e = record { within = omega arith; long = e; done = λ y l. absurd (omega arith) }

pub made_more : {n : ℕ} {F : ℕ → ℕ} {x : ℕ} {r : List ℕ} {v : ℕ} → Made n F x r → x < n → v ≡ F x → Made n F (x + 1) (set r x v)
made_more {n} {F} {x} {r} {v} m l e = record { within = omega arith; long = length-set r x v ∙ m.long; done = λ y ly. go y ly (dec_le x y) }
  where
    go : (y : ℕ) → y < x + 1 → Dec (x ≤ y) → get_or (set r x v) y 0 ≡ F y
    go y ly (yes a) =
        let d : y ≡ x = omega arith in
        rw d (get_or-set_same r x v 0 (omega (arith, m.long)) ∙ e)
    go y ly (no a) = get_or-set_other r x y v 0 (λ d. omega arith) ∙ m.done y (omega arith)

pub made_end : {n : ℕ} {F : ℕ → ℕ} {x : ℕ} {r : List ℕ} → Made n F x r → n ≤ x → Each n (λ y. get_or r y 0 ≡ F y)
made_end m l y ly = m.done y (omega arith)

-- a run of numbers written from place p on
module _ (g : List ℕ) (p : ℕ) (v : ℕ → ℕ) where
  pub fill_length : (n : ℕ) → length (fill g p v n) ≡ length g
  unfolding fill
  fill_length zero = refl
  fill_length (suc n) = length-set (fill g p v n) (p + n) (v n) ∙ fill_length n

  pub fill_other : (n c : ℕ) → Each n (λ x. c ≡ p + x → ⊥) → get_or (fill g p v n) c 0 ≡ get_or g c 0
  unfolding fill
  fill_other zero c h = refl
  fill_other (suc n) c h = get_or-set_other (fill g p v n) (p + n) c (v n) 0 (h n (omega arith)) ∙ fill_other n c (λ x l. h x (omega arith))

  pub fill_at : (n x : ℕ) → p + n ≤ length g → x < n → get_or (fill g p v n) (p + x) 0 ≡ v x
  unfolding fill
  fill_at zero x l lx = absurd (omega arith)
  fill_at (suc n) x l lx = go (fill_at n x (omega arith)) (dec_le n x)
    where
      go : (x < n → get_or (fill g p v n) (p + x) 0 ≡ v x) → Dec (n ≤ x) → get_or (set (fill g p v n) (p + n) (v n)) (p + x) 0 ≡ v x
      go h (yes a) =
          let e : x ≡ n = omega arith in
          rw e (get_or-set_same (fill g p v n) (p + n) (v n) 0 (omega (arith, fill_length n)))
      go h (no a) = get_or-set_other (fill g p v n) (p + n) (p + x) (v n) 0 (λ e. omega arith) ∙ h (omega arith)

-- what the row at p is lowered to
abbrev to : (g : List ℕ) → (p : ℕ) → (t : List ℕ) → ℕ → ℕ
to g p t x = min (get_or g (p + x) 0) (lane t x)

-- the row at p of g lowered as far as lane x
pub record Lowering (g : List ℕ) (p : ℕ) (t : List ℕ) (x : ℕ) (h : List ℕ) : Type 0 where
  pub within : x ≤ 16
  pub is : h ≡ fill g p (to g p t) x

pub low_start : {g : List ℕ} {p : ℕ} {t : List ℕ} → Lowering g p t 0 g
unfolding fill
low_start = record { within = omega arith; is = refl }

module _ {g : List ℕ} {p : ℕ} {t : List ℕ} {x : ℕ} {h : List ℕ} (m : Lowering g p t x h) where
  pub low_long : length h ≡ length g
  low_long = ap length m.is ∙ fill_length g p (to g p t) x

  -- the number at the next lane is still g's
  pub low_next : get_or h (p + x) 0 ≡ get_or g (p + x) 0
  low_next = ap (λ (l : List ℕ). get_or l (p + x) 0) m.is ∙ fill_other g p (to g p t) x (p + x) (λ y l e. omega arith)

  pub low_more : {v : ℕ} → x < 16 → v ≡ min (get_or h (p + x) 0) (lane t x) → Lowering g p t (x + 1) (set h (p + x) v)
  unfolding fill
  low_more {v} l e = record {
    within = omega arith;
    is = rw (m.is, e ∙ ap (λ (y : ℕ). min y (lane t x)) low_next, add-one x) refl;
  }

  pub low_end : 16 ≤ x → h ≡ low g p t
  unfolding low
  low_end l = m.is ∙ ap (fill g p (to g p t)) (omega arith)

-- one row lowered
module _ (g : List ℕ) (p : ℕ) (t : List ℕ) where
  pub low_length : length (low g p t) ≡ length g
  unfolding low
  low_length = fill_length g p (to g p t) 16

  pub low_other : (c : ℕ) → (p ≤ c → c < p + 16 → ⊥) → get_or (low g p t) c 0 ≡ get_or g c 0
  unfolding low
  low_other c n = fill_other g p (to g p t) 16 c (λ x l e. n (omega arith) (omega arith))

  pub low_at : (x : ℕ) → p + 16 ≤ length g → x < 16 → get_or (low g p t) (p + x) 0 ≡ min (get_or g (p + x) 0) (lane t x)
  unfolding low
  low_at x l lx = fill_at g p (to g p t) 16 x l lx

  pub low_small : p + 16 ≤ length g → Small g → Each 16 (λ x. lane t x < limit) → Small (low g p t)
  low_small l s k c lc = go (dec_le p c) (dec_le (p + 16) c)
    where
      go : Dec (p ≤ c) → Dec (p + 16 ≤ c) → get_or (low g p t) c 0 < limit
      go (yes a) (no b) =
          let e : c ≡ p + (c - p) = omega arith in
          rw e (omega (arith, low_at (c - p) l (omega arith), k (c - p) (omega arith)))
      go (no a) b = rw (low_other c (λ h i. omega arith)) (s c (omega (arith, low_length)))
      go (yes a) (yes b) = rw (low_other c (λ h i. omega arith)) (s c (omega (arith, low_length)))

-- the rows at n of the places a lowered, from place i of them on
module _ (g a t : List ℕ) (i : ℕ) where
  pub lows_length : (n : ℕ) → length (lows g a t i n) ≡ length g
  unfolding lows
  lows_length zero = refl
  lows_length (suc n) = low_length (lows g a t i n) (lane a (i + n)) t ∙ lows_length n

  -- where no row is
  pub lows_other : (n c : ℕ) → Each n (λ j. lane a (i + j) ≤ c → c < lane a (i + j) + 16 → ⊥) → get_or (lows g a t i n) c 0 ≡ get_or g c 0
  unfolding lows
  lows_other zero c h = refl
  lows_other (suc n) c h = low_other (lows g a t i n) (lane a (i + n)) t c (h n (omega arith)) ∙ lows_other n c (λ j l. h j (omega arith))

  -- in the row at place j, where no other row is
  pub lows_at : (n j x : ℕ) → j < n → x < 16 → lane a (i + j) + 16 ≤ length g →
      Each n (λ h. (h ≡ j → ⊥) → lane a (i + h) ≤ lane a (i + j) + x → lane a (i + j) + x < lane a (i + h) + 16 → ⊥) →
      get_or (lows g a t i n) (lane a (i + j) + x) 0 ≡ min (get_or g (lane a (i + j) + x) 0) (lane t x)
  unfolding lows
  lows_at zero j x lj lx l h = absurd (omega arith)
  lows_at (suc n) j x lj lx l h = go (dec_le n j) (λ b. lows_at n j x b lx l (λ y ly. h y (omega arith)))
    where
      go : Dec (n ≤ j) → (j < n → get_or (lows g a t i n) (lane a (i + j) + x) 0 ≡ min (get_or g (lane a (i + j) + x) 0) (lane t x)) →
          get_or (low (lows g a t i n) (lane a (i + n)) t) (lane a (i + j) + x) 0 ≡ min (get_or g (lane a (i + j) + x) 0) (lane t x)
      go (yes b) ih =
          let e : j ≡ n = omega arith in
          let same : get_or (lows g a t i n) (lane a (i + n) + x) 0 ≡ get_or g (lane a (i + n) + x) 0 = lows_other n (lane a (i + n) + x) (λ y ly c d. h y (omega arith) (λ z. omega arith) (rw e c) (rw e d)) in
          rw e (low_at (lows g a t i n) (lane a (i + n)) t x (rw (lows_length n, ← e) l) lx ∙ ap (λ (y : ℕ). min y (lane t x)) same)
      go (no b) ih = low_other (lows g a t i n) (lane a (i + n)) t (lane a (i + j) + x) (h n (omega arith) (λ e. omega arith)) ∙ ih (omega arith)

  module _ (l : Each 4 (λ j. lane a j + 16 ≤ length g)) (s : Small g) (k : Each 16 (λ x. lane t x < limit)) where
    pub lows_small : (n : ℕ) → i + n ≤ 4 → Small (lows g a t i n)
    unfolding lows
    lows_small zero h = s
    lows_small (suc n) h = low_small (lows g a t i n) (lane a (i + n)) t (rw (lows_length n) (l (i + n) (omega arith))) (lows_small n (omega arith)) k

    -- what one row more asks
    pub asks : (n : ℕ) → i + n < 4 → (h : List ℕ) → h ≡ lows g a t i n → (lane a (i + n) + 16 ≤ length h) × (Small h × Each 16 (λ x. lane t x < limit))
    asks n l4 h e = rw e (rw (lows_length n) (l (i + n) l4), (lows_small n (omega arith), k))

-- the same where marginals are asked for, and else none
pub marked_length : (g a t : List ℕ) (i n : ℕ) (soft : Bool) {h : List ℕ} → h ≡ cond soft (lows g a t i n) g → length h ≡ length g
marked_length g a t i n true e = rw e (lows_length g a t i n)
marked_length g a t i n false e = rw e refl

-- rows lowered one after the other where marginals are asked for
pub asked_rows : (g a t : List ℕ) (i : ℕ) {soft : Bool} (n : ℕ) {h : List ℕ} → h ≡ lows g a t i n → soft ≡ true → h ≡ cond soft (lows g a t i n) g
asked_rows g a t i n e s = rw s e
