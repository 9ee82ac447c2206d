-- How the places are filled: a slot by doubling, one slot after the other.
-- Assumes nothing.
use Rattle.basics.proofs.Kit.{◌≡◌, refl, sym, ap, ap₂, ◌∙◌, List, ◌++◌, ℕ, zero, suc, ◌+◌, ◌-◌, ◌*◌, ◌^◌, ◌≤◌, ◌<◌, arith, length, get_or, take, drop, set}
use mathlib.Core.Logic.{◌⊎◌, inl, inr}
use native.Mathlib.Nat.{le_of_suc-le-suc, eq-or-lt_of_le}
use lib.ListN.{length-set, length-append, length-take, length-drop, get_or-append, get_or-eq_default}
use lib.Seq.{get_or-set_same, get_or-set_other, get_or-take, get_or-drop, get_or-append-add, length-take-le}
use Rattle.walk.specs.Walk.{start}
use lib.Bits as B
use lib.Bits.{bit_xor}
use native.Mathlib.Nat.{pow-suc}
use lib.Pow.{pow_pos, pow_mono}
use Rattle.tails.proofs.Accepted.{le_or_lt}
use Rattle.field.specs.Field.{xor}
use Rattle.split.specs.Members.{picked}
use Rattle.tails.proofs.Picked.{picked_add, picked_zero, picked_bit}
use Rattle.spots.specs.Filling.{entry, Doubles, Doubled, Slot, Begun, SlotFilled, Slots, SlotsFilled, ten_of}

-- ---- doubling
pub doubled_none : {s h : ℕ} {l : List ℕ} → Doubled s 0 h l l
doubled_none = record { long = refl; kept = λ q lt. refl; again = λ q lt. absurd (omega arith) }

pub doubled_more : {s n h : ℕ} {l₀ l : List ℕ} → Doubled s n h l₀ l → n < s → s + s ≤ length l₀ → Doubled s (suc n) h l₀ (set l (s + n) (bit_xor (get_or l n 0) h))
doubled_more {s} {n} {h} {l₀} {l} d lt room = record {
  long = length-set l (s + n) (bit_xor (get_or l n 0) h) ∙ d.long;
  kept = λ q lq. get_or-set_other l (s + n) q (bit_xor (get_or l n 0) h) 0 (λ e. omega arith) ∙ d.kept q lq;
  again = λ q lq. one q (eq-or-lt_of_le (le_of_suc-le-suc lq));
}
  where
    one : (q : ℕ) → (q ≡ n) ⊎ (q < n) → get_or (set l (s + n) (bit_xor (get_or l n 0) h)) (s + q) 0 ≡ bit_xor (get_or l₀ q 0) h
    one q (inl e) =
        rw e (get_or-set_same l (s + n) (bit_xor (get_or l n 0) h) 0 (omega (arith, d.long)) ∙ ap (λ (x : ℕ). bit_xor x h) (d.kept n lt))
    one q (inr lq) = get_or-set_other l (s + n) (s + q) (bit_xor (get_or l n 0) h) 0 (λ e. omega arith) ∙ d.again q lq

-- ---- a slot: bit b of a place picks column b
picked_more : (es : List ℕ) (b q : ℕ) → q < 2 ^ b → picked es (2 ^ b + q) ≡ bit_xor (picked es q) (get_or es b 0)
unfolding xor
picked_more es b q h =
    let one : 1 * 2 ^ b ≡ 2 ^ b = omega arith in
    ap (picked es) (sym (rw one at (B.xor_shifted 1 b q h))) ∙ picked_add es (2 ^ b) q
    ∙ ap (λ (x : ℕ). bit_xor x (picked es q)) (picked_bit es b) ∙ B.xor_comm (get_or es b 0) (picked es q)

entry_more : (es : List ℕ) (j b q : ℕ) → j < 4 → q < 2 ^ b → bit_xor (entry es j q) (get_or es b 0 * 4) ≡ entry es j (2 ^ b + q)
entry_more es j b q lj h =
    let none : get_or es b 0 * 4 ≡ get_or es b 0 * 2 ^ 2 + 0 = omega arith in
    ap (bit_xor (entry es j q)) none ∙ B.xor_block 2 (picked es q) (get_or es b 0) j 0 lj (omega arith)
    ∙ ap₂ (λ (x y : ℕ). x * 4 + y) (sym (picked_more es b q h)) (B.xor_zero_r j)

pub begun : (es : List ℕ) (j : ℕ) {l : List ℕ} → 0 < length l → Begun es j 0 1 l (set l 0 j)
begun es j {l} h = record {
  power = refl;
  long = length-set l 0 j;
  entries = λ p lp. at p lp;
}
  where
    at : (p : ℕ) → p < 1 → get_or (set l 0 j) p 0 ≡ entry es j p
    at zero lp = get_or-set_same l 0 j 0 h ∙ omega (arith, picked_zero es)
    at (suc p) lp = absurd (omega arith)

pub begun_more : {es : List ℕ} {j b s : ℕ} {l₀ l l' : List ℕ} → Begun es j b s l₀ l → j < 4 → Doubled s s (get_or es b 0 * 4) l l' → Begun es j (suc b) (s + s) l₀ l'
begun_more {es} {j} {b} {s} {l₀} {l} {l'} g lj d = record {
  power = omega (arith, pow-suc 2 b, g.power);
  long = d.long ∙ g.long;
  entries = λ p lp. at p lp (le_or_lt s p);
}
  where
    at : (p : ℕ) → p < s + s → (s ≤ p) ⊎ (p < s) → get_or l' p 0 ≡ entry es j p
    at p lp (inr h) = d.kept p h ∙ g.entries p h
    at p lp (inl h) =
        let q : p ≡ s + (p - s) = omega arith in
        let lq : p - s < s = omega arith in
        let lw : p - s < 2 ^ b = omega (arith, g.power) in
        ap (λ (x : ℕ). get_or l' x 0) q ∙ d.again (p - s) lq ∙ ap (λ (x : ℕ). bit_xor x (get_or es b 0 * 4)) (g.entries (p - s) lq)
        ∙ entry_more es j b (p - s) lj lw ∙ ap (entry es j) (ap (λ (x : ℕ). x + (p - s)) (sym g.power) ∙ sym q)

-- the next doubling stays in the slot
pub sixteen : {es l : List ℕ} {j : ℕ} → Slot es j l → 16 ≤ length l
sixteen w = omega (arith, w.long, pow_mono w.some)

pub doubles : {es l₀ l : List ℕ} {j b s : ℕ} → (w : Slot es j l₀) → Begun es j b s l₀ l → b < w.bits → Doubles es b s l
doubles {b = b} w g h = record {
  bit = omega (arith, w.columns_long, w.few);
  small = w.small b;
  room = omega (arith, w.long, g.long, g.power, pow-suc 2 b, pow_mono h);
}

pub not_full : {es l₀ l : List ℕ} {j b s : ℕ} → (w : Slot es j l₀) → Begun es j b s l₀ l → s < length l → b < w.bits
not_full {b = b} w g h = go (le_or_lt w.bits b)
  where
    go : (w.bits ≤ b) ⊎ (b < w.bits) → b < w.bits
    go (inl k) = absurd (omega (arith, w.long, g.long, g.power, pow_mono k))
    go (inr k) = k

pub some_begun : {es l₀ l : List ℕ} {j b s : ℕ} → Begun es j b s l₀ l → 0 < s
some_begun {b = b} g = omega (arith, g.power, pow_pos b)

pub all_filled : {es l₀ l : List ℕ} {j b s : ℕ} → Begun es j b s l₀ l → length l ≤ s → SlotFilled es j l₀ l
all_filled g h = record { long = g.long; entries = λ p lp. g.entries p (omega (arith, g.long)) }

-- ---- one slot after the other
pub none_filled : {cs sl l : List ℕ} → SlotsFilled 0 cs sl l l
none_filled = record { long = refl; entries = λ j p lj lp. absurd (omega arith) }

-- a bound of all columns is one of those of slot n
pub ten_below : (bound : ℕ) (cs : List ℕ) (n : ℕ) → ((b : ℕ) → get_or cs b 0 < bound) → (b : ℕ) → get_or (ten_of cs n) b 0 < bound
ten_below bound cs n small b = go (le_or_lt 10 b)
  where
    go : (10 ≤ b) ⊎ (b < 10) → get_or (ten_of cs n) b 0 < bound
    go (inl k) = rw (get_or-eq_default (ten_of cs n) 0 {n = b} (omega (arith, length-take 10 (drop (n * 10) cs)))) (omega (arith, small 0))
    go (inr k) = rw (get_or-take 10 (drop (n * 10) cs) b 0 k, get_or-drop (n * 10) cs b 0) (small (n * 10 + b))

module _ {cs sl l₀ : List ℕ} (w : Slots cs sl l₀) where
  -- a slot begins no later than a later one
  rising : (i n : ℕ) → i ≤ n → n ≤ 4 → start sl i ≤ start sl n
  rising i zero h k = let e : i ≡ 0 = omega arith in rw e (omega arith)
  rising i (suc n) h k = go (le_or_lt i n) (λ g. rising i n g (omega arith))
    where
      go : (i ≤ n) ⊎ (n < i) → (i ≤ n → start sl i ≤ start sl n) → start sl i ≤ start sl (suc n)
      go (inl g) f = omega (arith, f g, (w.apart n k).ends)
      go (inr g) f = let e : i ≡ suc n = omega arith in rw e (omega arith)

  -- slot n is a part of the places, and its columns are a part of the columns
  pub record Turn (n next ten : ℕ) (l : List ℕ) : Type 0 where
    pub from_to : start sl n ≤ start sl next
    pub inside : start sl next ≤ length l
    pub slot : Slot (take ten (drop (n * 10) cs)) n (take (start sl next - start sl n) (drop (start sl n) l))

  turn : (n : ℕ) (l : List ℕ) → n < 4 → length l ≡ length l₀ → Turn n (suc n) 10 l
  turn n l h e =
      let g = w.apart n h in
      let up : start sl (suc n) ≤ length l = omega (arith, rising (suc n) 4 h (omega arith), w.ends, g.ends) in
      record {
        from_to = omega (arith, g.ends);
        inside = up;
        slot = record {
          bits = g.bits;
          some = g.some;
          few = g.few;
          long = omega (arith, length-take (start sl (suc n) - start sl n) (drop (start sl n) l), length-drop (start sl n) l, g.ends, up);
          columns_long = omega (arith, length-take 10 (drop (n * 10) cs), length-drop (n * 10) cs, w.columns_long);
          small = ten_below (2 ^ 10) cs n w.small;
          layer = h;
        };
      }

  filled_more : {n : ℕ} {l part : List ℕ} → SlotsFilled n cs sl l₀ l → n < 4 →
      SlotFilled (ten_of cs n) n (take (start sl (suc n) - start sl n) (drop (start sl n) l)) part →
      SlotsFilled (suc n) cs sl l₀ (take (start sl n) l ++ (part ++ drop (start sl (suc n) - start sl n) (drop (start sl n) l)))
  filled_more {n} {l} {part} f h d = record {
    long = whole;
    entries = λ j p lj lp. at j p lp (eq-or-lt_of_le (le_of_suc-le-suc lj));
  }
    where
      a : ℕ
      a = start sl n

      k : ℕ
      k = start sl (suc n) - start sl n

      rest : List ℕ
      rest = drop k (drop a l)

      t : Turn n (suc n) 10 l
      t = turn n l h f.long

      head : length (take a l) ≡ a
      head = length-take-le a l (omega (arith, t.from_to, t.inside))

      part_long : length part ≡ k
      part_long = omega (arith, d.long, length-take k (drop a l), length-drop a l, t.inside)

      whole : length (take a l ++ (part ++ rest)) ≡ length l₀
      whole = omega (arith, length-append (take a l) (part ++ rest), length-append part rest, length-drop k (drop a l), length-drop a l, head, part_long, t.inside, t.from_to, f.long)

      new : (p : ℕ) → p < k → get_or (take a l ++ (part ++ rest)) (a + p) 0 ≡ entry (ten_of cs n) n p
      new p lp =
          ap (λ (x : ℕ). get_or (take a l ++ (part ++ rest)) (x + p) 0) (sym head) ∙ get_or-append-add (take a l) (part ++ rest) p 0
          ∙ get_or-append part rest 0 p (omega (arith, part_long)) ∙ d.entries p (omega (arith, part_long, d.long))

      old : (q : ℕ) → q < a → get_or (take a l ++ (part ++ rest)) q 0 ≡ get_or l q 0
      old q lq = get_or-append (take a l) (part ++ rest) 0 q (omega (arith, head)) ∙ get_or-take a l q 0 lq

      at : (j p : ℕ) → start sl j + p < start sl (suc j) → (j ≡ n) ⊎ (j < n) → get_or (take a l ++ (part ++ rest)) (start sl j + p) 0 ≡ entry (ten_of cs j) j p
      at j p lp (inl e) = rw e (new p (let lq : start sl n + p < start sl (suc n) = rw e at lp in omega arith))
      at j p lp (inr lj) = old (start sl j + p) (omega (arith, rising (suc j) n lj (omega arith))) ∙ f.entries j p lj lp

  -- the same as the code writes it
  pub turn_at : {n next ten : ℕ} {l : List ℕ} → n < 4 → length l ≡ length l₀ → next ≡ suc n → ten ≡ 10 → Turn n next ten l
  turn_at {n} {next} {ten} {l} h e p q = rw (p, q) (turn n l h e)

  pub filled_at : {n next ten : ℕ} {l part : List ℕ} → SlotsFilled n cs sl l₀ l → n < 4 →
      SlotFilled (take ten (drop (n * 10) cs)) n (take (start sl next - start sl n) (drop (start sl n) l)) part → next ≡ suc n → ten ≡ 10 →
      SlotsFilled next cs sl l₀ (take (start sl n) l ++ (part ++ drop (start sl next - start sl n) (drop (start sl n) l)))
  filled_at f h d p q = rw p (filled_more f h (rw (p, q) at d))
