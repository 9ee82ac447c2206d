-- The items one after another, as they are taken from the words, and one turn of the loops that fill the outputs.
-- Assumes nothing.
use Rattle.basics.proofs.Kit.{◌≡◌, refl, sym, ap, ◌∙◌, List, ◌∷◌, ◌++◌, ℕ, zero, suc, ◌+◌, ◌-◌, ◌/◌, ◌%◌, ◌≤◌, ◌<◌, min, arith, length, get_or, take, drop, set, ℤ}
use native.Mathlib.Nat.{mod-lt, add-zero, sub-zero, zero-lt-suc}
use native.Mathlib.Numerals.{add-one}
use lib.ListN.{length-set, get_or-map}
use lib.Seq.{get_or-drop, drop-drop, take-suc, take-suc-set, take_all}
use Rattle.sheet.specs.declared.form.Form.{Form}
use Rattle.sheet.specs.Sheet.{body, digits, used, items, count, items_in, row_of, signed_of}
use Rattle.sheet.proofs.Items.{items_in_length}
use Rattle.sheet.proofs.Forms.{count_room, row_of_length}
use Rattle.sheet.proofs.Turns.{count_more}
use Rattle.sheet_reader.specs.declared.items.Spot.{Spot}
use Rattle.sheet_reader.specs.Within.{items_from, spot_items, TakenSays}

module _ (f : Form) where
  module _ (ws : List ℕ) where
    abbrev next_items : (n rest left next : ℕ) → List ℕ
    next_items n v l k = digits f.base (min l n) v ++ items_from f (n - l) (drop k ws)

    of_word : (n v l k : ℕ) → (l ≡ 0 → ⊥) → next_items (suc n) v l k ≡ (v % f.base) ∷ next_items n (v / f.base) (l - 1) k
    unfolding digits
    of_word n v zero k h = absurd (h refl)
    of_word n v (suc l) k h =
        let a : min (suc l) (suc n) ≡ suc (min l n) = omega arith in
        let b : suc n - suc l ≡ n - l = omega arith in
        let c : suc l - 1 ≡ l = omega arith in
        rw (a, b, c)

    new_word : (n v k : ℕ) → next_items (suc n) v 0 k ≡ next_items (suc n) (body (get_or ws k 0)) f.each (k + 1)
    unfolding items_from items_in items used digits
    new_word n v k =
        let a : min 0 (suc n) ≡ 0 = omega arith in
        rw (a, sub-zero, count_more f f.fine.holds (suc n) (zero-lt-suc n), get_or-drop k ws 0 0, add-zero, drop-drop 1 k ws)

    pub taken_on : (s : Spot) → (s.left ≡ 0 → ⊥) → TakenSays f ws s (record { item = s.rest % f.base; rest = s.rest / f.base; left = s.left - 1; next = s.next })
    unfolding spot_items
    taken_on s h = record { is = λ n. of_word n s.rest s.left s.next h; small = mod-lt _ f.fine.some; near = omega arith }

    pub taken_new : (s : Spot) (v : ℕ) → s.left ≡ 0 → v ≡ body (get_or ws s.next 0) → TakenSays f ws s (record { item = v % f.base; rest = v / f.base; left = f.each - 1; next = s.next + 1 })
    unfolding spot_items
    taken_new s v e h = record {
      is = λ n. rw (e, h) (new_word n s.rest s.next ∙ of_word n (body (get_or ws s.next 0)) f.each (s.next + 1) (λ x. absurd (omega (arith, x, f.fine.holds))));
      small = mod-lt _ f.fine.some;
      near = omega arith;
    }

  pub items_from_length : (n : ℕ) (ws : List ℕ) → length (items_from f n ws) ≡ n
  unfolding items_from
  items_from_length n ws = items_in_length f (count f n) n ws (count_room f n)

  pub row_length : (n : ℕ) (ws : List ℕ) → length (row_of f (items_from f n ws)) ≡ n
  row_length n ws = row_of_length f (items_from f n ws) ∙ items_from_length n ws

-- a reader of n items that begin at a word stands before item i
pub record Reading (f : Form) (ws : List ℕ) (at n i : ℕ) (s : Spot) : Type 0 where
  pub holds : drop i (items_from f n (drop at ws)) ≡ spot_items f ws (n - i) s
  pub near : s.next ≤ at + i

module _ {f : Form} {ws : List ℕ} {at n : ℕ} where
  pub reading_first : Reading f ws at n 0 (record { item = 0; rest = 0; left = 0; next = at })
  unfolding spot_items digits
  reading_first = let a : min 0 (n - 0) ≡ 0 = omega arith in record { holds = rw (a, sub-zero, sub-zero); near = omega arith }

  module _ {i : ℕ} {s r : Spot} (h : i < n) (t : TakenSays f ws s r) (d : Reading f ws at n i s) where
    ahead : drop i (items_from f n (drop at ws)) ≡ r.item ∷ spot_items f ws (n - (i + 1)) r
    ahead = let e : n - i ≡ suc (n - (i + 1)) = omega arith in d.holds ∙ rw e (t.is (n - (i + 1)))

    pub item_is : r.item ≡ get_or (items_from f n (drop at ws)) i 0
    item_is = sym (rw (get_or-drop, add-zero) at (ap (λ (l : List ℕ). get_or l 0 0) ahead))

    pub reading_more : Reading f ws at n (i + 1) r
    reading_more = record { holds = rw drop-drop at (ap (drop 1) ahead); near = omega (arith, t.near, d.near) }

pub row_at : (f : Form) (ds : List ℕ) (i : ℕ) → get_or (row_of f ds) i (signed_of f.base 0) ≡ signed_of f.base (get_or ds i 0)
unfolding row_of
row_at f ds i = get_or-map (signed_of f.base) ds i 0

-- an output is filled up to a place
pub record Filled {A : Type 0} (r now : List A) (i : ℕ) : Type 0 where
  pub inside : i ≤ length r
  pub same : length now ≡ length r
  pub holds : take i now ≡ take i r

module _ {A : Type 0} {r now : List A} where
  pub filled_none : length now ≡ length r → Filled r now 0
  filled_none e = record { inside = omega arith; same = e; holds = refl }

  pub filled_more : {i : ℕ} (d x : A) → i < length r → x ≡ get_or r i d → Filled r now i → Filled r (set now i x) (i + 1)
  filled_more {i} d x h q g = record {
    inside = omega arith;
    same = simp length-set g.same;
    holds = rw (add-one, take-suc-set now i x (omega (arith, g.same)), take-suc r i d h, g.holds, q);
  }

  pub filled_all : {i : ℕ} → length r ≤ i → Filled r now i → now ≡ r
  filled_all {i} h g = sym (take_all i now (omega (arith, g.same))) ∙ g.holds ∙ take_all i r h

-- a row of n places, of which so many reliabilities are read
pub record Rowed (f : Form) (ws : List ℕ) (at n : ℕ) (now : List ℤ) (i : ℕ) (s : Spot) : Type 0 where
  pub row : Filled (row_of f (items_from f n (drop at ws))) now i
  pub items : Reading f ws at n i s

module _ {f : Form} {ws : List ℕ} {at n : ℕ} where
  pub row_none : {now : List ℤ} → length now ≡ n → Rowed f ws at n now 0 (record { item = 0; rest = 0; left = 0; next = at })
  row_none e = record { row = filled_none (e ∙ sym (row_length f n _)); items = reading_first }

  pub row_long : {now : List ℤ} {i : ℕ} {s : Spot} → Rowed f ws at n now i s → length now ≡ n
  row_long w = w.row.same ∙ row_length f n _

  pub row_more : {now next : List ℤ} {i : ℕ} {s r : Spot} → i < n →
      TakenSays f ws s r → next ≡ set now i (signed_of f.base r.item) → Rowed f ws at n now i s → Rowed f ws at n next (i + 1) r
  row_more {i = i} h t e w =
      record {
        row = rw e (filled_more (signed_of f.base 0) _ (omega (arith, row_length f n (drop at ws))) (ap (signed_of f.base) (item_is h t w.items) ∙ sym (row_at f _ i)) w.row);
        items = reading_more h t w.items;
      }

  -- the same row, by its own length
  pub row_again : {now : List ℤ} {i : ℕ} {s : Spot} → Rowed f ws at n now i s → Rowed f ws at (length now) now i s
  row_again w = rw (row_long w) w
