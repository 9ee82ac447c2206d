-- The words that hold items one by one, and the words of a question.
-- Assumes nothing.
use Rattle.basics.proofs.Kit.{◌≡◌, refl, sym, ap, ap₂, ◌∙◌, List, [], ◌∷◌, ◌++◌, ℕ, suc, ◌+◌, ◌-◌, ◌*◌, ◌/◌, ◌^◌, ◌≤◌, ◌<◌, arith, length, get_or, take, drop, ℤ}
use native.Mathlib.Nat.{lt_of_lt_of_le, mul_comm, div-eq_of_lt}
use lib.ListN.{length-append}
use lib.Seq.{drop-drop, get_or-drop}
use Rattle.code.proofs.Words.{Below}
use Rattle.sheet.specs.declared.form.Form.{Form}
use Rattle.sheet.specs.Sheet.{question, symbols, head_kind, worded, digits, packed, count, row_items, row_words, symbol_words, items_words, question_words}
use Rattle.sheet.specs.Within.{RowForm}
use Rattle.sheet.proofs.Items.{items_words_length, below_parts}
use Rattle.sheet.proofs.Turns.{count_more}
use Rattle.sheet.proofs.Trips.{Good}
use Rattle.sheet_writer.specs.Within.{begun, begun_at, Items}
use Rattle.sheet_writer.proofs.Packing.{digit_turn, digit_bound, begun_join, begun_one, begun_at_none, begun_at_more}

-- items one by one are below a base
below_each : {b : ℕ} (ds : List ℕ) → ((i : ℕ) → i < length ds → get_or ds i 0 < b) → Below b ds
below_each [] h = tt
below_each (d ∷ ds) h = (h 0 (omega arith), below_each ds (λ i l. h (suc i) (omega (arith, l))))

-- one digit more of a word
module _ {pre : ℕ → Type 0} {post : ℕ → ℕ → Type 0} (f : Form) {ds : List ℕ} (p : Items pre post f.base ds) (from : ℕ) where
  abbrev pub packed_from : ℕ → ℕ
  packed_from i = packed f.base (drop i (take f.each (drop from ds)))

  pub packed_fits : (i : ℕ) → packed_from i < 2 ^ 28
  packed_fits i =
      let g : Below f.base (drop from ds) = (below_parts f.base from ds (below_each ds p.below)).1 in
      lt_of_lt_of_le (digit_bound f.base f.each (drop from ds) i f.fine.some g) f.fine.fits

  pub packed_more : (i v : ℕ) → 0 < i → i ≤ length (take f.each (drop from ds)) → v ≡ packed_from i →
      v * f.base + get_or ds (from + (i - 1)) 0 ≡ packed_from (i - 1)
  packed_more i v h l e =
      sym (digit_turn f.base f.each (drop from ds) i h l ∙ ap₂ (λ (x y : ℕ). x + f.base * y) (get_or-drop from ds (i - 1) 0) (sym e)
      ∙ omega (arith, mul_comm v f.base))

-- n ITEMS AS WORDS from a place on, of which those from an item on are left to write
pub record ItemsBegun (f : Form) (ds : List ℕ) (n at : ℕ) (o : List ℕ) (from to : ℕ) (out : List ℕ) : Type 0 where
  pub room : at + 4 * count f n ≤ length o
  pub size : length out ≡ length o
  pub place : at + 4 * count f n ≡ to + 4 * count f (n - from)
  pub holds : begun_at at (items_words f (count f n) ds) o ≡ begun_at to (items_words f (count f (n - from)) (drop from ds)) out

module _ {f : Form} {ds : List ℕ} {n at : ℕ} {o : List ℕ} where
  pub items_begin : at + 4 * count f n ≤ length o → ItemsBegun f ds n at o 0 at o
  items_begin r = let e : n - 0 ≡ n = omega arith in record { room = r; size = refl; place = rw e; holds = rw e }

  module _ {from to : ℕ} {out : List ℕ} (b : ItemsBegun f ds n at o from to out) where
    module _ (some : 0 < f.each) (h : from < n) where
      one_more : count f (n - from) ≡ suc (count f (n - (from + f.each)))
      one_more = let e : n - from - f.each ≡ n - (from + f.each) = omega arith in count_more f some (n - from) (omega arith) ∙ rw e

      pub word_fits : to + 4 ≤ length out
      word_fits = omega (arith, b.room, b.size, b.place, one_more)

      pub items_next : {w : ℕ} {out_now : List ℕ} → w ≡ worded f.kind (packed f.base (take f.each (drop from ds))) → length out_now ≡ length out →
          out_now ≡ take to out ++ (digits 256 4 w ++ drop (to + 4) out) → ItemsBegun f ds n at o (from + f.each) (to + 4) out_now
      unfolding items_words
      items_next g s e = record {
        room = b.room;
        size = s ∙ b.size;
        place = omega (arith, b.place, one_more);
        holds = b.holds ∙ rw (one_more, drop-drop f.each from ds, e, g) (begun_at_more to _ _ out word_fits);
      }

    pub items_done : 0 < f.each → n ≤ from → (to ≡ at + 4 * count f n) × (out ≡ begun_at at (items_words f (count f n) ds) o)
    unfolding items_words count
    items_done some h =
        let e : n - from ≡ 0 = omega arith in
        let z : (0 + (f.each - 1)) / f.each ≡ 0 = div-eq_of_lt (omega arith) in
        (omega (arith, rw (e, z) at b.place), sym (b.holds ∙ rw (e, z) (begun_at_none to out)))

-- A QUESTION: its head, the words of its row and those of its symbols
module _ {f : Form} {c n : ℕ} {rs : List ℤ} {ws : List ℕ} (z : RowForm f) (g : Good f (question c n rs ws)) where
  abbrev head : List ℕ
  head = (268435456 + (c * 16777216 + n)) ∷ []

  abbrev row_part : List ℕ
  row_part = items_words f (count f (length rs)) (row_items f rs)

  abbrev symbol_part : List ℕ
  symbol_part = items_words symbols (count symbols (length ws)) ws

  parts : (head ++ row_part) ++ symbol_part ≡ question_words f (question c n rs ws)
  unfolding question_words row_words symbol_words worded head_kind
  parts = rw (g.row_length, g.word_length) refl

  pub question_room : length (question_words f (question c n rs ws)) ≡ 1 + count f (length rs) + count symbols (length ws)
  question_room = ap length (sym parts) ∙ simp (length-append, items_words_length) (omega arith)

  pub question_done : (o : List ℕ) {a b d : List ℕ} {at : ℕ} → a ≡ take 0 o ++ (digits 256 4 (268435456 + (c * 16777216 + n)) ++ drop (0 + 4) o) →
      (at ≡ 4 + 4 * count f (length rs)) × (b ≡ begun_at 4 row_part a) → d ≡ begun_at at symbol_part b → d ≡ begun (question_words f (question c n rs ws)) o
  unfolding begun_at
  question_done o e h k =
      let l : 4 + 4 * count f (length rs) ≡ 4 * length (head ++ row_part) = omega (arith, items_words_length f (count f (length rs)) (row_items f rs)) in
      k ∙ rw (h.1, e, begun_one _ o, begun_join head row_part o, h.0, l, begun_join (head ++ row_part) symbol_part o, parts)
