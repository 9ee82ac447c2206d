-- The loops that write: after i questions the output begins with their words; what is left of a lent list is the rest of the questions.
-- Assumes nothing.
use Rattle.basics.proofs.Kit.{◌≡◌, refl, sym, ap, ◌∙◌, true, List, [], ◌∷◌, ◌++◌, ℕ, suc, ◌+◌, ◌-◌, ◌*◌, ◌≤◌, ◌<◌, arith, length, get_or, take, drop, ℤ}
use mathlib.Core.List.{append_assoc, append-nil}
use native.Mathlib.Numerals.{add-one}
use borrow.Author.Tests.{ltb-true, leb-true, eqb-true}
use lib.ListN.{length-take, length-drop, length-append, take-append-drop, drop_of_length-le}
use lib.Seq.{drop-cons, take-add, drop-drop, take_all, length-take-le}
use Rattle.refusal.proofs.Tests.{passed, first_none}
use Rattle.code.specs.Code.{width, long}
use Rattle.code.specs.Bits.{row_long}
use Rattle.code.proofs.Accepted.{number_taken}
use Rattle.sheet.specs.declared.form.Form.{Form}
use Rattle.sheet.specs.Sheet.{Question, question, end_kind, most, worded, digits, question_words, all_words, written_in, question_good}
use Rattle.sheet.specs.Within.{RowForm}
use Rattle.sheet.proofs.Items.{both}
use Rattle.sheet.proofs.Longest.{question_length, written_length}
use Rattle.sheet.proofs.Trips.{Good, parts_good}
use Rattle.sheet_writer.specs.Calls.{listed, parts_refusal, asked_refusal, list_refusal, write_refusal}
use Rattle.sheet_writer.specs.Within.{words_needed, begun, ListWithin}
use Rattle.sheet_writer.proofs.Lists.{enough, rest_is, list_step}
use Rattle.sheet_writer.proofs.Packing.{begun_none, begun_length, begun_join, begun_word, begun_all}

all_words_append : (f : Form) (a b : List Question) → all_words f (a ++ b) ≡ all_words f a ++ all_words f b
unfolding all_words
all_words_append f [] b = refl
all_words_append f (q ∷ qs) b = rw (append_assoc, all_words_append f qs b)

-- the question that stands first in what is left
abbrev pub first_of : (c n : ℕ) → List ℤ → List ℕ → Question
first_of c n rs ws = question c n (take (row_long (width c)) rs) (take (long (width c)) ws)

-- as it is lent
pub lent_is : (c n : ℕ) (r : List ℤ) (w : List ℕ) {a b : ℕ} {row : List ℤ} {word : List ℕ} → row ≡ take a r → a ≡ row_long (width c) → word ≡ take b w → b ≡ long (width c) →
    question c n row word ≡ first_of c n r w
lent_is c n r w p e q h = rw (p, e, q, h) refl

-- an output from a place on has room for it, and is written so far
pub part_room : (f : Form) (l : List ℕ) (n : ℕ) {p q : Question} → p ≡ q → n + 4 * length (question_words f q) ≤ length l →
    4 * length (question_words f p) ≤ length (take (length l - n) (drop n l))
part_room f l n e h = rw (e, rest_is l n, length-drop n l) (omega arith)

pub part_is : (l : List ℕ) (n : ℕ) {x y : List ℕ} → x ≡ y → take n l ++ (x ++ drop (length l - n) (drop n l)) ≡ take n l ++ y
part_is l n e = rw (drop_of_length-le (drop n l) {i = length l - n} (omega (arith, length-drop n l)), append-nil, e)

-- an accepted question can be written
pub asked_good : (f : Form) (c n k : ℕ) (rs : List ℤ) (ws : List ℕ) → asked_refusal f c n k rs ws ≡ 0 → Good f (first_of c n rs ws)
unfolding asked_refusal parts_refusal
asked_good f c n k rs ws h =
    let a = first_none _ _ h in
    let b = passed _ _ _ a.1 in
    let d = passed _ _ _ b.1 in
    let e = passed _ _ _ d.1 in
    let g = passed _ _ _ e.1 in
    record {
      known = number_taken c a.0;
      small = let l = ltb-true n _ b.0 in omega arith;
      row_length = length-take-le (row_long (width c)) rs (enough k _ _ d.0);
      row_fine = g.0;
      word_length = length-take-le (long (width c)) ws (enough k _ _ e.0);
      word_fine = (passed _ _ _ g.1).0;
    }

-- and leaves what is left of the rows and of the words
pub room : (f : Form) (c n k : ℕ) (rs : List ℤ) (ws : List ℕ) → asked_refusal f c n k rs ws ≡ 0 → (row_long (width c) ≤ length rs) × (long (width c) ≤ length ws)
room f c n k rs ws h =
    let g = asked_good f c n k rs ws h in
    (omega (arith, simp length-take at g.row_length), omega (arith, simp length-take at g.word_length))

-- how many words the list takes
needed_is : (f : Form) (cs ns : List ℕ) (rs : List ℤ) (ws : List ℕ) → length cs ≡ length ns → length (all_words f (listed cs ns rs ws)) ≡ words_needed f cs
unfolding all_words listed words_needed
needed_is f [] ns rs ws e = refl
needed_is f (c ∷ cs) [] rs ws e = absurd (omega arith)
needed_is f (c ∷ cs) (n ∷ ns) rs ws e = simp (length-append, question_length) (omega (arith, needed_is f cs ns (drop (row_long (width c)) rs) (drop (long (width c)) ws) (omega arith)))

pub listed_length : (cs ns : List ℕ) (rs : List ℤ) (ws : List ℕ) → length cs ≡ length ns → length (listed cs ns rs ws) ≡ length cs
unfolding listed
listed_length [] ns rs ws e = refl
listed_length (c ∷ cs) [] rs ws e = absurd (omega arith)
listed_length (c ∷ cs) (n ∷ ns) rs ws e = ap suc (listed_length cs ns (drop (row_long (width c)) rs) (drop (long (width c)) ws) (omega arith))

pub sheet_long : (f : Form) (cs ns : List ℕ) (rs : List ℤ) (ws : List ℕ) → length cs ≡ length ns → length (written_in f (listed cs ns rs ws)) ≡ 4 * (words_needed f cs + 1)
sheet_long f cs ns rs ws e = rw (written_length, needed_is f cs ns rs ws e)

-- what is not refused can be written
pub accepted : (f : Form) → RowForm f → (cs ns : List ℕ) (rs : List ℤ) (ws : List ℕ) (o : ℕ) → write_refusal f cs ns rs ws o ≡ 0 → ListWithin f cs ns rs ws o
unfolding write_refusal most
accepted f z cs ns rs ws o e =
    let a = passed _ _ _ e in
    let b = both _ _ a.0 in
    let l = first_none _ _ a.1 in
    record {
      form = z;
      same = eqb-true _ _ b.1;
      few = leb-true _ _ b.0;
      taken = l.0;
      room = eqb-true _ _ (passed _ _ _ l.1).0 ∙ written_length f (listed cs ns rs ws);
    }

-- AFTER i QUESTIONS of a list, in an output that has the length of its sheet
pub record Begun (f : Form) (qs : List Question) (o : List ℕ) (i at : ℕ) (out : List ℕ) : Type 0 where
  pub room : length o ≡ 4 * (length (all_words f qs) + 1)
  pub place : at ≡ 4 * length (all_words f (take i qs))
  pub holds : out ≡ begun (all_words f (take i qs)) o

module _ {f : Form} {qs : List Question} {o : List ℕ} where
  pub begin : length o ≡ 4 * (length (all_words f qs) + 1) → Begun f qs o 0 0 o
  unfolding all_words
  begin r = record { room = r; place = refl; holds = sym (begun_none o) }

  module _ {i at : ℕ} {out : List ℕ} (b : Begun f qs o i at out) where
    abbrev so_far : List ℕ
    so_far = all_words f (take i qs)

    parts : length (all_words f qs) ≡ length so_far + length (all_words f (drop i qs))
    parts = ap (λ (l : List Question). length (all_words f l)) (sym (take-append-drop i qs)) ∙ rw (all_words_append f (take i qs) (drop i qs), length-append)

    pub size : length out ≡ length o
    size = ap length b.holds ∙ begun_length so_far o (omega (arith, parts, b.room))

    -- the question that comes next, with those after it
    module _ {q : Question} {after : List Question} (split : drop i qs ≡ q ∷ after) where
      abbrev words : List ℕ
      words = question_words f q

      pub fits_in : at + 4 * length words ≤ length out
      unfolding all_words
      fits_in = omega (arith, size, b.place, parts, b.room, ap (λ (l : List Question). length (all_words f l)) split, length-append words (all_words f after))

      grown : all_words f (take (i + 1) qs) ≡ so_far ++ words
      unfolding all_words
      grown =
          ap (all_words f) (take-add i 1 qs ∙ ap (λ (l : List Question). take i qs ++ take 1 l) split) ∙ all_words_append f (take i qs) (q ∷ [])
          ∙ ap (λ (l : List ℕ). so_far ++ l) (append-nil words)

      pub one_more : {at_now : ℕ} {out_now : List ℕ} → at_now ≡ at + 4 * length words → out_now ≡ take at out ++ begun words (drop at out) → Begun f qs o (i + 1) at_now out_now
      one_more r e = record {
        room = b.room;
        place = omega (arith, b.place, ap length grown, length-append so_far words);
        holds = e ∙ rw (b.place, b.holds, grown) (begun_join so_far words o);
      }

    module _ (h : length qs ≤ i) where
      all_of : take i qs ≡ qs
      all_of = take_all i qs h

      end_place : at ≡ 4 * length (all_words f qs)
      end_place = rw all_of at b.place

      pub end_fits : at + 4 ≤ length out
      end_fits = omega (arith, size, end_place, b.room)

      pub done : {n : ℕ} → n ≡ length qs → take at out ++ (digits 256 4 (worded end_kind n) ++ drop (at + 4) out) ≡ written_in f qs
      unfolding written_in
      done e =
          let w : ℕ = worded end_kind (length qs) in
          rw (e, end_place, b.holds, all_of) (begun_word (all_words f qs) o w ∙ begun_all (all_words f qs ++ w ∷ []) o (b.room ∙ rw length-append))

-- the same of a list that is lent, of whose rows and words so many are left
pub record LentBegun (f : Form) (cs ns : List ℕ) (rs : List ℤ) (ws o : List ℕ) (i : ℕ) (r : List ℤ) (w : List ℕ) (at : ℕ) (out : List ℕ) : Type 0 where
  pub list_in : ListWithin f cs ns rs ws (length o)
  pub refused : list_refusal f (drop i cs) (drop i ns) r w ≡ 0
  pub left : drop i (listed cs ns rs ws) ≡ listed (drop i cs) (drop i ns) r w
  pub written : Begun f (listed cs ns rs ws) o i at out

module _ {f : Form} {cs ns : List ℕ} {rs : List ℤ} {ws o : List ℕ} where
  pub lent_begin : ListWithin f cs ns rs ws (length o) → LentBegun f cs ns rs ws o 0 rs ws 0 o
  lent_begin w = record { list_in = w; refused = w.taken; left = refl; written = begin w.room }

  module _ {i at : ℕ} {r : List ℤ} {w out : List ℕ} (b : LentBegun f cs ns rs ws o i r w at out) where
    abbrev list : List Question
    list = listed cs ns rs ws

    -- the question that comes next
    abbrev pub next_code : ℕ
    next_code = get_or cs i 0

    abbrev pub next : Question
    next = first_of next_code (get_or ns i 0) r w

    module _ (h : i < length cs) where
      other : i < length ns
      other = omega (arith, b.list_in.same)

      asked : (asked_refusal f next_code (get_or ns i 0) (length cs - (i + 1)) r w ≡ 0)
          × (list_refusal f (drop (i + 1) cs) (drop (i + 1) ns) (drop (row_long (width next_code)) r) (drop (long (width next_code)) w) ≡ 0)
      asked = first_none _ _ (sym (list_step f cs ns i r w h other) ∙ b.refused)

      pub next_good : question_good f next ≡ true
      next_good = parts_good f next (asked_good f _ _ _ _ _ asked.0)

      pub rows_left : row_long (width next_code) ≤ length r
      rows_left = (room f _ _ _ _ _ asked.0).0

      pub words_left : long (width next_code) ≤ length w
      words_left = (room f _ _ _ _ _ asked.0).1

      pub rest : List Question
      rest = listed (drop (i + 1) cs) (drop (i + 1) ns) (drop (row_long (width next_code)) r) (drop (long (width next_code)) w)

      pub split : drop i list ≡ next ∷ rest
      unfolding listed rest
      split = b.left ∙ rw (drop-cons cs i 0 h, drop-cons ns i 0 other, add-one)

      pub more : {at_now : ℕ} {out_now : List ℕ} → at_now ≡ at + 4 * length (question_words f next) → out_now ≡ take at out ++ begun (question_words f next) (drop at out) →
          LentBegun f cs ns rs ws o (i + 1) (drop (row_long (width next_code)) r) (drop (long (width next_code)) w) at_now out_now
      unfolding rest
      more p e = record {
        list_in = b.list_in;
        refused = asked.1;
        left = sym (drop-drop 1 i list) ∙ ap (drop 1) split;
        written = one_more b.written split p e;
      }

    pub count : length cs ≡ length list
    count = sym (listed_length cs ns rs ws b.list_in.same)
