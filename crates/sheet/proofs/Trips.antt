-- Both round trips, question by question, for any form of the reliabilities.
-- Assumes nothing.
use Rattle.basics.proofs.Kit.{◌≡◌, refl, sym, ap, ap₂, ◌∙◌, true, ◌&&◌, List, [], ◌∷◌, ◌++◌, ℕ, zero, suc, ◌+◌, ◌-◌, ◌*◌, ◌%◌, ◌^◌, ◌≤◌, ◌<◌, arith, length, drop}
use mathlib.Core.List.{append_assoc}
use native.Mathlib.Nat.{mod-lt, mod-eq_of_lt, div-eq_of_lt, zero-lt-suc}
use borrow.Author.Tests.{eqb-true, eq-eqb, ltb-true, lt-ltb}
use lib.Dec.{lit<, lit≤}
use lib.Seq.{drop_at}
use Rattle.refusal.specs.Refusal.{unless, first}
use Rattle.refusal.proofs.Tests.{passed, first_none}
use Rattle.code.specs.Code.{code_good, width, long, symbols_good}
use Rattle.code.specs.Bits.{row_long}
use Rattle.code.proofs.Words.{Below}
use Rattle.code.proofs.Promise.{codes, few_codes}
use Rattle.code.proofs.Accepted.{number_taken, number_free}
use Rattle.metric.specs.Row.{row_good}
use Rattle.sheet.specs.declared.form.Form.{Form}
use Rattle.sheet.specs.Sheet.{Question, question, reliabilities, symbols, head_kind, end_kind, most, numbers, worded, kind, body, head_code, low, row_items, row_of, sheet_bound, row_words, symbol_words, items_words, items_in, question_words, all_words, as_bytes, written_in, as_words, row_refusal, symbol_refusal, after_row, after, question_refusal, head_refusal, end_refusal, next_refusal, rest_refusal, sheet_refusal, question_in, questions_from, questions, question_good, all_good}
use Rattle.sheet.specs.Within.{RowForm}
use Rattle.sheet.specs.Promise.{WrittenRead, ReadWritten}
use Rattle.sheet.proofs.Items.{both, empty, below_join, items_words_below, kind_worded, body_worded, items_words_length, written_accepted, written_back, accepted_back}
use Rattle.sheet.proofs.Forms.{row_form, row_tested, symbol_tested, items_below, row_back, items_back, row_items_length, row_of_length, symbols_below, row_room, symbol_room}
use Rattle.sheet.proofs.Bytes.{bytes_length, as_words_bytes, as_bytes_words}
use Rattle.sheet.proofs.Turns.{Rest, ends, asks, rest_parts}

-- what a question that a sheet can hold has
pub record Good (f : Form) (q : Question) : Type 0 where
  pub known : code_good q.code ≡ true
  pub small : q.number < 2 ^ 24
  pub row_length : length q.row ≡ row_long (width q.code)
  pub row_fine : row_good (sheet_bound f) q.row ≡ true
  pub word_length : length q.word ≡ long (width q.code)
  pub word_fine : symbols_good (width q.code) q.word ≡ true

pub good_parts : (f : Form) (q : Question) → question_good f q ≡ true → Good f q
unfolding question_good
good_parts f q g =
    let a = both _ _ g in
    let b = both _ _ a.1 in
    let c = both _ _ b.1 in
    let d = both _ _ c.1 in
    let e = both _ _ d.1 in
    record { known = a.0; small = ltb-true _ _ b.0; row_length = eqb-true _ _ c.0; row_fine = d.0; word_length = eqb-true _ _ e.0; word_fine = e.1 }

pub parts_good : (f : Form) (q : Question) → Good f q → question_good f q ≡ true
unfolding question_good
parts_good f q g = rw (g.known, lt-ltb _ _ g.small, eq-eqb _ _ g.row_length, g.row_fine, eq-eqb _ _ g.word_length, g.word_fine)

pub code_lt : (c : ℕ) → code_good c ≡ true → c < 16
code_lt c g = omega (arith, few_codes c g)

pub width_le : (c : ℕ) → code_good c ≡ true → width c ≤ 4
unfolding width
width_le = codes (λ c. width c ≤ 4) (lit≤ tt) (lit≤ tt) (lit≤ tt) (lit≤ tt) (lit≤ tt)

-- a word that is a head or an end: of a kind, with a code and a number
module _ (k c n : ℕ) (hc : c < 16) (hn : n < 2 ^ 24) where
  small_body : c * 2 ^ 24 + n < 2 ^ 28
  small_body = omega arith

  head_kind_is : kind (worded k (c * numbers + n)) ≡ k
  head_kind_is = kind_worded k (c * 2 ^ 24 + n) small_body

  head_code_is : head_code (worded k (c * numbers + n)) ≡ c
  head_code_is = rw (body_worded k (c * 2 ^ 24 + n) small_body) (omega arith)

  head_low_is : low (worded k (c * numbers + n)) ≡ n
  head_low_is = rw (body_worded k (c * 2 ^ 24 + n) small_body) (omega arith)

  head_lt : k < 16 → worded k (c * numbers + n) < 2 ^ 32
  unfolding worded
  head_lt h = omega arith

-- A QUESTION THAT WAS WRITTEN, with anything after it
abbrev row_part : Form → Question → List ℕ
row_part f q = items_words f (row_words f (width q.code)) (row_items f q.row)

abbrev word_part : Question → List ℕ
word_part q = items_words symbols (symbol_words (width q.code)) q.word

abbrev head_of : Question → ℕ
head_of q = worded head_kind (q.code * numbers + q.number)

module _ {f : Form} (z : RowForm f) (q : Question) (g : Good f q) (rest : List ℕ) where
  abbrev m : ℕ
  m = width q.code

  abbrev whole : List ℕ
  whole = row_part f q ++ (word_part q ++ rest)

  past_row : after_row f m whole ≡ word_part q ++ rest
  unfolding after_row
  past_row = drop_at (row_part f q) (word_part q ++ rest) (row_words f m) (items_words_length f (row_words f m) (row_items f q.row))

  past_question : after f m whole ≡ rest
  unfolding after
  past_question = rw past_row (drop_at (word_part q) rest (symbol_words m) (items_words_length symbols (symbol_words m) q.word))

  row_below : Below f.base (row_items f q.row)
  row_below = items_below f q.row f.fine.some g.row_fine

  row_same : row_of f (row_items f q.row) ≡ q.row
  row_same = row_back f q.row (omega (arith, f.fine.some, z.even)) g.row_fine

  word_below : Below symbols.base q.word
  word_below = symbols_below m q.word (width_le q.code g.known) g.word_fine

  question_accepted : question_refusal f q.code whole ≡ 0
  unfolding question_refusal row_refusal symbol_refusal first
  question_accepted =
      rw (
        number_free q.code g.known,
        past_row,
        ← g.row_length,
        ← row_items_length f q.row,
        ← g.word_length,
        written_accepted f _ (row_tested f) 5 (row_words f m) (row_items f q.row) (word_part q ++ rest) row_below (ap (row_good (sheet_bound f)) row_same ∙ g.row_fine),
      )
      (written_accepted symbols (symbols_good m) (symbol_tested m) 6 (symbol_words m) q.word rest word_below g.word_fine)

  row_read : row_of f (items_in f (row_words f m) (row_long m) whole) ≡ q.row
  row_read =
      let room : length (row_items f q.row) ≤ f.each * row_words f m = omega (arith, row_items_length f q.row, g.row_length, row_room f m) in
      rw (← g.row_length, ← row_items_length f q.row, written_back f _ (row_tested f) (row_words f m) (row_items f q.row) (word_part q ++ rest) row_below room) row_same

  word_read : items_in symbols (symbol_words m) (long m) (word_part q ++ rest) ≡ q.word
  word_read =
      let room : length q.word ≤ symbols.each * symbol_words m = omega (arith, g.word_length, symbol_room m) in
      rw (← g.word_length) (written_back symbols (symbols_good m) (symbol_tested m) (symbol_words m) q.word rest word_below room)

  abbrev hc : q.code < 16
  hc = code_lt q.code g.known

  question_read : question_in f (head_of q) whole ≡ q
  unfolding question_in
  question_read = rw (head_code_is head_kind q.code q.number hc g.small, head_low_is head_kind q.code q.number hc g.small, row_read, past_row, word_read)

  -- every written word has 32 bits
  question_below : Below (2 ^ 32) (question_words f q)
  unfolding question_words head_kind
  question_below = (
    head_lt 1 q.code q.number hc g.small (lit< tt),
    below_join (2 ^ 32) (row_part f q) (word_part q) (items_words_below f _ (row_tested f) (row_words f m) (row_items f q.row) row_below)
        (items_words_below symbols (symbols_good m) (symbol_tested m) (symbol_words m) q.word word_below),
  )

-- a rest of a sheet that is accepted and holds these questions
record Read (f : Form) (left : ℕ) (ws : List ℕ) (qs : List Question) : Type 0 where
  accepted : rest_refusal f left ws ≡ 0
  same : questions_from f left ws ≡ qs

module _ (n : ℕ) (hn : n < 2 ^ 24) where
  abbrev end_of : ℕ
  end_of = worded end_kind n

  end_kind_is : kind end_of ≡ end_kind
  end_kind_is = kind_worded end_kind n (omega arith)

  end_lt : end_of < 2 ^ 32
  unfolding worded end_kind
  end_lt = omega arith

  end_accepted : end_refusal n end_of 0 ≡ 0
  unfolding end_refusal unless
  end_accepted = rw (body_worded end_kind n (omega arith), div-eq_of_lt hn, mod-eq_of_lt hn, eq-eqb n n refl)

module _ {f : Form} (z : RowForm f) where
  end_read : (left n : ℕ) → left ≤ most → n ≡ most - left → Read f left (worded end_kind n ∷ []) []
  unfolding rest_refusal next_refusal questions_from most end_kind head_kind
  end_read zero n h e = rw e (record { accepted = rw (end_kind_is 200 (lit< tt)) (end_accepted 200 (lit< tt)); same = refl })
  end_read (suc k) n h e =
      let l : n < 2 ^ 24 = omega arith in
      record { accepted = rw (end_kind_is n l, ← e) (end_accepted n l); same = rw (end_kind_is n l) }

  -- one question more in front
  question_front : (q : Question) (k : ℕ) (rest : List ℕ) (qs : List Question) → Good f q → Read f k rest qs → Read f (suc k) (question_words f q ++ rest) (q ∷ qs)
  unfolding question_words rest_refusal next_refusal head_refusal questions_from first unless head_kind end_kind
  question_front q k rest qs g r =
      let hk : kind (head_of q) ≡ 1 = head_kind_is 1 q.code q.number (code_lt q.code g.known) g.small in
      let hc : head_code (head_of q) ≡ q.code = head_code_is 1 q.code q.number (code_lt q.code g.known) g.small in
      rw (append_assoc (row_part f q) (word_part q) rest)
      (record {
        accepted = rw (hk, hc, lt-ltb 0 (suc k) (zero-lt-suc k), question_accepted z q g rest, past_question z q g rest) r.accepted;
        same = rw (hk, hc, question_read z q g rest, past_question z q g rest, r.same);
      })

  written_from : (qs : List Question) (left n : ℕ) → all_good f qs ≡ true → left ≤ most → length qs ≤ left → n ≡ most - left + length qs →
      Read f left (all_words f qs ++ worded end_kind n ∷ []) qs
  unfolding all_good all_words
  written_from [] left n g h l e = end_read left n h (omega arith)
  written_from (q ∷ qs) zero n g h l e = absurd (omega arith)
  written_from (q ∷ qs) (suc k) n g h l e =
      let p = both _ _ g in
      rw append_assoc (question_front q k _ qs (good_parts f q p.0) (written_from qs k n p.1 (omega arith) (omega arith) (omega arith)))

  all_below : (qs : List Question) → all_good f qs ≡ true → Below (2 ^ 32) (all_words f qs)
  unfolding all_good all_words
  all_below [] g = tt
  all_below (q ∷ qs) g =
      let p = both _ _ g in
      below_join (2 ^ 32) (question_words f q) (all_words f qs) (question_below z q (good_parts f q p.0) []) (all_below qs p.1)

pub written_read : WrittenRead
unfolding WrittenRead written_in sheet_refusal questions unless most end_kind
written_read qs g l =
    let ws : List ℕ = all_words reliabilities qs ++ worded 15 (length qs) ∷ [] in
    let b : Below (2 ^ 32) ws = below_join (2 ^ 32) (all_words reliabilities qs) (worded 15 (length qs) ∷ []) (all_below row_form qs g) (end_lt (length qs) (omega arith), tt) in
    let r : Read reliabilities 200 ws qs = written_from row_form qs 200 (length qs) g (lit≤ tt) l (omega arith) in
    let e : as_words (as_bytes ws) ≡ ws = as_words_bytes ws b in
    let z : length (as_bytes ws) % 4 ≡ 0 = omega (arith, bytes_length ws) in
    (rw (z, e) r.accepted, rw e r.same)

-- A SHEET THAT WAS ACCEPTED is that of a list
record Back (f : Form) (left : ℕ) (ws : List ℕ) : Type 0 where
  qs : List Question
  fine : all_good f qs ≡ true
  few : length qs ≤ left
  count : ℕ
  count_is : count ≡ most - left + length qs
  again : ws ≡ all_words f qs ++ worded end_kind count ∷ []

end_back : (n w : ℕ) (ws : List ℕ) → kind w ≡ end_kind → end_refusal n w (length ws) ≡ 0 → w ∷ ws ≡ worded end_kind n ∷ []
unfolding end_refusal worded
end_back n w ws k e =
    let a = passed _ _ _ e in
    let b = passed _ _ _ a.1 in
    let c : head_code w ≡ 0 = eqb-true _ _ a.0 in
    let l : low w ≡ n = eqb-true _ _ b.0 in
    ap₂ ◌∷◌ (omega (arith, k, c, l)) (empty ws (eqb-true _ _ (passed _ _ _ b.1).0))

head_back : (w : ℕ) → kind w ≡ head_kind → w ≡ worded head_kind (head_code w * numbers + low w)
unfolding worded
head_back w k = omega arith

-- what was accepted after a head is that of a question
record Asked (f : Form) (w : ℕ) (ws : List ℕ) : Type 0 where
  q : Question
  fine : Good f q
  again : w ∷ ws ≡ question_words f q ++ after f (width (head_code w)) ws

module _ {f : Form} (z : RowForm f) where
  asked : (w : ℕ) (ws : List ℕ) → kind w ≡ head_kind → question_refusal f (head_code w) ws ≡ 0 → Asked f w ws
  unfolding question_refusal row_refusal symbol_refusal question_words after after_row
  asked w ws k e =
      let m : ℕ = width (head_code w) in
      let a = first_none _ _ e in
      let b = first_none _ _ a.1 in
      let r = accepted_back f _ (row_tested f) 4 (row_words f m) (row_long m) ws (row_room f m) b.0 in
      let s = accepted_back symbols (symbols_good m) (symbol_tested m) 5 (symbol_words m) (long m) (drop (row_words f m) ws) (symbol_room m) b.1 in
      record {
        q = question (head_code w) (low w) (row_of f r.ds) s.ds;
        fine = record {
          known = number_taken _ a.0;
          small = mod-lt (body w) (lit< tt);
          row_length = row_of_length f r.ds ∙ r.long;
          row_fine = r.fine;
          word_length = s.long;
          word_fine = s.fine;
        };
        again =
            ap₂ ◌∷◌ (head_back w k)
            (r.again ∙ ap₂ ◌++◌ (ap (items_words f (row_words f m)) (sym (items_back f r.ds r.inside))) s.again ∙ sym (append_assoc (items_words f (row_words f m) _) (items_words symbols (symbol_words m) s.ds) _));
      }

  read_from : (left : ℕ) (ws : List ℕ) → left ≤ most → rest_refusal f left ws ≡ 0 → Back f left ws
  unfolding all_good all_words
  read_from zero ws h e = by ws (rest_parts f 0 ws e)
    where
      by : (ws : List ℕ) → Rest f 0 ws → Back f 0 ws
      by [] x = elim x [ ]
      by (w ∷ ws) (ends k e) = record { qs = []; fine = refl; few = omega arith; count = most - 0; count_is = omega arith; again = end_back _ w ws k e }
  read_from (suc k) ws h e = by ws (rest_parts f (suc k) ws e) (λ vs. read_from k vs (omega arith))
    where
      by : (ws : List ℕ) → Rest f (suc k) ws → ((vs : List ℕ) → rest_refusal f k vs ≡ 0 → Back f k vs) → Back f (suc k) ws
      by [] x more = elim x [ ]
      by (w ∷ ws) (ends i e) more = record { qs = []; fine = refl; few = omega arith; count = most - suc k; count_is = omega arith; again = end_back _ w ws i e }
      by (w ∷ ws) (asks i a e) more =
          let p = asked w ws i a in
          let r = more _ e in
          record {
            qs = p.q ∷ r.qs;
            fine = ap₂ ◌&&◌ (parts_good f p.q p.fine) r.fine;
            few = omega (arith, r.few);
            count = r.count;
            count_is = omega (arith, r.count_is);
            again = p.again ∙ ap (λ (l : List ℕ). question_words f p.q ++ l) r.again ∙ sym (append_assoc (question_words f p.q) (all_words f r.qs) _);
          }

pub read_written : ReadWritten
unfolding ReadWritten WrittenRead written_in sheet_refusal questions
read_written bs g e =
    let p = passed _ _ _ e in
    let r = read_from row_form most (as_words bs) (omega arith) p.1 in
    let n : length r.qs ≡ r.count = omega (arith, r.count_is) in
    let w : written_in reliabilities r.qs ≡ bs = rw n (ap as_bytes (sym r.again) ∙ as_bytes_words bs g (eqb-true _ _ p.0)) in
    let q : questions bs ≡ r.qs = ap questions (sym w) ∙ (written_read r.qs r.fine r.few).1 in
    (rw q r.fine, rw q r.few, rw q w)
