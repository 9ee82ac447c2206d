-- `sheet_writer::pack::write_question`: the head, the words of the row, those of the word.
-- Assumes nothing.
use Rattle.basics.proofs.Kit.{◌≡◌, true, refl, sym, ap, ◌∙◌, List, [], ◌∷◌, ℕ, zero, suc, ◌+◌, ◌-◌, ◌*◌, ◌/◌, ◌≤◌, ◌<◌, arith, rules, length, get_or, ℤ, pos}
use lib.Signed.{mag}
use mir.Syntax.{w16}
use mir.Val.{SFits, to_z, of_z}
use mir.Facts.{to_z-of_z}
use Rattle.metric.specs.Row.{reliability_good, row_good}
use Rattle.metric.proofs.Bounds.{row_at}
use Rattle.code.specs.Code.{width, long, symbols_good}
use Rattle.code.specs.Bits.{row_long}
use Rattle.sheet_writer.specs.Within.{Items}
use Rattle.code.proofs.Words.{Below}
use Rattle.sheet.specs.declared.form.Form.{Form}
use Rattle.sheet_writer.proofs.Packing.{row_items_at}
use Rattle.sheet.proofs.Forms.{symbols_here, row_items_length, row_long_le, long_le, items_below, symbols_below}
use Rattle.code.proofs.Accepted.{width_fine}
use Rattle.sheet.specs.Sheet.{row_items, unsigned_of, sheet_bound}
use Rattle.sheet.proofs.Trips.{good_parts, code_lt, width_le}
use Rattle.sheet_writer.proofs.Words.{question_room, question_done}
use Rattle.sheet_writer.proofs.pack.write_question.Goals as goal

-- what is left to write has room
room : (a b : ℕ) {n o : ℕ} → n ≡ 1 + a + b → 4 * n ≤ o → 4 * (1 + a + b) ≤ o
room a b e h = omega arith

pub overflow_mul-head-2 : goal.overflow_mul-head-2
overflow_mul-head-2 c = let g = good_parts _ _ c.requires.good in record { fits = omega (arith, code_lt c.args.code g.known) }

pub overflow_add-head : goal.overflow_add-head
overflow_add-head c = let g = good_parts _ _ c.requires.good in record { fits = omega (arith, code_lt c.args.code g.known, g.small) }

pub overflow_add-head-2 : goal.overflow_add-head-2
overflow_add-head-2 c = let g = good_parts _ _ c.requires.good in record { fits = omega (arith, code_lt c.args.code g.known, g.small) }

pub put_word-requires : goal.put_word-requires
put_word-requires c = omega (arith, room _ _ (question_room c.requires.row_form (good_parts _ _ c.requires.good)) c.requires.room)

below_at : {b : ℕ} (ds : List ℕ) (i : ℕ) → Below b ds → i < length ds → get_or ds i 0 < b
below_at [] i g h = absurd (omega arith)
below_at (d ∷ ds) zero g h = g.0
below_at (d ∷ ds) (suc i) g h = below_at ds i g.1 (omega (arith, h))

reliable : (f : Form) (rs : List ℤ) (i : ℕ) → row_good (sheet_bound f) rs ≡ true → mag (get_or rs i (pos 0)) < 32768 →
    reliability_good (f.base / 2 - 1) (to_z w16 (of_z w16 (get_or rs i (pos 0)))) ≡ true
reliable f rs i g m = ap (reliability_good (sheet_bound f)) (to_z-of_z {w = w16} (record { sfits = m })) ∙ row_at _ rs i g

value : (f : Form) (rs : List ℤ) (i : ℕ) {x : ℕ} → SFits w16 (get_or rs i (pos 0)) → x ≡ unsigned_of f.base (to_z w16 (of_z w16 (get_or rs i (pos 0)))) → x ≡ get_or (row_items f rs) i 0
value f rs i m e = e ∙ ap (unsigned_of f.base) (to_z-of_z {w = w16} m) ∙ sym (row_items_at f rs i)

-- a row's items, and a word's
row_given : {pre : ℕ → Type 0} {post : ℕ → ℕ → Type 0} (f : Form) (rs : List ℤ) → length rs ≤ 60 → row_good (sheet_bound f) rs ≡ true →
    ((i : ℕ) → i < length rs → (mag (get_or rs i (pos 0)) < 32768 → reliability_good (f.base / 2 - 1) (to_z w16 (of_z w16 (get_or rs i (pos 0)))) ≡ true) → pre i) →
    ((i x : ℕ) → post i x → SFits w16 (get_or rs i (pos 0)) × (x ≡ unsigned_of f.base (to_z w16 (of_z w16 (get_or rs i (pos 0)))))) → Items pre post f.base (row_items f rs)
row_given f rs n g a b = record {
  few = omega (arith, row_items_length f rs, n);
  asked = λ i h. a i (omega (arith, h, row_items_length f rs)) (reliable f rs i g);
  says = λ i x h r. let t = b i x r in value f rs i t.0 t.1;
  below = λ i h. below_at _ i (items_below f rs f.fine.some g) h;
}

word_given : {pre : ℕ → Type 0} {post : ℕ → ℕ → Type 0} (m : ℕ) (ws : List ℕ) → length ws ≤ 15 → m ≤ 4 → symbols_good m ws ≡ true →
    ((i : ℕ) → i < length ws → pre i) → ((i x : ℕ) → i < length ws → post i x → x ≡ get_or ws i 0) → Items pre post 16 ws
word_given m ws n l g a b = record { few = omega (arith, n); asked = a; says = b; below = λ i h. below_at _ i (symbols_below m ws l g) h }

row_few : (c : ℕ) {n : ℕ} → n ≡ row_long (width c) → n ≤ 60
row_few c e = rw e (row_long_le _ (width_fine c))

word_few : (c : ℕ) {n : ℕ} → n ≡ long (width c) → n ≤ 15
word_few c e = rw e (long_le _ (width_fine c))

pub write_items-at-requires-clause-items : goal.write_items-at-requires-clause-items
write_items-at-requires-clause-items c =
    let g = good_parts _ _ c.requires.good in (
      row_items c.args.f c.args.row.now,
      row_given c.args.f c.args.row.now (row_few c.args.code g.row_length) g.row_fine (λ i l k. search (rules, k)) (λ i x r. (search (rules, r), search (rules, r))),
      row_items_length c.args.f c.args.row.now,
    )

pub write_items-at-requires-clause-room : goal.write_items-at-requires-clause-room
write_items-at-requires-clause-room c =
    omega (arith, room _ _ (question_room c.requires.row_form (good_parts _ _ c.requires.good)) c.requires.room, c.put_word.auto.output)

pub write_items-requires-clause-items : goal.write_items-requires-clause-items
write_items-requires-clause-items c =
    let g = good_parts _ _ c.requires.good in (
      c.args.word.now,
      word_given (width c.args.code) c.args.word.now (word_few c.args.code g.word_length) (width_le c.args.code g.known) g.word_fine (λ i h. search rules) (λ i x h r. search rules),
      refl,
    )

pub write_items-requires-clause-room : goal.write_items-requires-clause-room
write_items-requires-clause-room c =
    let g = good_parts _ _ c.requires.good in
    let a = (
    c.write_items-at.ensures (row_items c.args.f c.args.row.now)
    (row_given c.args.f c.args.row.now (row_few c.args.code g.row_length) g.row_fine (λ i l k. search (rules, k)) (λ i x r. (search (rules, r), search (rules, r))))
    (row_items_length c.args.f c.args.row.now)
    ).0 in
    rw (symbols_here _) (omega (arith, room _ _ (question_room c.requires.row_form g) c.requires.room, c.put_word.auto.output, c.write_items-at.auto.output, a))

pub returns : goal.returns
returns c =
    let g = good_parts _ _ c.requires.good in
    question_done c.requires.row_form g c.args.output.now c.put_word.ensures
    (c.write_items-at.ensures (row_items c.args.f c.args.row.now)
    (row_given c.args.f c.args.row.now (row_few c.args.code g.row_length) g.row_fine (λ i l k. search (rules, k)) (λ i x r. (search (rules, r), search (rules, r))))
    (row_items_length c.args.f c.args.row.now))
    (rw (symbols_here _) at (c.write_items.ensures c.args.word.now
    (word_given (width c.args.code) c.args.word.now (word_few c.args.code g.word_length) (width_le c.args.code g.known) g.word_fine (λ i h. search rules) (λ i x h r. search rules)) refl).1)
