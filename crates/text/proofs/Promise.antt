-- The statements of specs/Promise.antt: what metric says of decided bits, in the bytes of a line.
-- Assumes nothing.
use Rattle.basics.proofs.Kit.{◌≡◌, refl, sym, ap, ◌∙◌, Bool, true, false, cond, List, [], ◌∷◌, ℕ, zero, suc, ◌+◌, ◌≤◌, ◌<◌, arith, length, get_or, eqb, ℤ, pos, negsuc}
use mathlib.Core.List.{map, map-map}
use mathlib.Core.Logic.{◌⊎◌, inl, inr}
use mathlib.Core.Option.{none, some, none-ne-some}
use lib.Dec.{eqb→eq}
use Rattle.field.proofs.Tests.{to_T}
use Rattle.code.specs.Code.{is_codeword}
use Rattle.code.specs.Bits.{all_bits, bit_at}
use Rattle.code.specs.Promise.{differ, Distance}
use Rattle.code.proofs.Accepted.{le_or_lt}
use Rattle.code.proofs.Words.{eqb_true, codeword_parts}
use Rattle.code.proofs.Bits.{at_most_one, bits_differ}
use Rattle.code.proofs.Distance.{distance}
use Rattle.metric.specs.Metric.{decided}
use Rattle.metric.specs.Promise.{CodewordsFor, UndecidedNone, UndecidedBoth}
use Rattle.metric.proofs.Costs.{codeword_bits}
use Rattle.metric.proofs.Promise.{codewords_for, decoded_greatest, undecided_none, undecided_both, agreed}
use Rattle.text.specs.Text.{question_mark, bit_byte, bits_field}
use Rattle.text.specs.Promise.{ShownRight, marks, MarksMany}
use Rattle.text.proofs.Fields.{bits_at}

-- a question mark is that of an undecided bit
mark_undecided : (s : ℤ) → bit_byte (decided s) ≡ question_mark → decided s ≡ none
unfolding bit_byte decided
mark_undecided (pos zero) e = refl
mark_undecided (pos (suc n)) e = absurd (omega arith)
mark_undecided (negsuc n) e = absurd (omega arith)

mark_at : (so : List ℤ) (b : ℕ) → get_or (bits_field so) b 0 ≡ question_mark → (b < length so) × (decided (get_or so b (pos 0)) ≡ none)
unfolding bits_field
mark_at [] b e = absurd (omega arith)
mark_at (s ∷ so) zero e = (omega arith, mark_undecided s e)
mark_at (s ∷ so) (suc b) e = let p = mark_at so b e in (omega arith, p.1)

pub shown_right : ShownRight
unfolding ShownRight CodewordsFor UndecidedNone bits_field bit_byte
shown_right m r rs ws best so w few l d =
    let u = undecided_none m (is_codeword m r) rs ws best so (codewords_for m r rs w few l) d in
    record {
      no_mark = (
        λ f. u.0.0 (λ b h e. f b (bits_at so b (rw d.count h) ∙ ap bit_byte e)),
        λ p b e. let k = mark_at so b e in u.0.1 p b (rw d.count at k.0) k.1,
      );
      spelt = λ vs p. sym (map-map bit_byte decided so) ∙ ap (map bit_byte) (u.1 vs p) ∙ map-map bit_byte some (all_bits m vs);
    }

-- HOW MANY: where two best words differ in a bit there is a mark, and they differ in more symbols than there are roots
mark_least : (s : ℤ) (x y : ℕ) → ((decided s ≡ none → ⊥) → x ≡ y) → cond (eqb x y) 0 1 ≤ cond (eqb (bit_byte (decided s)) question_mark) 1 0
unfolding bit_byte decided
mark_least (pos zero) x y f = at_most_one (eqb x y)
mark_least (pos (suc n)) x y f = rw (f (λ e. none-ne-some 0 (sym e)), eqb_true y y refl) (omega arith)
mark_least (negsuc n) x y f = rw (f (λ e. none-ne-some 1 (sym e)), eqb_true y y refl) (omega arith)

marks_least :
    (so : List ℤ) (xs ys : List ℕ) → length so ≡ length xs → length so ≡ length ys →
    ((b : ℕ) → b < length so → (decided (get_or so b (pos 0)) ≡ none → ⊥) → get_or xs b 0 ≡ get_or ys b 0) → differ xs ys ≤ marks (bits_field so)
unfolding bits_field marks differ
marks_least [] [] ys l k f = omega arith
marks_least [] (x ∷ xs) ys l k f = absurd (omega arith)
marks_least (s ∷ so) [] ys l k f = absurd (omega arith)
marks_least (s ∷ so) (x ∷ xs) [] l k f = absurd (omega arith)
marks_least (s ∷ so) (x ∷ xs) (y ∷ ys) l k f =
    omega (arith, mark_least s x y (f 0 (omega arith)), marks_least so xs ys (omega arith) (omega arith) (λ b h. f (suc b) (omega arith)))

found : (so : List ℤ) → 0 < marks (bits_field so) → (b : ℕ) × (b < length so) × (decided (get_or so b (pos 0)) ≡ none)
unfolding bits_field marks
found [] h = absurd (omega arith)
found (s ∷ so) h = go (eqb (bit_byte (decided s)) question_mark) refl (found so) h
  where
    go :
        (x : Bool) → eqb (bit_byte (decided s)) question_mark ≡ x → (0 < marks (bits_field so) → (b : ℕ) × (b < length so) × (decided (get_or so b (pos 0)) ≡ none)) →
        0 < cond x 1 0 + marks (bits_field so) → (b : ℕ) × (b < suc (length so)) × (decided (get_or (s ∷ so) b (pos 0)) ≡ none)
    go true e next h = (0, omega arith, mark_undecided s (eqb→eq (bit_byte (decided s)) question_mark (to_T e)))
    go false e next h = let p = next (omega arith) in (suc p.0, omega arith, p.2)

pub marks_many : MarksMany
unfolding MarksMany Distance UndecidedBoth bit_at
marks_many m r rs ws best so w l d = go (le_or_lt (marks (bits_field so)) r)
  where
    full : (vs : List ℕ) → is_codeword m r vs ≡ true → length so ≡ length (all_bits m vs)
    full vs c = d.count ∙ sym (codeword_bits m r rs l vs c)

    none_left : (n : ℕ) → marks (bits_field so) ≡ n → n ≤ r → n ≡ 0
    none_left zero e o = refl
    none_left (suc n) e o =
        let f = found so (omega arith) in
        let h : f.0 < length rs = rw d.count at f.1 in
        let with-bit = undecided_both m (is_codeword m r) rs f.0 best (get_or so f.0 (pos 0)) (decoded_greatest m (is_codeword m r) rs ws best so d) (d.softly f.0 h) f.2 in
        let us = with-bit 0 (omega arith) in
        let vs = with-bit 1 (omega arith) in
        let p = codeword_parts m r us.0 us.1 in
        let q = codeword_parts m r vs.0 vs.1 in
        let least = marks_least so (all_bits m us.0) (all_bits m vs.0) (full us.0 us.1) (full vs.0 vs.1)
        (λ b k n. agreed m (is_codeword m r) rs ws best so d b (rw d.count at k) n us.0 vs.0 (us.1, us.2) (vs.1, vs.2)) in
        let same : us.0 ≡ vs.0 = distance m r us.0 vs.0 w us.1 vs.1 (omega (arith, least, bits_differ m us.0 vs.0 (p.count ∙ sym q.count) p.symbols q.symbols)) in
        absurd (omega (arith, sym us.3 ∙ ap (bit_at m f.0) same ∙ vs.3))

    go : (marks (bits_field so) ≤ r) ⊎ (r < marks (bits_field so)) → (marks (bits_field so) ≡ 0) ⊎ (r < marks (bits_field so))
    go (inl h) = inl (none_left (marks (bits_field so)) refl h)
    go (inr h) = inr h
