-- The span of the entries that take part, place by place.
-- Assumes nothing.
use Rattle.basics.proofs.Kit.{◌≡◌, refl, ap, ◌∙◌, List, ℕ, ◌+◌, ◌%◌, ◌≤◌, ◌<◌, arith, length, get_or, set}
use lib.ListN.{length-set}
use lib.Seq.{get_or-set_same, get_or-set_other}
use native.Mathlib.Numerals.{add-one}
use native.Mathlib.Decide.{dec_le}
use lib.Bits.{bit_and, bit_or, and_le_l, and_le_r, or_add_and}
use Rattle.lanes.proofs.Rows.{four}
use Rattle.walk.specs.Walk.{start}
use Rattle.ties.specs.Ties.{word_at}
use Rattle.ties.specs.Turn.{Spans, OneWord}

-- one place more
pub spans_more : (places g : List ℕ) (r a e low high x y : ℕ) → Spans places g r a e low high → (get_or g e 0 ≡ r → x ≡ get_or places e 0) → (get_or g e 0 ≡ r → y ≡ get_or places e 0) → Spans places g r a (e + 1) (bit_and low x) (bit_or high y)
spans_more places g r a e low high x y h ex ey p l u q = go (dec_le e p)
  where
    go : Dec (e ≤ p) → (bit_and low x ≤ get_or places p 0) × (get_or places p 0 ≤ bit_or high y)
    go (yes s) =
        let i : p ≡ e = omega arith in
        let q' : get_or g e 0 ≡ r = rw i at q in
        rw i (omega (arith, and_le_r low x, ex q'), omega (arith, or_add_and high y, and_le_l high y, ey q'))
    go (no s) = let k = h p l (omega arith) q in (omega (arith, and_le_l low x), omega (arith, or_add_and high y, and_le_r high y))

-- where the bounds are one, so are the entries
pub one_word : (sl t places g : List ℕ) (r j : ℕ) {a e low high : ℕ} → a ≡ start sl j → e ≡ start sl (j + 1) → Spans places g r a e low high → low ≡ high → OneWord sl t places g r j (get_or t low 0 % 65536)
one_word sl t places g r j {a} {e} {low} ea ee h q p l u m =
    let u' : p < e = rw (ee, add-one j) u in
    let k = h p (omega arith) u' m in
    let i : get_or places p 0 ≡ low = omega arith in
    rw i refl

-- every slot ends within
pub slot_ends : (sl : List ℕ) → ((j : ℕ) → j < 4 → start sl j ≤ start sl (j + 1)) → (j : ℕ) → j < 4 → start sl (j + 1) ≤ start sl 4
slot_ends sl h = four (λ j. start sl (j + 1) ≤ start sl 4) (omega (arith, h 1 (omega arith), h 2 (omega arith), h 3 (omega arith))) (omega (arith, h 2 (omega arith), h 3 (omega arith))) (omega (arith, h 3 (omega arith))) (omega arith)

-- words written over the first k places
pub record Written (t before now : List ℕ) (k : ℕ) : Type 0 where
  pub same : length now ≡ length before
  pub done : (p : ℕ) → p < k → get_or now p 0 ≡ word_at t before p
  pub rest : (p : ℕ) → k ≤ p → get_or now p 0 ≡ get_or before p 0

pub none_written : (t before : List ℕ) → Written t before before 0
none_written t before = record { same = refl; done = λ p l. absurd (omega arith); rest = λ p l. refl }

-- each place still to be written has a key
pub keyed : (t before now : List ℕ) (k : ℕ) → Written t before now k → ((p : ℕ) → p < length before → get_or before p 0 < length t) → k < length now → get_or now k 0 < length t
keyed t before now k w h l = omega (arith, w.rest k (omega arith), h k (omega (arith, w.same)))

pub one_written : (t before now : List ℕ) (k v : ℕ) → Written t before now k → k < length now → v ≡ word_at t now k → Written t before (set now k v) (k + 1)
one_written t before now k v w l e = record { same = simp length-set w.same; done = λ p u. go p u (dec_le k p); rest = λ p u. get_or-set_other now k p v 0 (λ q. omega arith) ∙ w.rest p (omega arith) }
  where
    go : (p : ℕ) → p < k + 1 → Dec (k ≤ p) → get_or (set now k v) p 0 ≡ word_at t before p
    go p u (yes y) =
        let q : p ≡ k = omega arith in
        rw q (get_or-set_same now k v 0 l ∙ e ∙ ap (λ (x : ℕ). get_or t x 0 % 65536) (w.rest k (omega arith)))
    go p u (no y) = get_or-set_other now k p v 0 (λ q. omega arith) ∙ w.done p (omega arith)
