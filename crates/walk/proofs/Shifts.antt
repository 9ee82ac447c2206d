-- What the slots add to a turn, one after the other: a step that is not 0 leads to another place, and each total between is made of old rows and new ones.
-- Assumes nothing.
use Rattle.basics.proofs.Kit.{◌≡◌, refl, sym, ap, ◌∙◌, Bool, true, false, cond, List, [], ◌∷◌, ℕ, zero, suc, ◌+◌, ◌^◌, ◌≤◌, ◌<◌, arith, eqb}
use borrow.Author.Tests.{eq-eqb, ne_eqb}
use lib.Bits.{bit_xor, xor_zero_r}
use Rattle.field.specs.Field.{xor}
use Rattle.field.proofs.Xor as X
use Rattle.lanes.specs.Lanes.{lane}
use Rattle.walk.specs.declared.At.{At}
use Rattle.walk.specs.declared.Slot.{Slot}
use Rattle.walk.specs.Walk.{step, changed_bit}
use Rattle.walk.specs.Turns.{Each, Row, row_of, Shift, Shifted, Movable, Moved}

-- a place is another after any step but 0
no_step : (e p : ℕ) → bit_xor p e ≡ p → e ≡ 0
unfolding xor
no_step e p h = sym (X.cancel p e) ∙ ap (bit_xor p) h ∙ X.self p

pub one_more : (p e n : ℕ) → 0 < e → n + 1 ≡ n + cond (eqb (bit_xor p e) p) 0 1
one_more p e n l = rw (ne_eqb (bit_xor p e) p (λ h. omega (arith, no_step e p h))) refl

pub at_most_one : (b : Bool) → cond b 0 1 ≤ 1
at_most_one true = omega arith
at_most_one false = omega arith

-- a rule at the four slots
pub each4 : (P : ℕ → Type 0) → P 0 → P 1 → P 2 → P 3 → Each 4 P
each4 P a b c d zero l = a
each4 P a b c d (suc zero) l = b
each4 P a b c d (suc (suc zero)) l = c
each4 P a b c d (suc (suc (suc zero))) l = d
each4 P a b c d (suc (suc (suc (suc j)))) l = absurd (omega arith)

-- a slot that does not change
pub stays : (f : List ℕ) (p : ℕ) (r t : List ℕ) (n e : ℕ) → e ≡ 0 → Shift f e p r t n → Shifted f e p t n (record { place = p; row = r; total = t; adjusted = n })
stays f p r t n e z s =
    let same : bit_xor p e ≡ p = ap (bit_xor p) z ∙ xor_zero_r p in
    record {
      place_is = sym same;
      row = rw same s.row;
      lanes = λ x lx. rw same (omega (arith, s.part x lx));
      count = rw (eq-eqb (bit_xor p e) p same) (omega arith);
    }

module _ {f st : List ℕ} {k : ℕ} {a : At} (m : Movable f st k a) where
  abbrev e : ℕ → ℕ
  e j = step st (changed_bit k) j

  abbrev p : ℕ → ℕ
  p j = lane a.places j

  pub asks0 : Shift f (e 0) (p 0) (row_of a 0) a.total a.adjusted
  asks0 = record {
    row = m.summed.rows 0 (omega arith);
    inside = m.inside 0 (omega arith);
    part = λ x lx. omega (arith, m.summed.lanes x lx);
    room = λ x lx. omega (arith, m.summed.lanes x lx, m.old x lx, m.new x lx);
    few = omega (arith, m.few);
  }

  module _ {s0 : Slot} (h0 : Shifted f (e 0) (p 0) a.total a.adjusted s0) where
    few0 : s0.adjusted < 2 ^ 16 + 1
    few0 = omega (arith, m.few, h0.count, at_most_one (eqb (bit_xor (p 0) (e 0)) (p 0)))

    pub asks1 : Shift f (e 1) (p 1) (row_of a 1) s0.total s0.adjusted
    asks1 = record {
      row = m.summed.rows 1 (omega arith);
      inside = m.inside 1 (omega arith);
      part = λ x lx. omega (arith, m.summed.lanes x lx, h0.lanes x lx);
      room = λ x lx. omega (arith, m.summed.lanes x lx, m.old x lx, m.new x lx, h0.lanes x lx);
      few = omega (arith, few0);
    }

    module _ {s1 : Slot} (h1 : Shifted f (e 1) (p 1) s0.total s0.adjusted s1) where
      few1 : s1.adjusted < 2 ^ 16 + 2
      few1 = omega (arith, few0, h1.count, at_most_one (eqb (bit_xor (p 1) (e 1)) (p 1)))

      pub asks2 : Shift f (e 2) (p 2) (row_of a 2) s1.total s1.adjusted
      asks2 = record {
        row = m.summed.rows 2 (omega arith);
        inside = m.inside 2 (omega arith);
        part = λ x lx. omega (arith, m.summed.lanes x lx, h0.lanes x lx, h1.lanes x lx);
        room = λ x lx. omega (arith, m.summed.lanes x lx, m.old x lx, m.new x lx, h0.lanes x lx, h1.lanes x lx);
        few = omega (arith, few1);
      }

      module _ {s2 : Slot} (h2 : Shifted f (e 2) (p 2) s1.total s1.adjusted s2) where
        pub asks3 : Shift f (e 3) (p 3) (row_of a 3) s2.total s2.adjusted
        asks3 = record {
          row = m.summed.rows 3 (omega arith);
          inside = m.inside 3 (omega arith);
          part = λ x lx. omega (arith, m.summed.lanes x lx, h0.lanes x lx, h1.lanes x lx, h2.lanes x lx);
          room = λ x lx. omega (arith, m.summed.lanes x lx, m.old x lx, m.new x lx, h0.lanes x lx, h1.lanes x lx, h2.lanes x lx);
          few = omega (arith, few1, h2.count, at_most_one (eqb (bit_xor (p 2) (e 2)) (p 2)));
        }

        -- the turn
        module _ {s3 : Slot} (h3 : Shifted f (e 3) (p 3) s2.total s2.adjusted s3) where
          abbrev b : At
          b = record { places = s0.place ∷ s1.place ∷ s2.place ∷ s3.place ∷ []; rows = s0.row ∷ s1.row ∷ s2.row ∷ s3.row ∷ []; total = s3.total; adjusted = s3.adjusted }

          pub turned : Moved f st k a b
          turned = record {
            at = each4 (λ j. lane b.places j ≡ bit_xor (p j) (e j)) h0.place_is h1.place_is h2.place_is h3.place_is;
            summed = record {
              rows = each4 (λ j. Row f (lane b.places j) (row_of b j)) (rw h0.place_is h0.row) (rw h1.place_is h1.row) (rw h2.place_is h2.row) (rw h3.place_is h3.row);
              lanes = λ x lx. rw (h0.place_is, h1.place_is, h2.place_is, h3.place_is) (omega (arith, m.summed.lanes x lx, h0.lanes x lx, h1.lanes x lx, h2.lanes x lx, h3.lanes x lx));
            };
            count = rw (h0.place_is, h1.place_is, h2.place_is, h3.place_is) (omega (arith, h0.count, h1.count, h2.count, h3.count));
          }
