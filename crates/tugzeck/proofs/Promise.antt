-- The statements of specs/Promise.antt.
-- Assumes nothing.
use Rattle.basics.proofs.Kit.{◌≡◌, refl, sym, ap, ◌∙◌, true, List, [], ◌∷◌, ◌++◌, ℕ, length, ℤ}
use borrow.Author.Tests.{eq-eqb, eqb-true}
use lib.ListN.{length-map}
use Rattle.refusal.specs.Refusal.{unless}
use Rattle.refusal.proofs.Outcomes.{outcome_zero}
use Rattle.refusal.proofs.Tests.{passed, first_none, first_free}
use Rattle.code.specs.Code.{long}
use Rattle.code.specs.Bits.{row_long}
use Rattle.code.proofs.Accepted.{number_free}
use Rattle.metric.specs.Row.{row_bound, row_good}
use Rattle.sheet.specs.declared.form.Form.{Form}
use Rattle.sheet.specs.Sheet.{Question, reliabilities, question_good, all_good}
use Rattle.sheet.proofs.Items.{both}
use Rattle.sheet.proofs.Trips.{good_parts}
use Rattle.quantiser.specs.Quantise.{quantised}
use Rattle.quantiser.specs.Calls.{quantise_refusal, QuantiseSays}
use Rattle.quantiser.specs.Laws.{RowTaken}
use Rattle.quantiser.proofs.Laws.{row_taken}
use Rattle.receiver.specs.Laws.{ReceivedTaken}
use Rattle.receiver.proofs.Laws.{received_taken}
use Rattle.decoder.specs.Calls.{decode_refusal}
use Rattle.marker.specs.Calls.{mark_refusal}
use Rattle.practice.specs.Promise.{PracticeReads}
use Rattle.practice.proofs.Laws.{practised_good, practice_reads}
use Rattle.tugzeck.specs.Promise.{TakenOn, QuantisedGoesOn, ReceivedGoesOn, PractisedGoesOn}

taken_on : (z m : ℕ) (p : List ℤ) → z ≡ 0 → length p ≡ row_long m → row_good row_bound p ≡ true → TakenOn z m p
unfolding decode_refusal mark_refusal unless
taken_on z m p g n b =
    let row = eq-eqb (length p) (row_long m) n in
    record {
      decoded = first_free _ _ g (rw (row, eq-eqb (long m) (long m) refl, eq-eqb (row_long m) (row_long m) refl, b));
      marked = λ w k s. first_free _ _ g (rw (row, eq-eqb (length w) (long m) k, b, s));
    }

pub quantised_goes_on : QuantisedGoesOn
unfolding QuantisedGoesOn QuantiseSays quantise_refusal RowTaken
quantised_goes_on z m xs o p s =
    let d = outcome_zero _ _ _ s in
    let n = first_none _ _ d.0 in
    taken_on z m p n.0
    (ap length d.1 ∙ length-map xs quantised ∙ eqb-true _ _ (passed _ _ _ n.1).0) (ap (row_good row_bound) d.1 ∙ row_taken xs)

pub received_goes_on : ReceivedGoesOn
unfolding ReceivedGoesOn ReceivedTaken
received_goes_on z m ks xs o p s = let t = received_taken z m ks xs o p s in taken_on z m p t.0 t.1 t.2

-- each of a list of questions that a sheet can hold is one
one_good : (f : Form) (before after : List Question) (q : Question) → all_good f (before ++ q ∷ after) ≡ true → question_good f q ≡ true
unfolding all_good
one_good f [] after q g = (both (question_good f q) _ g).0
one_good f (p ∷ before) after q g = one_good f before after q (both (question_good f p) _ g).1

pub practised_goes_on : PractisedGoesOn
unfolding PractisedGoesOn PracticeReads
practised_goes_on c n s t p w before after q e =
    let listed = sym (practice_reads c n s t p w).1 ∙ e in
    let g = good_parts reliabilities q (one_good reliabilities before after q (ap (all_good reliabilities) (sym listed) ∙ practised_good c n s t p w)) in
    taken_on _ _ _ (number_free q.code g.known) g.row_length g.row_fine
