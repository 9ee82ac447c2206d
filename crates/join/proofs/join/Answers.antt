-- What the choice of the code is refused by, then what the parts are, then what their join is.
use Rattle.basics.proofs.Kit.{◌≡◌, refl, sym, ap, ◌∙◌, Bool, true, false, ◌&&◌, List, ℕ, ◌≤◌, arith, length, take, eqb}
use lib.ListN.{replicate}
use lib.Seq.{length-take-le}
use borrow.Author.Tests.{eqb-true}
use Rattle.refusal.specs.Refusal.{unless, first, Outcome}
use Rattle.refusal.proofs.Tests.{passed, first_refuses, first_passes}
use Rattle.refusal.proofs.Results.{handed_on, number_some, refused_by, taken}
use Rattle.field.proofs.Tests.{widths}
use Rattle.code.specs.declared.shape.Shape.{Shape}
use Rattle.code.specs.Code.{long}
use Rattle.code.specs.Bits.{row_long}
use Rattle.code.proofs.Loops.{long_small}
use Rattle.code.proofs.Chosen.{choice_refused, call_refused}
use Rattle.split.specs.Split.{valid, all_below}
use Rattle.join.specs.Calls.{all_bch, in_range, is_configuration, join_refusal, JoinSays}
use Rattle.join.specs.Within.{parts_refusal, Joinable}
use Rattle.join.proofs.join.Goals as goal

-- the parts' refusal, and then that of a configuration that is in range
in_turn : (a b c d e : Bool) →
    unless a 3 (unless b 4 (unless c 18 (unless (d && e) 19 0)))
    ≡ first (unless a 3 (unless b 4 (unless c 18 (unless d 19 0)))) (unless e 19 0)
unfolding unless first
in_turn false b c d e = refl
in_turn true false c d e = refl
in_turn true true false d e = refl
in_turn true true true false e = refl
in_turn true true true true e = refl

join_refusal_is : (m r : ℕ) (ss bs : List ℕ) (o : ℕ) → join_refusal m r ss bs o ≡ first (parts_refusal m r ss bs o) (unless (valid m r (take m ss)) 19 0)
unfolding join_refusal parts_refusal is_configuration
join_refusal_is m r ss bs o = in_turn (eqb (length bs) (row_long m)) (eqb o (long m)) (all_bch m 0 m r bs) (in_range m r ss) (valid m r (take m ss))

outcome_as : (m n a : ℕ) (Done Kept : Type 0) → m ≡ n → Outcome m a Done Kept → Outcome n a Done Kept
outcome_as m n a Done Kept e o = rw e at o

-- parts that are not refused, and a word of zeros
joinable : (h : Shape) (ss bs : List ℕ) (o : ℕ) → parts_refusal h.m h.r ss bs o ≡ 0 → Joinable h.m h.r ss bs (take h.n (replicate 15 0)) × (o ≡ long h.m)
unfolding parts_refusal long all_below
joinable h ss bs o e =
    let z = h.numbers in
    let a = passed (eqb (length bs) (row_long h.m)) 2 _ e in
    let b = passed (eqb o (long h.m)) 3 _ a.1 in
    let c = passed (all_bch h.m 0 h.m h.r bs) 17 _ b.1 in
    let zs : ℕ → List ℕ = λ n. take n (replicate 15 0) in (
      record {
        count = eqb-true _ _ a.0;
        are_bch = c.0;
        inside = (passed (in_range h.m h.r ss) 18 0 c.1).0;
        room = ap (λ (n : ℕ). length (zs n)) z.n_is ∙ widths (λ (m : ℕ). length (zs (long m)) ≡ long m) refl refl h.m z.width_is;
        are_zero = ap (λ (n : ℕ). all_below 1 (zs n)) z.n_is ∙ widths (λ (m : ℕ). all_below 1 (zs (long m)) ≡ true) refl refl h.m z.width_is;
      },
      eqb-true _ _ b.0,
    )

fits : (h : Shape) → h.n ≤ 15
fits h = omega (arith, h.numbers.n_is, long_small h.m h.numbers.width_is)

pub returns-in_err-shape : goal.returns-in_err-shape
unfolding JoinSays
returns-in_err-shape c =
    rw (handed_on c.from_residual.result _ c.from_residual.ensures.1) (choice_refused c.args.choice c.shape.result c.shape.ensures.refused _ _ _ _ c.in_err-shape.was refl)

pub returns-in_err-check_parts : goal.returns-in_err-check_parts
unfolding JoinSays
returns-in_err-check_parts c =
    let s = c.shape.ensures in
    let h = c.in_ok-shape.shape in
    let a = c.args in
    let some = refused_by c.check_parts.result _ c.check_parts.ensures _ c.in_err-check_parts.was in
    let first_is = first_refuses _ (unless (valid h.m h.r (take h.m a.configuration)) 19 0) (λ z. number_some _ (some ∙ z)) in
    rw (handed_on c.from_residual-in_err-check_parts.result _ c.from_residual-in_err-check_parts.ensures.1)
    (call_refused a.choice c.shape.result s.refused (λ m r. join_refusal m r a.configuration a.bch.now (length a.output.now)) s.m s.r _ c.in_ok-shape.was c.check_parts.result
    (c.check_parts.ensures ∙ (first_is ∙ sym (join_refusal_is h.m h.r a.configuration a.bch.now (length a.output.now)))) _ _ _ c.in_err-check_parts.was refl)

pub slice_bounds-room-end : goal.slice_bounds-room-end
slice_bounds-room-end c = fits c.in_ok-shape.shape

pub slice_bounds-join_through-end : goal.slice_bounds-join_through-end
slice_bounds-join_through-end c = sym (length-take-le _ _ (fits c.in_ok-shape.shape))

pub join_through-requires-clause-joinable : goal.join_through-requires-clause-joinable
join_through-requires-clause-joinable c = (joinable c.in_ok-shape.shape c.args.configuration c.args.bch.now (length c.args.output.now) (sym c.in_ok-check_parts.ensures)).0

pub join_through-requires-clause-room : goal.join_through-requires-clause-room
join_through-requires-clause-room c = (joinable c.in_ok-shape.shape c.args.configuration c.args.bch.now (length c.args.output.now) (sym c.in_ok-check_parts.ensures)).1

pub returns : goal.returns
unfolding JoinSays
returns c =
    let h = c.in_ok-shape.shape in
    let a = c.args in
    rw (← c.in_ok-shape.ensures.m, ← c.in_ok-shape.ensures.r)
    (outcome_as _ _ _ _ _
    (first_passes _ _ (sym c.in_ok-check_parts.ensures) ∙ (sym (join_refusal_is h.m h.r a.configuration a.bch.now (length a.output.now))
    ∙ first_passes _ _ (taken c.shape.result _ c.shape.ensures.refused _ c.in_ok-shape.was)))
    c.join_through.ensures)
