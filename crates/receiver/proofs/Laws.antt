-- The statements of specs/Laws.antt.
-- Assumes nothing.
use Rattle.basics.proofs.Kit.{◌≡◌, refl, sym, ap, ap₂, ◌∙◌, true, ◌&&◌, List, [], ◌∷◌, ◌++◌, ℕ, zero, suc, ◌+◌, arith, length, drop, ℤ}
use mathlib.Core.List.{map}
use mathlib.Core.Option.{Option}
use native.Mathlib.Nat.{add-zero, zero-add, suc-add}
use lib.ListN.{length-map, replicate}
use lib.Seq.{get_or-drop, drop-drop}
use lib.Ieee.{Float, nan}
use borrow.Author.Tests.{eq-eqb}
use Rattle.refusal.specs.Refusal.{unless}
use Rattle.refusal.proofs.Outcomes.{outcome_zero}
use Rattle.refusal.proofs.Tests.{first_none}
use Rattle.code.specs.Bits.{row_long}
use Rattle.metric.specs.Row.{row_bound, reliability_good, row_good}
use Rattle.quantiser.specs.Quantise.{quantised}
use Rattle.quantiser.specs.Calls.{quantise_refusal, QuantiseSays}
use Rattle.quantiser.specs.Laws.{Reliability}
use Rattle.quantiser.proofs.Laws.{reliability}
use Rattle.receiver.specs.declared.Received.{Received}
use Rattle.receiver.specs.declared.Received.TheVariants.{LostOne, LostTwo, Single, Paired}
use Rattle.receiver.specs.Receive.{symbol, taken, total, received, reliabilities_of, received_row}
use Rattle.receiver.specs.Calls.{kinds_good, fills, receive_refusal, ReceiveSays}
use Rattle.receiver.proofs.Outcomes.{accepted}
use Rattle.receiver.specs.Laws.{ReceivedTaken, SinglesQuantised, places_of, places, entry, ReadByKinds, read, from, ReadOnce}

-- what an accepted call says
record Accepted (z m : ℕ) (ks : List ℕ) (xs : List Float) (p : List ℤ) : Type 0 where
  code : z ≡ 0
  long : length p ≡ row_long m
  spent : total taken ks ≡ length xs
  row : p ≡ received_row (received ks xs)

answered : (z m : ℕ) (ks : List ℕ) (xs : List Float) (o p : List ℤ) → ReceiveSays z m ks xs 0 o p → Accepted z m ks xs p
unfolding ReceiveSays
answered z m ks xs o p s =
    let d = outcome_zero _ _ _ s in
    let n = first_none _ _ d.0 in
    let a = accepted _ _ _ _ n.1 in
    record { code = n.0; long = ap length d.1 ∙ a.1.filled ∙ a.0; spent = a.1.spent; row = d.1 }

-- ---- every entry is 0 or a quantised sample
good : (ss : List Received) → row_good row_bound (received_row ss) ≡ true
unfolding received_row reliabilities_of row_good reliability_good Reliability
good [] = refl
good (LostOne ∷ ss) = good ss
good (LostTwo ∷ ss) = good ss
good (Single x ∷ ss) = rw (reliability x) (good ss)
good (Paired p ∷ ss) = rw (reliability p.in_phase, reliability p.quadrature) (good ss)

pub received_taken : ReceivedTaken
unfolding ReceivedTaken
received_taken z m ks xs o p s = let a = answered z m ks xs o p s in (a.code, a.long, ap (row_good row_bound) a.row ∙ good (received ks xs))

-- ---- single samples
singles : (xs : List Float) → received_row (received (replicate (length xs) 2) xs) ≡ map quantised xs
unfolding received received_row symbol taken reliabilities_of
singles [] = refl
singles (x ∷ xs) = ap (◌∷◌ (quantised x)) (singles xs)

singles_good : (n : ℕ) → kinds_good (replicate n 2) ≡ true
unfolding kinds_good
singles_good zero = refl
singles_good (suc n) = singles_good n

singles_taken : (n : ℕ) → total taken (replicate n 2) ≡ n
unfolding total taken
singles_taken zero = refl
singles_taken (suc n) = omega (arith, singles_taken n)

singles_fill : (n : ℕ) (xs : List Float) → length xs ≡ n → fills n (replicate (length xs) 2) xs ≡ true
unfolding fills
singles_fill n xs e = ap₂ ◌&&◌ (eq-eqb _ _ (ap length (singles xs) ∙ length-map xs quantised ∙ e)) (eq-eqb _ _ (singles_taken (length xs)))

singles_refused : (m : ℕ) (xs : List Float) (o : ℕ) → length xs ≡ row_long m → receive_refusal m (replicate (length xs) 2) xs o ≡ quantise_refusal m xs o
unfolding receive_refusal quantise_refusal unless
singles_refused m xs o e = rw (singles_good (length xs), singles_fill (row_long m) xs e, eq-eqb (length xs) (row_long m) e)

pub singles_quantised : SinglesQuantised
unfolding SinglesQuantised ReceiveSays QuantiseSays
singles_quantised z m xs r o p e s = rw (singles xs, singles_refused m xs (length o) e) at s

-- ---- the places that are read
map_append : {A B : Type 0} (f : A → B) (a b : List A) → map f (a ++ b) ≡ map f a ++ map f b
map_append f [] b = refl
map_append f (x ∷ a) b = ap (◌∷◌ (f x)) (map_append f a b)

symbol_read : (xs : List Float) (k i : ℕ) → reliabilities_of (symbol k (drop i xs)) ≡ map (entry xs) (places_of k i)
unfolding symbol reliabilities_of places_of
symbol_read xs zero i = refl
symbol_read xs (suc zero) i = refl
symbol_read xs (suc (suc zero)) i = rw (get_or-drop, add-zero)
symbol_read xs (suc (suc (suc k))) i = rw (get_or-drop i xs 0 nan, get_or-drop i xs 1 nan, add-zero)

rows_read : (xs : List Float) (ks : List ℕ) (i : ℕ) → received_row (received ks (drop i xs)) ≡ map (entry xs) (places ks i)
unfolding received received_row places
rows_read xs [] i = refl
rows_read xs (k ∷ ks) i =
    ap₂ ◌++◌ (symbol_read xs k i) (ap (λ (l : List Float). received_row (received ks l)) (drop-drop (taken k) i xs) ∙ rows_read xs ks (i + taken k))
    ∙ sym (map_append (entry xs) (places_of k i) (places ks (i + taken k)))

pub read_by_kinds : ReadByKinds
unfolding ReadByKinds
read_by_kinds z m ks xs o p s = (answered z m ks xs o p s).row ∙ rows_read xs ks 0

-- ---- each of them once
symbol_once : (k i : ℕ) (ps : List (Option ℕ)) → read (places_of k i ++ ps) ≡ from (taken k) i ++ read ps
unfolding places_of read from taken
symbol_once zero i ps = refl
symbol_once (suc zero) i ps = refl
symbol_once (suc (suc zero)) i ps = refl
symbol_once (suc (suc (suc k))) i ps = refl

from_add : (a b i : ℕ) → from a i ++ from b (i + a) ≡ from (a + b) i
unfolding from
from_add zero b i = ap₂ from (sym (zero-add b)) (add-zero i)
from_add (suc a) b i = rw suc-add (ap (◌∷◌ i) (ap (λ n. from a (i + 1) ++ from b n) (omega arith) ∙ from_add a b (i + 1)))

kinds_once : (ks : List ℕ) (i : ℕ) → read (places ks i) ≡ from (total taken ks) i
unfolding places read from total
kinds_once [] i = refl
kinds_once (k ∷ ks) i = symbol_once k i _ ∙ ap (◌++◌ (from (taken k) i)) (kinds_once ks (i + taken k)) ∙ from_add (taken k) (total taken ks) i

pub read_once : ReadOnce
unfolding ReadOnce
read_once z m ks xs o p s = kinds_once ks 0 ∙ ap (λ n. from n 0) (answered z m ks xs o p s).spent
