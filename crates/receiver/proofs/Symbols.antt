-- Symbols by their kinds: how many bits and samples they have, one by one and in all, and that their samples are numbers where all are.
-- Assumes nothing.
use Rattle.basics.proofs.Kit.{◌≡◌, refl, rules, true, ap₂, ◌∙◌, false, ◌&&◌, List, [], ◌∷◌, ℕ, zero, suc, ◌+◌, ◌≤◌, ◌<◌, arith, length, get_or, drop, leb}
use native.Mathlib.Numerals.{add-one}
use lib.ListN.{length-append, drop_of_length-le}
use lib.Seq.{drop-cons}
use lib.Ieee.{Float}
use Rattle.quantiser.specs.Calls.{has_nan}
use Rattle.quantiser.proofs.Samples.{numbers}
use Rattle.std.specs.Prelude.{Result, Ok, Err}
use Rattle.std.specs.Result.{IsOk}
use borrow.Author.Tests.{leb-true}
use Rattle.field.proofs.Tests.{and_l, and_r, to_T, from_T}
use Rattle.refusal.specs.declared.Refusal.{Refusal}
use Rattle.receiver.specs.declared.Kind.{Kind}
use Rattle.receiver.specs.declared.Kind.TheVariants.{LostOne, LostTwo, Single, Paired}
use Rattle.receiver.specs.Kind.{kind_number, Decodes}
use Rattle.receiver.specs.Receive.{symbol, taken, total, received, reliabilities_of, received_row}
use Rattle.receiver.specs.Calls.{kinds_good}
use Rattle.receiver.specs.Within.{bits, held}

pub bits_is : (k : ℕ) (xs : List Float) → length (reliabilities_of (symbol k xs)) ≡ bits k
unfolding symbol reliabilities_of bits
bits_is zero xs = refl
bits_is (suc zero) xs = refl
bits_is (suc (suc zero)) xs = refl
bits_is (suc (suc (suc k))) xs = refl

-- what a row has in all does not depend on the samples
pub row_bits : (ks : List ℕ) (xs : List Float) → length (received_row (received ks xs)) ≡ total bits ks
unfolding received received_row total
row_bits [] xs = refl
row_bits (k ∷ ks) xs = length-append (reliabilities_of (symbol k xs)) _ ∙ ap₂ ◌+◌ (bits_is k xs) (row_bits ks (drop (taken k) xs))

-- a symbol has one or two bits, and at most two samples
pub bits_few : (k : ℕ) → (1 ≤ bits k) × (bits k ≤ 2)
unfolding bits symbol reliabilities_of
bits_few zero = (omega arith, omega arith)
bits_few (suc zero) = (omega arith, omega arith)
bits_few (suc (suc zero)) = (omega arith, omega arith)
bits_few (suc (suc (suc k))) = (omega arith, omega arith)

pub taken_few : (k : ℕ) → taken k ≤ 2
unfolding taken
taken_few zero = omega arith
taken_few (suc zero) = omega arith
taken_few (suc (suc zero)) = omega arith
taken_few (suc (suc (suc k))) = omega arith

-- ---- one kind after another
pub total_next : (f : ℕ → ℕ) (ks : List ℕ) (i : ℕ) → i < length ks → total f (drop i ks) ≡ f (get_or ks i 0) + total f (drop (i + 1) ks)
unfolding total
total_next f ks i h = rw (drop-cons ks i 0 h, add-one)

pub total_none : (f : ℕ → ℕ) (ks : List ℕ) (i : ℕ) → length ks ≤ i → total f (drop i ks) ≡ 0
unfolding total
total_none f ks i h = rw (drop_of_length-le ks h)

pub kinds_next : (ks : List ℕ) (i : ℕ) → i < length ks → kinds_good (drop i ks) ≡ (leb (get_or ks i 0) 3 && kinds_good (drop (i + 1) ks))
unfolding kinds_good
kinds_next ks i h = rw (drop-cons ks i 0 h, add-one)

-- ---- the kind of a byte: there is one where all are known, and it is that of the byte
pub known_at : (ks : List ℕ) (i : ℕ) → i < length ks → kinds_good ks ≡ true → get_or ks i 0 ≤ 3
unfolding kinds_good
known_at [] i h e = absurd (omega arith)
known_at (k ∷ ks) zero h e = leb-true k 3 (from_T (leb k 3) (and_l (leb k 3) (kinds_good ks) (to_T e)))
known_at (k ∷ ks) (suc i) h e = known_at ks i (omega arith) (from_T (kinds_good ks) (and_r (leb k 3) (kinds_good ks) (to_T e)))

pub kind_few : (x : Kind) → kind_number x ≤ 3
kind_few LostOne = omega arith
kind_few LostTwo = omega arith
kind_few Single = omega arith
kind_few Paired = omega arith

pub decoded : (k : ℕ) (r : Result Kind Refusal) → Decodes k r → k ≤ 3 → IsOk r
decoded k (Ok x) d h = search rules
decoded k (Err e) d h = absurd (omega (arith, d.1))

pub number_is : (k : ℕ) (r : Result Kind Refusal) (x : Kind) → Decodes k r → r ≡ Ok x → kind_number x ≡ k
number_is k r x d e = rw e at d

-- ---- the samples of a symbol are numbers where all are, and so are those behind it
pub symbol_numbers :
    (k : ℕ) (xs : List Float) → taken k ≤ length xs → has_nan xs ≡ false →
    (has_nan (held (symbol k xs)) ≡ false) × (has_nan (drop (taken k) xs) ≡ false)
unfolding symbol taken held has_nan
symbol_numbers zero xs h e = (refl, e)
symbol_numbers (suc zero) xs h e = (refl, e)
symbol_numbers (suc (suc zero)) xs h e = let a = numbers xs 0 h e in (rw a.0, a.1)
symbol_numbers (suc (suc (suc k))) xs h e = let a = numbers xs 0 (omega arith) e in let b = numbers xs 1 h a.1 in (rw (a.0, b.0), b.1)
