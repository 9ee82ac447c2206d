-- The statements of specs/Promise.antt.
-- Assumes nothing.
use Rattle.basics.proofs.Kit.{◌≡◌, refl, sym, ap, ◌∙◌, Bool, true, false, ◌&&◌, ◌||◌, not, cond, ℕ, zero, suc, ◌-◌, ◌^◌, ◌≤◌, ◌<◌, arith, length, drop, eqb, leb}
use native.Mathlib.Nat.{not-suc-le-zero}
use mathlib.Core.Logic.{◌⊎◌, inl, inr}
use lib.Dec.{T, leb→le, lit≤}
use borrow.Author.Tests.{le-leb, lt-leb, ne_eqb}
use lib.ListN.{length-drop}
use Rattle.field.specs.Field.{width_good}
use Rattle.field.proofs.Tests.{and_l, and_r, to_T, widths, all, at}
use Rattle.code.specs.Code.{code_good, long, message_long, symbols_good, is_codeword, message, bch_dimension, configuration_long, roots_good, accepted}
use Rattle.code.specs.Bits.{row_long}
use Rattle.code.specs.Promise.{AcceptedTen, CodesAccepted, ParametersAccepted, AcceptedInside, EncodesOnce, MessageGood, EncodedRead, ReadEncoded}
use Rattle.code.proofs.Words as W
use Rattle.code.proofs.Words.{drop_below, CodewordParts, codeword_parts}
use Rattle.refusal.specs.Refusal.{first}
use Rattle.refusal.proofs.Tests.{first_none, first_free}
use Rattle.code.specs.Calls.{EncodeSays, ReadSays, encode_refusal, member_refusal}
use Rattle.code.specs.Within.{MessageWithin}
use Rattle.code.proofs.Accepted.{
  le_or_lt,
  accepted_parts,
  number_accepted,
  parameters_taken,
  encode_accepts,
  encode_taken,
  Member,
  member_accepts,
  member_taken,
  outcome_zero,
  outcome_taken,
}
use Rattle.code.proofs.Encoding.{encode, encode_good, encode_top, codeword_is}

-- a rule at each code number
pub codes {ℓ} : (P : ℕ → Type ℓ) → P 1 → P 2 → P 3 → P 4 → P 5 → (c : ℕ) → code_good c ≡ true → P c
unfolding code_good
codes P a b d e f c g = go c (leb→le 1 c (and_l (leb 1 c) (leb c 5) (to_T g))) (leb→le c 5 (and_r (leb 1 c) (leb c 5) (to_T g)))
  where
    go : (c : ℕ) → 1 ≤ c → c ≤ 5 → P c
    go zero l h = absurd (not-suc-le-zero l)
    go (suc zero) l h = a
    go (suc (suc zero)) l h = b
    go (suc (suc (suc zero))) l h = d
    go (suc (suc (suc (suc zero)))) l h = e
    go (suc (suc (suc (suc (suc zero))))) l h = f
    go (suc (suc (suc (suc (suc (suc c)))))) l h = absurd (omega arith)

pub few_codes : (c : ℕ) → code_good c ≡ true → c ≤ 5
unfolding code_good
few_codes c g = leb→le c 5 (and_r (leb 1 c) (leb c 5) (to_T g))

-- what holds of a code's m and r, and the other way round
module _ (P : ℕ → ℕ → Type 0) {a b m r : ℕ} (m_is : a ≡ m) (r_is : b ≡ r) where
  pub of_shape : P m r → P a b
  of_shape x = rw (m_is, r_is) x

  pub of_number : P a b → P m r
  of_number x = rw (← m_is, ← r_is) x

-- a row has at most 60 entries
pub row_small : (m : ℕ) → width_good m ≡ true → row_long m ≤ 60
unfolding row_long long
row_small = widths (λ (m : ℕ). row_long m ≤ 60) (lit≤ tt) (lit≤ tt)

-- beyond the ten, by the bounds
abbrev ten : (m r : ℕ) → Bool
ten m r = (eqb m 3 && (leb 1 r && leb r 6)) || (eqb m 4 && (eqb r 1 || (eqb r 2 || (eqb r 4 || eqb r 6))))

too_wide : (m r : ℕ) → 5 ≤ m → accepted m r ≡ ten m r
unfolding accepted width_good
too_wide m r h =
    let a : leb 3 m ≡ true = le-leb 3 m (omega arith) in
    let b : leb m 4 ≡ false = lt-leb m 4 h in
    let d : eqb m 3 ≡ false = ne_eqb m 3 (λ e. absurd (omega arith)) in
    let e : eqb m 4 ≡ false = ne_eqb m 4 (λ e. absurd (omega arith)) in
    rw (a, b, d, e) refl

too_many : (m r : ℕ) → width_good m ≡ true → 7 ≤ r → accepted m r ≡ ten m r
unfolding accepted roots_good
too_many m r w h =
    let a : leb 1 r ≡ true = le-leb 1 r (omega arith) in
    let b : leb r 6 ≡ false = lt-leb r 6 h in
    let d : eqb r 1 ≡ false = ne_eqb r 1 (λ e. absurd (omega arith)) in
    let e : eqb r 2 ≡ false = ne_eqb r 2 (λ e. absurd (omega arith)) in
    let f : eqb r 4 ≡ false = ne_eqb r 4 (λ e. absurd (omega arith)) in
    let g : eqb r 6 ≡ false = ne_eqb r 6 (λ e. absurd (omega arith)) in
    rw (w, a, b, d, e, f, g) (widths (λ m. false ≡ ((eqb m 3 && false) || (eqb m 4 && false))) refl refl m w)

some_of_ten : (m r : ℕ) → width_good m ≡ true → r < 7 → accepted m r ≡ ten m r
unfolding accepted roots_good configuration_long bch_dimension message_long long width_good
some_of_ten m r w h = same _ _ (at 7 (λ r. agree (accepted m r) (ten m r)) (widths (λ m. T (all 7 (λ r. agree (accepted m r) (ten m r)))) tt tt m w) r h)
  where
    agree : Bool → Bool → Bool
    agree a b = cond a b (not b)

    same : (a b : Bool) → T (agree a b) → a ≡ b
    same true true t = refl
    same true false t = absurd t
    same false true t = absurd t
    same false false t = refl

by_roots : (m r : ℕ) → width_good m ≡ true → (7 ≤ r) ⊎ (r < 7) → accepted m r ≡ ten m r
by_roots m r w (inl h) = too_many m r w h
by_roots m r w (inr h) = some_of_ten m r w h

pub accepted_ten : AcceptedTen
unfolding AcceptedTen accepted width_good
accepted_ten zero r = refl
accepted_ten (suc zero) r = refl
accepted_ten (suc (suc zero)) r = refl
accepted_ten (suc (suc (suc zero))) r = by_roots 3 r refl (le_or_lt 7 r)
accepted_ten (suc (suc (suc (suc zero)))) r = by_roots 4 r refl (le_or_lt 7 r)
accepted_ten (suc (suc (suc (suc (suc m))))) r = too_wide (suc (suc (suc (suc (suc m))))) r (omega arith)

pub codes_accepted : CodesAccepted
unfolding CodesAccepted
codes_accepted c g = number_accepted c

pub parameters_accepted : ParametersAccepted
unfolding ParametersAccepted
parameters_accepted = parameters_taken

pub accepted_inside : AcceptedInside
unfolding AcceptedInside
accepted_inside m r e = let p = accepted_parts m r e in (p.wide, p.some, p.six, p.few)

pub encodes_once : EncodesOnce
unfolding EncodesOnce message
encodes_once m r ms w small n g = (
  (encode m r 1 ms, encode_good m r w small ms n g, encode_top m w r 1 ms),
  (λ vs ws p q e f. codeword_is m r w small vs p ∙ ap (encode m r 1) (e ∙ sym f) ∙ sym (codeword_is m r w small ws q)),
)

pub message_good : MessageGood
unfolding MessageGood message message_long
message_good m r ws small g =
    let p : CodewordParts m r ws = codeword_parts m r ws g in
    (length-drop r ws ∙ ap (λ (x : ℕ). x - r) p.count, W.good m (drop r ws) (drop_below (2 ^ m) r ws p.symbols))

-- the two calls undo each other: a codeword's message is encoded to it, and only to it
pub encoded_read : EncodedRead
unfolding EncodedRead EncodeSays ReadSays
encoded_read z m k answer ms o ws q u good e n r =
    let f : (first z (encode_refusal m k ms (length o)) ≡ 0) × ((is_codeword m k ws ≡ true) × (message k ws ≡ ms)) = outcome_zero _ _ _ e in
    let g = first_none _ _ f.0 in
    let a = accepted_parts m k (good g.0) in
    let w : MessageWithin m k ms (length o) = encode_accepts m k a.wide a.few ms (length o) g.1 in
    let p : CodewordParts m k ws = codeword_parts m k ws f.1.0 in
    let t = member_taken m k ws (length q) (message_long m k) (record { count = p.count; room = n ∙ w.count; codeword = f.1.0 }) (W.good m ws p.symbols) in
    let d : (answer ≡ 0) × (u ≡ message k ws) = outcome_taken _ answer _ _ (first_free _ _ g.0 t) r in
    (d.0, d.1 ∙ f.1.1)

pub read_encoded : ReadEncoded
unfolding ReadEncoded EncodeSays ReadSays MessageGood EncodesOnce
read_encoded z m k answer ws o ms q u good r n e =
    let f : (first z (member_refusal m k ws (length o) (message_long m k)) ≡ 0) × (ms ≡ message k ws) = outcome_zero _ _ _ r in
    let h = first_none _ _ f.0 in
    let w : Member m k ws (length o) (message_long m k) = member_accepts m k ws (length o) _ h.1 in
    let a = accepted_parts m k (good h.0) in
    let small : k ≤ long m = omega (arith, a.few) in
    let g : (length (message k ws) ≡ message_long m k) × (symbols_good m (message k ws) ≡ true) = message_good m k ws small w.codeword in
    let count : length ms ≡ message_long m k = ap length f.1 ∙ g.0 in
    let symbols : symbols_good m ms ≡ true = ap (symbols_good m) f.1 ∙ g.1 in
    let t = encode_taken m k a.wide a.few ms (length q) (record { width = a.wide; few = a.few; count = count; room = n ∙ w.count; symbols = symbols }) in
    let d : (answer ≡ 0) × ((is_codeword m k u ≡ true) × (message k u ≡ ms)) = outcome_taken _ answer _ _ (first_free _ _ h.0 t) e in
    (d.0, (encodes_once m k ms a.wide small count symbols).1 u ws d.1.0 w.codeword d.1.1 (sym f.1))
