-- What is known of a call's input where nothing is refused, and what a call says by its refusal.
-- Assumes nothing.
use Rattle.basics.proofs.Kit.{◌≡◌, refl, ap, Bool, true, false, ◌&&◌, not, cond, List, ℕ, ◌+◌, ◌-◌, ◌*◌, ◌≤◌, ◌<◌, arith, length, eqb, leb}
use mathlib.Core.Logic.{◌⊎◌, inl, inr}
use lib.Dec.{T, leb→le, nleb→lt, lit≤}
use borrow.Author.Tests.{eqb-true, eq-eqb}
use Rattle.field.specs.Field.{width_good}
use Rattle.field.proofs.Tests.{widths, all, at, and_l, and_r, to_T, from_T}
use Rattle.refusal.proofs.Tests.{passed, first_none}
use Rattle.refusal.specs.Refusal.{unless, first}
use Rattle.code.specs.Code.{code_good, number_refusal, width, roots, long, message_long, symbols_good, is_codeword, syndrome_long, bch_dimension, configuration_long, roots_good, accepted, parameter_refusal}
use Rattle.code.specs.Calls.{encode_refusal, word_refusal, member_refusal, check_refusal}
use Rattle.code.specs.Within.{WordWithin, MessageWithin}
pub use Rattle.refusal.proofs.Outcomes.{outcome_done, outcome_refused, outcome_zero, outcome_taken}

pub le_or_lt : (a b : ℕ) → (a ≤ b) ⊎ (b < a)
le_or_lt a b = go (leb a b) refl
  where
    go : (x : Bool) → leb a b ≡ x → (a ≤ b) ⊎ (b < a)
    go true e = inl (leb→le a b (to_T e))
    go false e = inr (nleb→lt a b (to_T (ap not e)))

-- what is known of a code that may be chosen
pub record Parts (m r : ℕ) : Type 0 where
  pub wide : width_good m ≡ true
  pub rooted : roots_good m r ≡ true
  pub some : 1 ≤ r
  pub six : r ≤ 6
  pub few : r < long m

accepted_wide : (m r : ℕ) → accepted m r ≡ true → width_good m ≡ true
unfolding accepted
accepted_wide m r e = from_T (width_good m) (and_l (width_good m) (roots_good m r) (to_T e))

accepted_roots : (m r : ℕ) → accepted m r ≡ true → roots_good m r ≡ true
unfolding accepted
accepted_roots m r e = from_T (roots_good m r) (and_r (width_good m) (roots_good m r) (to_T e))

roots_bounds : (m r : ℕ) → roots_good m r ≡ true → (1 ≤ r) × (r ≤ 6)
unfolding roots_good
roots_bounds m r e =
    let t = and_l (leb 1 r && leb r 6) _ (to_T e) in
    (leb→le 1 r (and_l (leb 1 r) (leb r 6) t), leb→le r 6 (and_r (leb 1 r) (leb r 6) t))

pub accepted_parts : (m r : ℕ) → accepted m r ≡ true → Parts m r
unfolding long
accepted_parts m r e =
    let w = accepted_wide m r e in
    let b = roots_bounds m r (accepted_roots m r e) in
    let n : 7 ≤ long m = widths (λ (m : ℕ). 7 ≤ long m) (lit≤ tt) (lit≤ tt) m w in
    record { wide = w; rooted = accepted_roots m r e; some = b.0; six = b.1; few = omega (arith, b.1) }

-- a test at each of them, computed at both widths
abbrev pub each : (f : (m r : ℕ) → Bool) → (m : ℕ) → Bool
each f m = all 7 (λ r. cond (accepted m r) (f m r) true)

pub at_each : (f : (m r : ℕ) → Bool) → T (each f 3) → T (each f 4) → (m r : ℕ) → accepted m r ≡ true → T (f m r)
at_each f t u m r e =
    let p = accepted_parts m r e in
    let h : r < 7 = omega (arith, p.six) in
    rw e at (at 7 (λ r. cond (accepted m r) (f m r) true) (widths (λ m. T (each f m)) t u m p.wide) r h)

-- m and r of any number are those of a code
pub number_accepted : (c : ℕ) → accepted (width c) (roots c) ≡ true
unfolding accepted roots_good configuration_long bch_dimension message_long long width_good width roots
number_accepted c = go (leb 3 c) (eqb c 2) (eqb c 4) (eqb c 5)
  where
    go : (a b d e : Bool) → accepted (cond a 4 3) (cond b 4 (cond d 4 (cond e 6 2))) ≡ true
    go true true d e = refl
    go true false true e = refl
    go true false false true = refl
    go true false false false = refl
    go false true d e = refl
    go false false true e = refl
    go false false false true = refl
    go false false false false = refl

pub width_fine : (c : ℕ) → width_good (width c) ≡ true
width_fine c = (accepted_parts (width c) (roots c) (number_accepted c)).wide

pub roots_few : (c : ℕ) → roots c < long (width c)
roots_few c = (accepted_parts (width c) (roots c) (number_accepted c)).few

pub width_small : (m : ℕ) → width_good m ≡ true → m ≤ 4
width_small = widths (λ (m : ℕ). m ≤ 4) (lit≤ tt) (lit≤ tt)

-- a symbol fits a byte
pub narrow : {m : ℕ} → width_good m ≡ true → m < 8
narrow {m} w = omega (arith, width_small m w)

-- a layer's syndrome has ten bits at most
pub syndrome_short : (m r : ℕ) → width_good m ≡ true → syndrome_long m r < 64
syndrome_short m r w = go (leb 3 r) (leb 5 r && eqb m 4)
  where
    go : (a b : Bool) → m + (cond a m 0 + cond b 2 0) < 64
    go true true = omega (arith, width_small m w)
    go true false = omega (arith, width_small m w)
    go false true = omega (arith, width_small m w)
    go false false = omega (arith, width_small m w)

-- the product, by the lengths of syndrome and word
pub syndrome_room : (m r : ℕ) → width_good m ≡ true → r ≤ 6 → (r ≤ syndrome_long m r) × (syndrome_long m r ≤ long m)
unfolding long
syndrome_room m r w h =
    let test : ℕ → ℕ → Bool = λ m r. leb r (syndrome_long m r) && leb (syndrome_long m r) (long m) in
    let l : r < 7 = omega arith in
    let t = at 7 (test m) (widths (λ m. T (all 7 (test m))) tt tt m w) r l in
    (leb→le r _ (and_l (leb r (syndrome_long m r)) _ t), leb→le _ (long m) (and_r (leb r (syndrome_long m r)) _ t))

pub product_is : (m r : ℕ) → width_good m ≡ true → r ≤ 6 → m * (syndrome_long m r - r) ≡ configuration_long m r
unfolding configuration_long message_long bch_dimension
product_is m r w h =
    let b = syndrome_room m r w h in
    let e : syndrome_long m r - r ≡ long m - r - (long m - syndrome_long m r) = omega (arith, b.0, b.1) in
    ap (λ (k : ℕ). m * k) e

pub product_small : (m r : ℕ) → width_good m ≡ true → r ≤ 6 → configuration_long m r ≤ 40
unfolding configuration_long message_long bch_dimension long
product_small m r w h =
    let l : r < 7 = omega arith in
    leb→le _ 40 (at 7 (λ r. leb (configuration_long m r) 40) (widths (λ m. T (all 7 (λ r. leb (configuration_long m r) 40))) tt tt m w) r l)

-- a number that is not refused is that of a code
pub number_taken : (c : ℕ) → number_refusal c ≡ 0 → code_good c ≡ true
unfolding number_refusal
number_taken c e = (passed _ _ _ e).0

-- and m and r that are not refused may be chosen
pub parameters_taken : (m r : ℕ) → parameter_refusal m r ≡ 0 → accepted m r ≡ true
unfolding parameter_refusal accepted
parameters_taken m r e = let a = passed _ _ _ e in rw (a.0, (passed _ _ _ a.1).0) refl

pub parameters_free : (m r : ℕ) → accepted m r ≡ true → parameter_refusal m r ≡ 0
unfolding parameter_refusal unless
parameters_free m r e = let p = accepted_parts m r e in rw (p.wide, p.rooted) refl

pub number_free : (c : ℕ) → code_good c ≡ true → number_refusal c ≡ 0
unfolding number_refusal unless
number_free c g = rw g

module _ (m r : ℕ) (w : width_good m ≡ true) (few : r < long m) where
  pub encode_accepts : (ms : List ℕ) (o : ℕ) → encode_refusal m r ms o ≡ 0 → MessageWithin m r ms o
  unfolding encode_refusal
  encode_accepts ms o e =
      let a = passed _ _ _ e in
      let b = passed _ _ _ a.1 in
      record {
        width = w;
        few = few;
        count = eqb-true (length ms) (message_long m r) a.0;
        room = eqb-true o (long m) b.0;
        symbols = (passed _ _ _ b.1).0;
      }

  -- and the other way round
  pub encode_taken : (ms : List ℕ) (o : ℕ) → MessageWithin m r ms o → encode_refusal m r ms o ≡ 0
  unfolding encode_refusal unless
  encode_taken ms o w = rw (eq-eqb _ _ w.count, eq-eqb _ _ w.room, w.symbols) refl

  pub check_accepts : (ws : List ℕ) → check_refusal m ws ≡ 0 → WordWithin m r ws
  unfolding check_refusal
  check_accepts ws e =
      let a = passed _ _ _ e in
      record { width = w; count = eqb-true (length ws) (long m) a.0; symbols = (passed _ _ _ a.1).0; few = few }

  pub word_accepts : (ws : List ℕ) (o k : ℕ) → word_refusal m ws o k ≡ 0 → WordWithin m r ws
  unfolding word_refusal
  word_accepts ws o k e =
      let a = passed _ _ _ e in
      let b = passed _ _ _ a.1 in
      record { width = w; count = eqb-true (length ws) (long m) a.0; symbols = (passed _ _ _ b.1).0; few = few }

-- a word that is read or split is a codeword, and the output has the room that it rules
pub record Member (m r : ℕ) (ws : List ℕ) (o k : ℕ) : Type 0 where
  pub count : length ws ≡ long m
  pub room : o ≡ k
  pub codeword : is_codeword m r ws ≡ true

module _ (m r : ℕ) (ws : List ℕ) (o k : ℕ) where
  pub member_accepts : member_refusal m r ws o k ≡ 0 → Member m r ws o k
  unfolding member_refusal word_refusal
  member_accepts e =
      let f = first_none _ _ e in
      let a = passed _ _ _ f.0 in
      record { count = eqb-true (length ws) (long m) a.0; room = eqb-true o k (passed _ _ _ a.1).0; codeword = (passed _ _ _ f.1).0 }

  pub member_taken : Member m r ws o k → symbols_good m ws ≡ true → member_refusal m r ws o k ≡ 0
  unfolding member_refusal word_refusal unless first
  member_taken w s = rw (eq-eqb _ _ w.count, eq-eqb _ _ w.room, s, w.codeword) refl
