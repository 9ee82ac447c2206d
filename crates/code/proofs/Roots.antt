-- One turn of the loops over the roots: a division, and a multiplication from a place on.
-- Assumes nothing.
use Rattle.basics.proofs.Kit.{◌≡◌, refl, sym, ap, ap₂, ◌∙◌, true, List, ◌++◌, ℕ, zero, suc, ◌+◌, ◌-◌, ◌^◌, ◌≤◌, ◌<◌, arith, length, take, drop}
use native.Mathlib.Nat.{not-suc-le-zero}
use native.Mathlib.Numerals.{add-one}
use lib.ListN.{length-append}
use lib.Seq.{drop_at, length-take-le}
use lib.Pow.{pow_pos}
use Rattle.field.specs.Field.{width_good, alpha}
use Rattle.field.proofs.Tests.{to_T}
use Rattle.field.proofs.Field as F
use Rattle.code.specs.Code.{long, message_long, symbols_good, is_codeword, message}
use Rattle.code.specs.Division.{tails, product, divided, multiplied}
use Rattle.code.specs.Within.{PartWithin, MessageWithin, QuotientWithin, Carries}
use Rattle.code.proofs.Words.{below, good}
use Rattle.code.proofs.Encoding.{encode, encode_good, encode_top, encode_in_turn, tails_below, product_below}
use Rattle.code.proofs.Parts.{put_tail, tail_long}

-- the list so far: the message divided by t of them
pub record Dividing (m r : ℕ) (l p : List ℕ) (t : ℕ) : Type 0 where
  pub few : t ≤ r
  pub long : length p ≡ length l
  pub symbols : symbols_good m p ≡ true
  pub list : p ≡ divided m t l

pub dividing_start : (m r : ℕ) (l : List ℕ) → symbols_good m l ≡ true → Dividing m r l l 0
unfolding divided
dividing_start m r l g = record { few = omega arith; long = refl; symbols = g; list = refl }

pub dividing_turn : (m r : ℕ) (l p q : List ℕ) (t x : ℕ) → width_good m ≡ true → t < r → Dividing m r l p t →
    x ≡ alpha m (t + 1) → length q ≡ length p → q ≡ tails m x p → Dividing m r l q (t + 1)
unfolding divided
dividing_turn m r l p q t x w h d e n f = record {
  few = omega arith;
  long = n ∙ d.long;
  symbols =
      ap (symbols_good m) (f ∙ ap (λ (y : ℕ). tails m y p) e)
      ∙ good m (tails m (alpha m (t + 1)) p) (tails_below m w (alpha m (t + 1)) p (F.alpha_lt m w (t + 1)) (below m p (to_T d.symbols)));
  list = f ∙ ap₂ (tails m) e d.list ∙ next;
}
  where
    next : tails m (alpha m (t + 1)) (divided m t l) ≡ divided m (t + 1) l
    next = rw (add-one t) refl

pub dividing_end : (m r : ℕ) (l p : List ℕ) (t : ℕ) → r ≤ t → Dividing m r l p t → p ≡ divided m r l
dividing_end m r l p t h d =
    let e : t ≡ r = omega (arith, d.few) in
    d.list ∙ ap (λ (x : ℕ). divided m x l) e

-- multiplied by those above t, from place t on
pub record Multiplying (m r : ℕ) (l p : List ℕ) (t : ℕ) : Type 0 where
  pub few : t ≤ r
  pub long : length p ≡ length l
  pub symbols : symbols_good m (drop t p) ≡ true
  pub list : multiplied m t (drop t p) ≡ multiplied m r (drop r l)

pub multiplying_start : (m r : ℕ) (l : List ℕ) → symbols_good m (drop r l) ≡ true → Multiplying m r l l r
multiplying_start m r l g = record { few = omega arith; long = refl; symbols = g; list = refl }

pub multiplying_end : (m r : ℕ) (l p : List ℕ) (t : ℕ) → t ≤ 0 → Multiplying m r l p t → p ≡ multiplied m r (drop r l)
unfolding multiplied
multiplying_end m r l p zero h d = d.list
multiplying_end m r l p (suc t) h d = absurd (not-suc-le-zero h)

pub multiplying_turn : (m r : ℕ) (l p q : List ℕ) (t j x : ℕ) → width_good m ≡ true → t ≡ suc j → r ≤ length l → Multiplying m r l p t →
    x ≡ alpha m t → length q ≡ length p → q ≡ take j p ++ product m x 0 (drop (j + 1) p) → Multiplying m r l q j
unfolding multiplied
multiplying_turn m r l p q t j x w s room d e n f =
    let k : j + 1 ≡ t = omega (arith, add-one j) in
    let front : length (take j p) ≡ j = length-take-le j p (omega (arith, d.long, d.few)) in
    let part : drop j q ≡ product m (alpha m t) 0 (drop t p) =
    ap (drop j) f ∙ drop_at (take j p) (product m x 0 (drop (j + 1) p)) j front ∙ rw (k, e) refl in
    record {
      few = omega (arith, d.few);
      long = n ∙ d.long;
      symbols =
          ap (symbols_good m) part
          ∙ good m (product m (alpha m t) 0 (drop t p)) (product_below m w (alpha m t) 0 (drop t p) (F.alpha_lt m w t) (pow_pos m) (below m (drop t p) (to_T d.symbols)));
      list = ap (multiplied m j) part ∙ next ∙ d.list;
    }
  where
    next : multiplied m j (product m (alpha m t) 0 (drop t p)) ≡ multiplied m t (drop t p)
    next = rw s refl

divided_good : (m r : ℕ) (l : List ℕ) → width_good m ≡ true → symbols_good m l ≡ true → symbols_good m (divided m r l) ≡ true
unfolding divided
divided_good m zero l w g = g
divided_good m (suc r) l w g =
    good m (tails m (alpha m (suc r)) (divided m r l))
    (tails_below m w (alpha m (suc r)) (divided m r l) (F.alpha_lt m w (suc r)) (below m (divided m r l) (to_T (divided_good m r l w g))))

-- of a message that is not refused, and the output o
module _ (m r : ℕ) (ms o : List ℕ) (given : MessageWithin m r ms (length o)) where
  inside : r < 2 ^ m
  unfolding long
  inside = omega (arith, given.few)

  small : r ≤ length o
  small = omega (arith, given.few, given.room)

  -- its quotient fits the output from place r on
  pub quotient_fits : PartWithin m r ms × (length ms ≡ length (take (length o - r) (drop r o)))
  unfolding message_long
  quotient_fits = (
    record { width = given.width; point = inside; symbols = given.symbols },
    given.count ∙ ap (λ (n : ℕ). n - r) (sym given.room) ∙ sym (tail_long o r),
  )

  -- and with the quotient there the output is ready to be multiplied, and then carries the message
  module _ (q : List ℕ) (e : q ≡ divided m r ms) where
    put : List ℕ
    put = take r o ++ (q ++ drop (length o - r) (drop r o))

    drop_put : drop r put ≡ divided m r ms
    unfolding put
    drop_put = ap (drop r) (put_tail o r q) ∙ drop_at (take r o) q r (length-take-le r o small) ∙ e

    pub quotient_ready : QuotientWithin m r (take r o ++ (q ++ drop (length o - r) (drop r o)))
    unfolding put
    quotient_ready = record {
      width = given.width;
      few = inside;
      room = omega (arith, length-append (take r o) (q ++ drop (length o - r) (drop r o)), length-take-le r o small);
      symbols = ap (symbols_good m) drop_put ∙ divided_good m r ms given.width given.symbols;
    }

    pub codeword_written : (p : List ℕ) → p ≡ multiplied m r (drop r (take r o ++ (q ++ drop (length o - r) (drop r o)))) → Carries m r ms p
    unfolding put message
    codeword_written p f =
        let g : p ≡ encode m r 1 ms = f ∙ ap (multiplied m r) drop_put ∙ encode_in_turn m r ms in
        let s : r ≤ long m = omega (arith, given.few) in
        record {
          codeword = ap (is_codeword m r) g ∙ encode_good m r given.width s ms given.count given.symbols;
          carried = ap (drop r) g ∙ encode_top m given.width r 1 ms;
        }
