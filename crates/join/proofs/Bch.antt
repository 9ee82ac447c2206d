-- A binary word is a BCH word, with syndrome 0, exactly when it is a codeword: a syndrome is 0 exactly when the value at every root is. Then the words of
-- all layers, end to end.
-- Assumes nothing.
use Rattle.basics.proofs.Kit.{◌≡◌, refl, sym, ap, ap₂, ◌∙◌, Bool, true, false, ◌&&◌, cond, List, [], ◌∷◌, ℕ, zero, suc, ◌+◌, ◌%◌, ◌≤◌, ◌<◌, arith, length, eqb, leb, ltb}
use native.Mathlib.Nat.{div-one, mod-eq_of_lt, mul-zero, not-suc-le-zero, add-zero, zero-add, add-suc, suc-add, le_of_suc-le-suc}
use lib.Dec.{T, eqb→eq, leb→le}
use Rattle.field.specs.Field.{width_good, times, times_from, doubled, square, xor}
use Rattle.field.proofs.Tests.{widths, all, at, and_l, and_r, to_T, from_T}
use Rattle.code.specs.Code.{long, value_at, symbols_good, is_codeword}
use Rattle.code.specs.Bits.{row_long}
use Rattle.code.proofs.Accepted.{accepted_parts}
use Rattle.code.proofs.Words.{Below, codeword_parts, parts_codeword, eqb_true}
use Rattle.split.specs.Split.{layer, number, numbered, syndrome, layer_value, all_below, Binary}
use Rattle.split.proofs.Layers as L
use Rattle.split.proofs.Glue as G
use Rattle.join.specs.Calls.{part, is_bch, all_bch}
use Rattle.join.specs.Promise.{BchCodewords}
use Rattle.join.proofs.Parts.{part_length}

-- the values 0 and 1 are those below 2^1
pub two_is : (bs : List ℕ) → symbols_good 1 bs ≡ all_below 2 bs
unfolding symbols_good all_below
two_is [] = refl
two_is (b ∷ bs) = ap (λ (x : Bool). ltb b 2 && x) (two_is bs)

-- a binary word is its own first layer
pub layer_zero : (bs : List ℕ) → all_below 2 bs ≡ true → layer 0 bs ≡ bs
unfolding layer
layer_zero bs e = go bs (L.below 2 bs (to_T e))
  where
    go : (bs : List ℕ) → Below 2 bs → layer 0 bs ≡ bs
    go [] p = refl
    go (b ∷ bs) p = ap₂ ◌∷◌ (ap (λ (x : ℕ). x % 2) (div-one b) ∙ mod-eq_of_lt p.0) (go bs p.1)

-- two tests that hold together
pub both_ways : (a b : Bool) → (a ≡ true → b ≡ true) → (b ≡ true → a ≡ true) → a ≡ b
both_ways true b f g = sym (f refl)
both_ways false true f g = g refl
both_ways false false f g = refl

where_there : (c : Bool) (x : ℕ) → (T c → x ≡ 0) → cond c x 0 ≡ 0
where_there true x f = f tt
where_there false x f = refl

-- no value from the syndrome 0
value_none : (m t : ℕ) → width_good m ≡ true → t < 7 → layer_value m t 0 ≡ 0
unfolding layer_value numbered square times times_from doubled xor
value_none m t w h = eqb→eq _ 0 (at 7 (λ t. eqb (layer_value m t 0) 0) (widths (λ m. T (all 7 (λ t. eqb (layer_value m t 0) 0))) tt tt m w) t h)

module _ (m r : ℕ) (bs : List ℕ) (w : width_good m ≡ true) (some : 1 ≤ r) (six : r ≤ 6) (b : Binary m bs) where
  zero_values : syndrome m r bs ≡ 0 → (t : ℕ) → 1 ≤ t → t < 1 + r → value_at m t bs ≡ 0
  zero_values e t l h =
      sym (G.read m w r t bs (L.bits m bs b) six l (omega arith)) ∙ ap (layer_value m t) e ∙ value_none m t w (omega arith)

  zero_syndrome : ((t : ℕ) → 1 ≤ t → t < 1 + r → value_at m t bs ≡ 0) → syndrome m r bs ≡ 0
  unfolding syndrome number
  zero_syndrome z =
      let one : value_at m 1 bs ≡ 0 = z 1 (omega arith) (omega arith) in
      let three : cond (leb 3 r) (value_at m 3 bs) 0 ≡ 0 = where_there (leb 3 r) _ (λ t. z 3 (omega arith) (omega (arith, leb→le 3 r t))) in
      let five : cond (leb 5 r && eqb m 4) (number (value_at m 5 bs)) 0 ≡ 0 =
      where_there (leb 5 r && eqb m 4) _ (λ t. ap number (z 5 (omega arith) (omega (arith, leb→le 5 r (and_l (leb 5 r) (eqb m 4) t))))) in
      rw (one, three, five) (simp mul-zero)

  pub codeword_is : is_codeword m r bs ≡ eqb (syndrome m r bs) 0
  codeword_is =
      both_ways _ _ (λ c. eqb_true _ 0 (zero_syndrome (codeword_parts m r bs c).zeros))
      (λ s. parts_codeword m r bs (record {
        count = b.count;
        symbols = L.symbols m w bs (L.bits m bs b);
        zeros = zero_values (eqb→eq (syndrome m r bs) 0 (to_T s));
      }))

-- a BCH word, taken apart and put together
pub record Bch (m r : ℕ) (bs : List ℕ) : Type 0 where
  pub binary : Binary m bs
  pub none : syndrome m r bs ≡ 0

pub bch : (m r : ℕ) (bs : List ℕ) → length bs ≡ long m → is_bch m r bs ≡ true → Bch m r bs
unfolding is_bch
bch m r bs n e =
    let t : T (all_below 2 bs && eqb (syndrome m r bs) 0) = to_T e in
    record {
      binary = record { count = n; bits = from_T (all_below 2 bs) (and_l (all_below 2 bs) _ t) };
      none = eqb→eq (syndrome m r bs) 0 (and_r (all_below 2 bs) _ t);
    }

pub is_bch_of : (m r : ℕ) (bs : List ℕ) → Bch m r bs → is_bch m r bs ≡ true
unfolding is_bch
is_bch_of m r bs b = ap₂ (λ (x y : Bool). x && y) b.binary.bits (eqb_true _ 0 b.none)

-- of all layers
module _ (m r : ℕ) (bs : List ℕ) where
  pub each_bch : (k j i : ℕ) → all_bch k j m r bs ≡ true → i < k → is_bch m r (part m (j + i) bs) ≡ true
  unfolding all_bch
  each_bch zero j i e h = absurd (not-suc-le-zero h)
  each_bch (suc k) j zero e h = rw (add-zero j) (from_T _ (and_l (is_bch m r (part m j bs)) (all_bch k (suc j) m r bs) (to_T e)))
  each_bch (suc k) j (suc i) e h =
      rw (add-suc j i, ← suc-add j i) (each_bch k (suc j) i (from_T _ (and_r (is_bch m r (part m j bs)) (all_bch k (suc j) m r bs) (to_T e))) (le_of_suc-le-suc h))

  pub bch_each : (k j : ℕ) → ((i : ℕ) → i < k → is_bch m r (part m (j + i) bs) ≡ true) → all_bch k j m r bs ≡ true
  unfolding all_bch
  bch_each zero j f = refl
  bch_each (suc k) j f =
      ap₂ (λ (x y : Bool). x && y) (rw (add-zero j) at (f 0 (omega arith)))
      (bch_each k (suc j) (λ i h. rw (add-suc j i, ← suc-add j i) at (f (suc i) (omega arith))))

-- the word of a layer
pub word_of : (m r : ℕ) (bs : List ℕ) → length bs ≡ row_long m → all_bch m 0 m r bs ≡ true → (j : ℕ) → j < m → Bch m r (part m j bs)
word_of m r bs n e j h = bch m r (part m j bs) (part_length m j bs n h) (rw (zero-add j) at (each_bch m r bs m 0 j e h))

pub bch_codewords : BchCodewords
unfolding BchCodewords
bch_codewords m r bs a b = let p = accepted_parts m r a in codeword_is m r bs p.wide p.some p.six b
