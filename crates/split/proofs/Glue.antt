-- A word is a codeword exactly when its layers' syndromes are a valid configuration: a syndrome holds a layer's value at every root.
-- Assumes nothing.
use Rattle.basics.proofs.Kit.{◌≡◌, refl, sym, ap, ap₂, ◌∙◌, Bool, true, ◌&&◌, cond, List, [], ◌∷◌, ℕ, zero, suc, ◌+◌, ◌*◌, ◌/◌, ◌%◌, ◌^◌, ◌≤◌, ◌<◌, arith, length, eqb, leb}
use mathlib.Core.Path.{subst}
use native.Mathlib.Nat.{mul_comm, add_comm, not-suc-le-zero}
use lib.Arith.{digits_div, digits_mod}
use lib.Dec.{le→leb}
use Rattle.field.specs.Field.{xor, times, times_from, doubled, alpha, width_good, square}
use Rattle.code.specs.Code.{long, value_at, vanishes, is_codeword}
use Rattle.split.specs.Split.{layer, number, numbered, syndrome, syndromes, syndromes_from, layer_value, glued, valid, valid_at}
use Rattle.split.specs.Promise.{GluedRight}
use Rattle.field.proofs.Tests.{widths, eq_below, to_T, from_T}
use Rattle.field.proofs.Field.{sum}
use Rattle.code.proofs.Words as W
use Rattle.code.proofs.Words.{Below, horner, eqb_true}
use Rattle.split.proofs.Layers as L

glued_sum : (k j m t r : ℕ) (ws : List ℕ) →
    glued j m t (syndromes_from k j m r ws) ≡ sum k j (λ i. times m (alpha m i) (layer_value m t (syndrome m r (layer i ws))))
unfolding glued syndromes_from sum
glued_sum zero j m t r ws = refl
glued_sum (suc k) j m t r ws = ap (xor (times m (alpha m j) (layer_value m t (syndrome m r (layer j ws))))) (glued_sum k (suc j) m t r ws)

low_part : (q a b : ℕ) → a < q → (a + q * b) % q ≡ a
low_part q a b h = ap (λ (x : ℕ). x % q) (add_comm a (q * b) ∙ ap (λ (x : ℕ). x + a) (mul_comm q b)) ∙ digits_mod b h

high_part : (q a b : ℕ) → a < q → (a + q * b) / q ≡ b
high_part q a b h = ap (λ (x : ℕ). x / q) (add_comm a (q * b) ∙ ap (λ (x : ℕ). x + a) (mul_comm q b)) ∙ digits_div b h

-- for m = 4 the value at α^5 is one of four
pub number_lt : (v : ℕ) → number v < 4
unfolding number
number_lt v = omega arith

four_horner : (bs : List ℕ) → Below 2 bs → numbered (number (horner 4 (alpha 4 5) bs)) ≡ horner 4 (alpha 4 5) bs
unfolding horner numbered number xor times times_from doubled alpha
four_horner [] b = refl
four_horner (c ∷ cs) b =
    let v : ℕ = horner 4 (alpha 4 5) cs in
    subst (λ (x : ℕ). numbered (number (xor c (times 4 6 x))) ≡ xor c (times 4 6 x)) (four_horner cs b.1)
    (eq_below 2 4 (λ c d. numbered (number (xor c (times 4 6 (numbered d))))) (λ c d. xor c (times 4 6 (numbered d))) tt c (number v) b.0 (number_lt v))

four : (bs : List ℕ) → Below 2 bs → numbered (number (value_at 4 5 bs)) ≡ value_at 4 5 bs
unfolding width_good
four bs b = rw (L.at_horner 4 refl 5 bs b) (four_horner bs b)

-- for m = 3 the fourth power of the value at α^3 is that at α^12, which is that at α^5
twelve : (bs : List ℕ) → Below 2 bs → value_at 3 12 bs ≡ value_at 3 5 bs
unfolding width_good alpha doubled xor
twelve bs b = L.at_horner 3 refl 12 bs b ∙ sym (L.at_horner 3 refl 5 bs b)

fifth : (m : ℕ) → width_good m ≡ true → (bs : List ℕ) → Below 2 bs →
    cond (eqb m 4) (numbered (cond (eqb m 4) (number (value_at m 5 bs)) 0)) (square m (square m (value_at m 3 bs))) ≡ value_at m 5 bs
unfolding width_good
fifth m w bs b =
    widths (λ (m : ℕ). cond (eqb m 4) (numbered (cond (eqb m 4) (number (value_at m 5 bs)) 0)) (square m (square m (value_at m 3 bs))) ≡ value_at m 5 bs)
    (sym (L.value_twice 3 refl 6 bs b ∙ ap (square 3) (L.value_twice 3 refl 3 bs b)) ∙ twelve bs b) (four bs b) m w

module _ (m : ℕ) (w : width_good m ≡ true) (r : ℕ) where
  -- the three parts of a syndrome
  first : (bs : List ℕ) → Below 2 bs → syndrome m r bs % 2 ^ m ≡ value_at m 1 bs
  unfolding syndrome
  first bs b = low_part (2 ^ m) (value_at m 1 bs) _ (L.at_lt m w 1 bs b)

  rest : (bs : List ℕ) → Below 2 bs → 3 ≤ r →
      syndrome m r bs / 2 ^ m ≡ value_at m 3 bs + 2 ^ m * cond (leb 5 r && eqb m 4) (number (value_at m 5 bs)) 0
  unfolding syndrome
  rest bs b h = high_part (2 ^ m) (value_at m 1 bs) _ (L.at_lt m w 1 bs b) ∙ rw (from_T (leb 3 r) (le→leb 3 r h))

  second : (bs : List ℕ) → Below 2 bs → 3 ≤ r → syndrome m r bs / 2 ^ m % 2 ^ m ≡ value_at m 3 bs
  second bs b h = rw (rest bs b h) (low_part (2 ^ m) (value_at m 3 bs) _ (L.at_lt m w 3 bs b))

  third : (bs : List ℕ) → Below 2 bs → 5 ≤ r → syndrome m r bs / 2 ^ m / 2 ^ m ≡ cond (eqb m 4) (number (value_at m 5 bs)) 0
  third bs b h =
      rw (rest bs b (omega arith)) (high_part (2 ^ m) (value_at m 3 bs) _ (L.at_lt m w 3 bs b) ∙ rw (from_T (leb 5 r) (le→leb 5 r h)))

  -- A SYNDROME HOLDS THE VALUES at the roots
  pub read : (t : ℕ) (bs : List ℕ) → Below 2 bs → r ≤ 6 → 1 ≤ t → t ≤ r → layer_value m t (syndrome m r bs) ≡ value_at m t bs
  unfolding layer_value
  read zero bs b small l h = absurd (not-suc-le-zero l)
  read (suc zero) bs b small l h = first bs b
  read (suc (suc zero)) bs b small l h = ap (square m) (first bs b) ∙ sym (L.value_twice m w 1 bs b)
  read (suc (suc (suc zero))) bs b small l h = second bs b h
  read (suc (suc (suc (suc zero)))) bs b small l h =
      ap (λ (x : ℕ). square m (square m x)) (first bs b) ∙ sym (L.value_twice m w 2 bs b ∙ ap (square m) (L.value_twice m w 1 bs b))
  read (suc (suc (suc (suc (suc zero))))) bs b small l h =
      ap₂ (λ (x y : ℕ). cond (eqb m 4) (numbered x) (square m (square m y))) (third bs b h) (second bs b (omega arith)) ∙ fifth m w bs b
  read (suc (suc (suc (suc (suc (suc zero)))))) bs b small l h = ap (square m) (second bs b (omega arith)) ∙ sym (L.value_twice m w 3 bs b)
  read (suc (suc (suc (suc (suc (suc (suc t))))))) bs b small l h = absurd (omega arith)

  pub glue_at : (t : ℕ) (ws : List ℕ) → Below (2 ^ m) ws → r ≤ 6 → 1 ≤ t → t ≤ r → value_at m t ws ≡ glued 0 m t (syndromes m r ws)
  unfolding syndromes
  glue_at t ws b small l h =
      L.value_split m w t ws b
      ∙ sym (glued_sum m 0 m t r ws ∙ L.sum_same m 0 (λ j. ap (times m (alpha m j)) (read t (layer j ws) (L.layer_below j ws) small l h)))

  glue_all : (k t : ℕ) (ws : List ℕ) → Below (2 ^ m) ws → r ≤ 6 → 1 ≤ t → t + k ≤ suc r → vanishes k t m ws ≡ valid_at k t m (syndromes m r ws)
  unfolding vanishes valid_at
  glue_all zero t ws b small l h = refl
  glue_all (suc k) t ws b small l h =
      ap₂ (λ (x : ℕ) (y : Bool). eqb x 0 && y) (glue_at t ws b small l (omega arith)) (glue_all k (suc t) ws b small (omega arith) (omega arith))

pub glued_right : GluedRight
unfolding GluedRight is_codeword valid
glued_right m r ws w h n g =
    ap₂ (λ (x y : Bool). (x && y) && vanishes r 1 m ws) (eqb_true (length ws) (long m) n) g
    ∙ glue_all m w r r 1 ws (W.below m ws (to_T g)) h (omega arith) (omega arith)
