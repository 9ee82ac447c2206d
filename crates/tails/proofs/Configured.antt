-- The valid configurations by number. A codeword's syndromes are one, that of the number of the sum that its tuple is; and each valid configuration is that
-- of the codeword that is 0 before its tail and has these syndromes.
-- Assumes nothing.
use Rattle.basics.proofs.Kit.{◌≡◌, refl, sym, ap, ap₂, ◌∙◌, Bool, true, cond, List, [], ◌∷◌, ℕ, zero, suc, ◌+◌, ◌-◌, ◌/◌, ◌%◌, ◌^◌, ◌≤◌, ◌<◌, arith, length, get_or, leb}
use mathlib.Core.Path.{subst}
use mathlib.Core.List.{map}
use mathlib.Core.Logic.{◌⊎◌, inl, inr}
use native.Mathlib.Nat.{not-suc-le-zero, le_of_suc-le-suc, zero-add, mul-one, div-eq_of_lt, lt_of_lt_of_le}
use lib.Dec.{T}
use lib.Pow.{pow_mono}
use lib.Seq.{ext_get_or}
use borrow.Author.Tests.{le-leb, lt-leb}
use Rattle.field.specs.Field.{xor, doubled, alpha}
use Rattle.field.proofs.Tests.{all, at, to_T}
use Rattle.field.proofs.Xor as X
use Rattle.code.specs.Code.{long, message_long, bch_dimension, is_codeword, syndrome_long, configuration_long, accepted}
use Rattle.code.proofs.Words.{Below, good, CodewordParts, codeword_parts}
use Rattle.split.specs.Split.{all_below, layer, number, column, cosets, syndrome, syndromes, syndromes_from, valid, Configuration}
use Rattle.split.specs.Members.{picked}
use Rattle.split.specs.Promise.{GluedRight, SyndromeInside}
use Rattle.split.proofs.Layers as L
use Rattle.split.proofs.Glue.{glued_right}
use Rattle.split.proofs.Cosets.{syndrome_inside}
use Rattle.split.proofs.Sums.{picked_lt, powers, picked_powers, same, picked_back}
use Rattle.split.proofs.Syndromes.{place_at, places}
use Rattle.tails.specs.Tails.{pick, added, columns, place_columns, marked, steps, step_count, moves, basis, combined, columns_back, syndrome_of, configuration_from, configuration}
use Rattle.tails.specs.Promise.{TailCosets, HasCosets, ConfiguredRight}
use Rattle.tails.proofs.Picked.{picked_add, four, four_same, four_sum}
use Rattle.tails.proofs.Accepted.{width_fine, roots_few, tested, le_or_lt}
use Rattle.tails.proofs.Cosets.{of_bits, syndrome_number, tail_cosets}
use Rattle.tails.proofs.Codewords.{codeword_sum, sum_codeword}
use Rattle.tails.proofs.Solved.{vectors}
use Rattle.tails.proofs.Words.{word, word_long, word_below, word_number}

-- ---- a layer that a word of m layers does not have
layer_none : (m j : ℕ) (hs ws : List ℕ) → Below (2 ^ m) ws → m ≤ j → added hs (layer j ws) ≡ 0
unfolding added layer
layer_none m j [] ws p l = refl
layer_none m j (h ∷ hs) [] p l = refl
layer_none m j (h ∷ hs) (c ∷ cs) p l =
    let e : c / 2 ^ j ≡ 0 = div-eq_of_lt (lt_of_lt_of_le p.0 (pow_mono l)) in
    ap₂ (λ (x y : ℕ). xor (pick (x % 2) 0 h) y) e (layer_none m j hs cs p.1 l) ∙ X.self 0

all_at : (n : ℕ) (ss : List ℕ) → Below n ss → (j : ℕ) → j < length ss → get_or ss j 0 < n
all_at n [] b j h = absurd (not-suc-le-zero h)
all_at n (s ∷ ss) b zero h = b.0
all_at n (s ∷ ss) b (suc j) h = all_at n ss b.1 j (le_of_suc-le-suc h)

at_all : (n : ℕ) (ss : List ℕ) → ((j : ℕ) → j < length ss → get_or ss j 0 < n) → Below n ss
at_all n [] f = tt
at_all n (s ∷ ss) f = (f 0 (omega arith), at_all n ss (λ j h. f (suc j) (omega arith)))

-- the syndromes of a word's layers are those of their cosets
from_cosets : (l j m r k : ℕ) (ws : List ℕ) → ((i : ℕ) → i < j + l → syndrome m r (layer i ws) ≡ syndrome_of m r (combined m r k i)) → syndromes_from l j m r ws ≡ configuration_from l j m r k
unfolding syndromes_from configuration_from
from_cosets zero j m r k ws f = refl
from_cosets (suc l) j m r k ws f = ap₂ (λ (x : ℕ) (xs : List ℕ). x ∷ xs) (f j (omega arith)) (from_cosets l (suc j) m r k ws (λ i h. f i (omega arith)))

module _ (m r : ℕ) (a : accepted m r ≡ true) where
  abbrev q : ℕ
  q = syndrome_long m r

  to_syndrome : (s : ℕ) → s < 2 ^ q → syndrome_of m r (picked (of_bits m q) s) ≡ s
  unfolding syndrome_of columns_back of_bits same powers picked column long number alpha doubled xor
  to_syndrome s =
      picked_back (syndrome_of m r) (picked_add (columns_back q (long m - 1) m r)) (of_bits m q) q s
      (tested (λ m r. same (map (syndrome_of m r) (of_bits m (syndrome_long m r))) (powers (syndrome_long m r) 0)) tt m r a)

  bits_small : (s : ℕ) → picked (of_bits m q) s < 2 ^ q
  unfolding of_bits all_below
  bits_small s =
      picked_lt q (of_bits m q) s (L.below (2 ^ q) (of_bits m q) (tested (λ m r. all_below (2 ^ syndrome_long m r) (of_bits m (syndrome_long m r))) tt m r a))

  -- the cosets of a sum: below 2^q, and 0 for a layer that is not there
  abbrev fits : (m r j : ℕ) → Bool
  fits m r j = all_below (2 ^ cond (leb m j) 0 (syndrome_long m r)) (basis m r j)

  sum_lt : (b j : ℕ) → j < 4 → combined m r b j < 2 ^ cond (leb m j) 0 q
  unfolding combined all_below picked place_columns marked steps step_count moves basis configuration_long message_long bch_dimension long xor
  sum_lt b j h = picked_lt (cond (leb m j) 0 q) (basis m r j) b (L.below (2 ^ cond (leb m j) 0 q) (basis m r j) (at 4 (fits m r) (tested (λ m r. all 4 (fits m r)) tt m r a) j h))

  sum_small : (b j : ℕ) → j < m → j < 4 → combined m r b j < 2 ^ q
  sum_small b j l h = subst (λ (x : Bool). combined m r b j < 2 ^ cond x 0 q) (lt-leb m j l) (sum_lt b j h)

  sum_none : (b j : ℕ) → m ≤ j → j < 4 → combined m r b j ≡ 0
  sum_none b j l h =
      let o : combined m r b j < 2 ^ 0 = subst (λ (x : Bool). combined m r b j < 2 ^ cond x 0 q) (le-leb m j l) (sum_lt b j h) in
      omega arith

  four_layers : m ≤ 4
  four_layers = L.width_small m (width_fine m r a)

  -- THE CODEWORD of a sum
  of_sum : ℕ → List ℕ
  of_sum b = word m r a (combined m r b)

  of_sum_has : (b : ℕ) → HasCosets m r (of_sum b) (combined m r b)
  unfolding of_sum
  of_sum_has b j h = go (le_or_lt m j)
    where
      go : (m ≤ j) ⊎ (j < m) → added (columns m r) (layer j (word m r a (combined m r b))) ≡ combined m r b j
      go (inl l) = layer_none m j (columns m r) (word m r a (combined m r b)) (word_below m r a (combined m r b)) l ∙ sym (sum_none b j l h)
      go (inr l) = word_number m r a (combined m r b) j l (sum_small b j l h)

  of_sum_long : (b : ℕ) → length (of_sum b) ≡ long m
  unfolding of_sum
  of_sum_long b = word_long m r a (combined m r b)

  of_sum_codeword : (b : ℕ) → is_codeword m r (of_sum b) ≡ true
  unfolding of_sum
  of_sum_codeword b = sum_codeword m r a (of_sum b) (of_sum_long b) (good m (of_sum b) (word_below m r a (combined m r b))) b (of_sum_has b)

  -- its syndromes
  cosets_syndromes : (ws : List ℕ) (b : ℕ) → length ws ≡ long m → HasCosets m r ws (combined m r b) → syndromes m r ws ≡ configuration m r b
  unfolding syndromes configuration
  cosets_syndromes ws b n c =
      from_cosets m 0 m r b ws
      (λ i h. let k : i < m = omega (arith, zero-add m) in syndrome_number m r a (layer i ws) (L.layer_binary m i ws n) ∙ ap (syndrome_of m r) (c i (omega (arith, four_layers))))

  of_sum_syndromes : (b : ℕ) → syndromes m r (of_sum b) ≡ configuration m r b
  of_sum_syndromes b = cosets_syndromes (of_sum b) b (of_sum_long b) (of_sum_has b)

  -- a codeword's syndromes are a valid configuration
  codeword_valid : (ws : List ℕ) → is_codeword m r ws ≡ true → Configuration m r (syndromes m r ws)
  unfolding GluedRight SyndromeInside
  codeword_valid ws g =
      let p : CodewordParts m r ws = codeword_parts m r ws g in
      let w = width_fine m r a in
      record {
        count = places m r ws;
        syndromes =
            L.all_of (cosets m r) (syndromes m r ws)
            (at_all (cosets m r) (syndromes m r ws)
            (λ j h. let k : j < m = omega (arith, places m r ws) in rw (place_at m r j ws k) (syndrome_inside m r (layer j ws) w (L.layer_binary m j ws p.count))));
        is_valid = sym (glued_right m r ws w (roots_few m r a) p.count (good m ws p.symbols)) ∙ g;
      }

  -- and a valid configuration is a codeword's
  module _ (ss : List ℕ) (c : Configuration m r ss) where
    of_place : ℕ → ℕ
    of_place j = picked (of_bits m q) (get_or ss j 0)

    place_small : (j : ℕ) → j < m → get_or ss j 0 < 2 ^ q
    unfolding cosets
    place_small j h = all_at (cosets m r) ss (L.below (cosets m r) ss (to_T c.syndromes)) j (omega (arith, c.count))

    of_valid : List ℕ
    of_valid = word m r a of_place

    of_valid_long : length of_valid ≡ long m
    unfolding of_valid
    of_valid_long = word_long m r a of_place

    of_valid_syndromes : syndromes m r of_valid ≡ ss
    unfolding of_valid of_place
    of_valid_syndromes =
        ext_get_or 0 (syndromes m r of_valid) ss (places m r of_valid ∙ sym c.count)
        (λ j h.
        let k : j < m = omega (arith, places m r of_valid) in
        place_at m r j of_valid k
        ∙ syndrome_number m r a (layer j of_valid) (L.layer_binary m j of_valid of_valid_long)
        ∙ ap (syndrome_of m r) (word_number m r a of_place j k (bits_small (get_or ss j 0)))
        ∙ to_syndrome (get_or ss j 0) (place_small j k))

    of_valid_codeword : is_codeword m r of_valid ≡ true
    unfolding GluedRight of_valid
    of_valid_codeword =
        glued_right m r of_valid (width_fine m r a) (roots_few m r a) of_valid_long (good m of_valid (word_below m r a of_place))
        ∙ ap (valid m r) of_valid_syndromes ∙ c.is_valid

    found : (k : ℕ) × (k < 2 ^ configuration_long m r) × (configuration m r k ≡ ss)
    found =
        let f = codeword_sum m r a of_valid of_valid_codeword in
        (f.0, f.1, sym (cosets_syndromes of_valid f.0 of_valid_long f.2) ∙ of_valid_syndromes)

  -- THE NUMBER from the cosets: it is back at each single bit, so at all
  abbrev back : (m r k : ℕ) → ℕ
  back m r k = four (λ j. picked (vectors m r j) (combined m r k j))

  back_add : (k l : ℕ) → back m r (xor k l) ≡ xor (back m r k) (back m r l)
  unfolding combined
  back_add k l =
      four_same _ _ (λ j h. ap (picked (vectors m r j)) (picked_add (basis m r j) k l) ∙ picked_add (vectors m r j) (combined m r k j) (combined m r l j))
      ∙ four_sum (λ j. picked (vectors m r j) (combined m r k j)) (λ j. picked (vectors m r j) (combined m r l j))

  back_bits : T (same (map (back m r) (powers (configuration_long m r) 0)) (powers (configuration_long m r) 0))
  unfolding same powers picked combined place_columns marked steps step_count moves basis configuration_long message_long bch_dimension long vectors xor
  back_bits = tested (λ m r. same (map (back m r) (powers (configuration_long m r) 0)) (powers (configuration_long m r) 0)) tt m r a

  number_back : (k : ℕ) → k < 2 ^ configuration_long m r → back m r k ≡ k
  number_back k h =
      let c : ℕ = configuration_long m r in
      ap (back m r) (sym (picked_powers c 0 k h ∙ mul-one k)) ∙ picked_back (back m r) back_add (powers c 0) c k back_bits h

  same_sum : (k l : ℕ) → configuration m r k ≡ configuration m r l → (j : ℕ) → j < 4 → combined m r k j ≡ combined m r l j
  unfolding TailCosets
  same_sum k l e j h = go (le_or_lt m j)
    where
      place : (b : ℕ) → j < m → syndrome m r (layer j (of_sum b)) ≡ get_or (configuration m r b) j 0
      place b o = sym (place_at m r j (of_sum b) o) ∙ ap (λ (ss : List ℕ). get_or ss j 0) (of_sum_syndromes b)

      go : (m ≤ j) ⊎ (j < m) → combined m r k j ≡ combined m r l j
      go (inl o) = sum_none k j o h ∙ sym (sum_none l j o h)
      go (inr o) =
          sym (of_sum_has k j h)
          ∙ (tail_cosets m r (layer j (of_sum k)) (layer j (of_sum l)) a (L.layer_binary m j (of_sum k) (of_sum_long k)) (L.layer_binary m j (of_sum l) (of_sum_long l))
          ).same_number (place k o ∙ ap (λ (ss : List ℕ). get_or ss j 0) e ∙ sym (place l o))
          ∙ of_sum_has l j h

pub configured_right : ConfiguredRight
unfolding ConfiguredRight
configured_right m r a = record {
  each_valid = λ k h. subst (λ (ss : List ℕ). Configuration m r ss) (of_sum_syndromes m r a k) (codeword_valid m r a (of_sum m r a k) (of_sum_codeword m r a k));
  none_missing = found m r a;
  once =
      λ k l hk hl e.
      sym (number_back m r a k hk) ∙ four_same _ _ (λ j h. ap (picked (vectors m r j)) (same_sum m r a k l e j h)) ∙ number_back m r a l hl;
}
