-- The number of a layer's coset and its syndrome give each other: the sum of the syndromes of the tail's positions that the number picks is the
-- syndrome, and the sum of the numbers of a syndrome's bits is the number. Both are tested at each position.
-- Assumes nothing.
use Rattle.basics.proofs.Kit.{◌≡◌, refl, sym, ap, ◌∙◌, true, cond, List, [], ◌∷◌, ℕ, zero, suc, ◌-◌, ◌^◌, ◌<◌, arith, length, eqb}
use mathlib.Core.List.{map}
use lib.Pow.{pow_pos}
use Rattle.field.specs.Field.{xor, doubled, alpha}
use Rattle.field.proofs.Xor as X
use Rattle.code.specs.Code.{long, syndrome_long, accepted}
use Rattle.split.specs.Split.{number, syndrome, column, columns_from, all_below, Binary}
use Rattle.split.specs.Members.{picked}
use Rattle.split.specs.Promise.{SyndromeColumns}
use Rattle.split.proofs.Layers as L
use Rattle.split.proofs.Sums.{same, same_is}
use Rattle.split.proofs.Columns.{syndrome_columns}
use Rattle.code.proofs.Words.{Below}
use Rattle.tails.specs.Tails.{added, tail_columns, heads, columns, columns_back, syndrome_of}
use Rattle.tails.specs.Promise.{TailCosets}
use Rattle.tails.proofs.Picked.{added_through}
use Rattle.tails.proofs.Accepted.{width_fine, tested}

-- the syndromes of the words with a single 1, from position i on
unfoldable forth : (left i : ℕ) → (m r : ℕ) → List ℕ
forth zero i m r = []
forth (suc k) i m r = column m r i ∷ forth k (suc i) m r

from_added : (m r i : ℕ) (bs : List ℕ) → Below 2 bs → columns_from m r i bs ≡ added (forth (length bs) i m r) bs
unfolding columns_from added forth
from_added m r i [] p = refl
from_added m r i (zero ∷ bs) p = ap (xor 0) (from_added m r (suc i) bs p.1)
from_added m r i (suc zero ∷ bs) p = ap (xor (column m r i)) (from_added m r (suc i) bs p.1)
from_added m r i (suc (suc b) ∷ bs) p = absurd (omega (arith, p.0))

-- the coset of each bit of a syndrome
unfoldable pub of_bits : (m q : ℕ) → List ℕ
of_bits m q =
    cond (eqb m 3)
    (cond (eqb q 3) (6 ∷ 3 ∷ 7 ∷ [])
    (11 ∷ 58 ∷ 29 ∷ 52 ∷ 46 ∷ 57 ∷ []))
    (cond (eqb q 4) (12 ∷ 6 ∷ 3 ∷ 13 ∷ [])
    (cond (eqb q 8) (62 ∷ 31 ∷ 132 ∷ 66 ∷ 181 ∷ 43 ∷ 50 ∷ 209 ∷ [])
    (297 ∷ 806 ∷ 403 ∷ 891 ∷ 418 ∷ 316 ∷ 779 ∷ 209 ∷ 825 ∷ 558 ∷ [])))

added_lt : (p : ℕ) (hs bs : List ℕ) → Below (2 ^ p) hs → added hs bs < 2 ^ p
unfolding added
added_lt p [] bs h = pow_pos p
added_lt p (x ∷ hs) [] h = pow_pos p
added_lt p (x ∷ hs) (zero ∷ bs) h = X.below p 0 (added hs bs) (pow_pos p) (added_lt p hs bs h.1)
added_lt p (x ∷ hs) (suc b ∷ bs) h = X.below p x (added hs bs) h.0 (added_lt p hs bs h.1)

module _ (m r : ℕ) (a : accepted m r ≡ true) where
  pub columns_below : Below (2 ^ syndrome_long m r) (columns m r)
  unfolding columns heads tail_columns all_below
  columns_below = L.below (2 ^ syndrome_long m r) (columns m r) (tested (λ m r. all_below (2 ^ syndrome_long m r) (columns m r)) tt m r a)

  to_syndromes : map (syndrome_of m r) (columns m r) ≡ forth (long m) 0 m r
  unfolding columns heads tail_columns syndrome_of columns_back forth same picked column long number alpha doubled xor
  to_syndromes = same_is _ _ (tested (λ m r. same (map (syndrome_of m r) (columns m r)) (forth (long m) 0 m r)) tt m r a)

  to_numbers : map (picked (of_bits m (syndrome_long m r))) (forth (long m) 0 m r) ≡ columns m r
  unfolding columns heads tail_columns of_bits forth same picked column long number alpha doubled xor
  to_numbers = same_is _ _ (tested (λ m r. same (map (picked (of_bits m (syndrome_long m r))) (forth (long m) 0 m r)) (columns m r)) tt m r a)

  syndrome_added : (bs : List ℕ) → Binary m bs → syndrome m r bs ≡ added (forth (long m) 0 m r) bs
  unfolding SyndromeColumns
  syndrome_added bs b =
      syndrome_columns m r bs (width_fine m r a) b ∙ from_added m r 0 bs (L.bits m bs b) ∙ ap (λ (n : ℕ). added (forth n 0 m r) bs) b.count

  pub number_inside : (bs : List ℕ) → added (columns m r) bs < 2 ^ syndrome_long m r
  number_inside bs = added_lt (syndrome_long m r) (columns m r) bs columns_below

  pub syndrome_number : (bs : List ℕ) → Binary m bs → syndrome m r bs ≡ syndrome_of m r (added (columns m r) bs)
  unfolding syndrome_of
  syndrome_number bs b =
      syndrome_added bs b ∙ ap (λ (hs : List ℕ). added hs bs) (sym to_syndromes)
      ∙ sym (added_through (columns_back (syndrome_long m r) (long m - 1) m r) (columns m r) bs)

  pub number_syndrome : (bs : List ℕ) → Binary m bs → added (columns m r) bs ≡ picked (of_bits m (syndrome_long m r)) (syndrome m r bs)
  number_syndrome bs b =
      ap (λ (hs : List ℕ). added hs bs) (sym to_numbers) ∙ sym (added_through (of_bits m (syndrome_long m r)) (forth (long m) 0 m r) bs)
      ∙ ap (picked (of_bits m (syndrome_long m r))) (sym (syndrome_added bs b))

pub tail_cosets : TailCosets
unfolding TailCosets
tail_cosets m r bs ds a b d = record {
  inside = number_inside m r a bs;
  syndrome_is = syndrome_number m r a bs b;
  same_number = λ e. number_syndrome m r a bs b ∙ ap (picked (of_bits m (syndrome_long m r))) e ∙ sym (number_syndrome m r a ds d);
  same_syndrome = λ e. syndrome_number m r a bs b ∙ ap (syndrome_of m r) e ∙ sym (syndrome_number m r a ds d);
}
