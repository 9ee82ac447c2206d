-- The dimension of a BCH code. The columns of the first q positions, as many as a syndrome has bits, are independent, and the column of
-- each later position is a sum of some of them: so the last bits are free, and the first q follow from them.
-- Assumes nothing.
use Rattle.basics.proofs.Kit.{◌≡◌, refl, sym, ap, ap₂, ◌∙◌, Bool, true, ◌&&◌, not, cond, List, [], ◌∷◌, ◌++◌, ℕ, zero, suc, ◌+◌, ◌-◌, ◌*◌, ◌^◌, ◌≤◌, ◌<◌, arith, length, take, eqb, leb, ltb}
use native.Mathlib.Nat.{add-zero, zero-add, suc-add, add-suc}
use lib.Dec.{T, eqb→eq, leb→le}
use lib.ListN.{replicate, length-append, take-append-drop}
use lib.Seq.{drop_at, length-take-le}
use Rattle.field.specs.Field.{xor, doubled, alpha, width_good}
use Rattle.code.specs.Code.{width, roots, long, syndrome_long, bch_dimension}
use Rattle.code.specs.Bits.{bits_of}
use Rattle.split.specs.Split.{number, column, columns_from, Binary, BchEnding, sum}
use Rattle.split.specs.Promise.{SyndromeColumns, BchDimension, BchDimensions}
use Rattle.field.proofs.Tests.{all, at, and_l, and_r, to_T, widths}
use Rattle.field.proofs.Xor as X
use Rattle.code.proofs.Words.{Below}
use Rattle.split.proofs.Layers as L
use Rattle.split.proofs.Numbers.{bits_below}
use Rattle.split.proofs.Columns.{columns_add, syndrome_columns}

-- THE TESTS. No sum of some of so many columns from position i on is s; and none of these columns is a sum of later ones
clear : (m r left i s : ℕ) → Bool
clear m r zero i s = not (eqb s 0)
clear m r (suc k) i s = clear m r k (suc i) s && clear m r k (suc i) (xor (column m r i) s)

free : (m r left i : ℕ) → Bool
free m r zero i = true
free m r (suc k) i = free m r k (suc i) && clear m r k (suc i) (column m r i)

-- the first q positions of a word, as the bits of a number, that have the column of position q: the generator polynomial less its
-- first term; and those of the next position, from those of one
generator : (m r : ℕ) → ℕ
generator m r = cond (leb r 2) 3 (cond (eqb m 3) 63 (cond (leb r 4) 209 311))

next : (q g k : ℕ) → ℕ
next q g k = cond (ltb (2 * k) (2 ^ q)) (2 * k) (xor (2 * k - 2 ^ q) g)

-- they have the columns of so many positions from i on, and no bits have none
spans : (m r q left i k : ℕ) → Bool
spans m r q zero i k = eqb (columns_from m r 0 (bits_of q 0)) 0
spans m r q (suc l) i k = eqb (columns_from m r 0 (bits_of q k)) (column m r i) && spans m r q l (suc i) (next q (generator m r) k)

abbrev basis : (m r : ℕ) → Bool
basis m r = leb (syndrome_long m r) (long m) && (free m r (syndrome_long m r) 0 && spans m r (syndrome_long m r) (bch_dimension m r) (syndrome_long m r) (generator m r))

is_basis : (m r : ℕ) → width_good m ≡ true → r ≤ 6 → T (basis m r)
unfolding clear free generator next spans bch_dimension long column columns_from bits_of number alpha doubled xor
is_basis m r w h = at 7 (basis m) (widths (λ m. T (all 7 (basis m))) tt tt m w) r (omega arith)

module _ (m r : ℕ) where
  columns_append : (i : ℕ) (xs ds : List ℕ) → columns_from m r i (xs ++ ds) ≡ xor (columns_from m r i xs) (columns_from m r (i + length xs) ds)
  unfolding columns_from
  columns_append i [] ds = rw (add-zero) (sym (X.zero_l (columns_from m r i ds)))
  columns_append i (x ∷ xs) ds =
      let c : ℕ = cond (eqb x 0) 0 (column m r i) in
      ap (xor c) (columns_append (suc i) xs ds) ∙ sym (X.assoc c (columns_from m r (suc i) xs) (columns_from m r (suc i + length xs) ds))
      ∙ ap (λ (j : ℕ). xor (xor c (columns_from m r (suc i) xs)) (columns_from m r j ds)) (suc-add i (length xs) ∙ sym (add-suc i (length xs)))

  clear_at : (k i s : ℕ) (xs : List ℕ) → T (clear m r k i s) → length xs ≡ k → Below 2 xs → columns_from m r i xs ≡ s → ⊥
  unfolding clear columns_from
  clear_at zero i s [] t n p e = absurd (rw (← e) at t)
  clear_at zero i s (x ∷ xs) t n p e = absurd (omega arith)
  clear_at (suc k) i s [] t n p e = absurd (omega arith)
  clear_at (suc k) i s (zero ∷ xs) t n p e =
      clear_at k (suc i) s xs (and_l (clear m r k (suc i) s) _ t) (omega arith) p.1 (sym (X.zero_l (columns_from m r (suc i) xs)) ∙ e)
  clear_at (suc k) i s (suc zero ∷ xs) t n p e =
      clear_at k (suc i) (xor (column m r i) s) xs (and_r (clear m r k (suc i) s) _ t) (omega arith) p.1
      (sym (X.cancel (column m r i) (columns_from m r (suc i) xs)) ∙ ap (xor (column m r i)) e)
  clear_at (suc k) i s (suc (suc x) ∷ xs) t n p e = absurd (omega (arith, p.0))

  free_at : (k i : ℕ) (xs : List ℕ) → T (free m r k i) → length xs ≡ k → Below 2 xs → columns_from m r i xs ≡ 0 → xs ≡ replicate k 0
  unfolding free columns_from
  free_at zero i [] t n p e = refl
  free_at zero i (x ∷ xs) t n p e = absurd (omega arith)
  free_at (suc k) i [] t n p e = absurd (omega arith)
  free_at (suc k) i (zero ∷ xs) t n p e =
      ap (λ (l : List ℕ). 0 ∷ l) (free_at k (suc i) xs (and_l (free m r k (suc i)) _ t) (omega arith) p.1 (sym (X.zero_l (columns_from m r (suc i) xs)) ∙ e))
  free_at (suc k) i (suc zero ∷ xs) t n p e =
      absurd (clear_at k (suc i) (column m r i) xs (and_r (free m r k (suc i)) _ t) (omega arith) p.1
      (sym (X.cancel (column m r i) (columns_from m r (suc i) xs)) ∙ ap (xor (column m r i)) e ∙ X.zero_r (column m r i)))
  free_at (suc k) i (suc (suc x) ∷ xs) t n p e = absurd (omega (arith, p.0))

  -- the first q bits that have the columns of later ones
  record First (q i : ℕ) (ds : List ℕ) : Type 0 where
    xs : List ℕ
    count : length xs ≡ q
    binary : Below 2 xs
    same : columns_from m r 0 xs ≡ columns_from m r i ds

  spans_at : (q i k : ℕ) (ds : List ℕ) → T (spans m r q (length ds) i k) → Below 2 ds → First q i ds
  unfolding spans columns_from
  spans_at q i k [] t p = record { xs = bits_of q 0; count = L.bits_length q 0; binary = bits_below q 0; same = eqb→eq _ 0 t }
  spans_at q i k (d ∷ ds) t p =
      go d p.0 (spans_at q (suc i) (next q (generator m r) k) ds (and_r (eqb (columns_from m r 0 (bits_of q k)) (column m r i)) _ t) p.1)
    where
      go : (d : ℕ) → d < 2 → First q (suc i) ds → First q i (d ∷ ds)
      go zero h f = record { xs = f.xs; count = f.count; binary = f.binary; same = f.same ∙ sym (X.zero_l (columns_from m r (suc i) ds)) }
      go (suc zero) h f =
          let n : length (bits_of q k) ≡ length f.xs = L.bits_length q k ∙ sym f.count in
          record {
            xs = sum (bits_of q k) f.xs;
            count = L.sum_length (bits_of q k) f.xs n ∙ f.count;
            binary = L.sum_below (bits_of q k) f.xs (bits_below q k) f.binary;
            same =
                columns_add m r 0 (bits_of q k) f.xs n (bits_below q k) f.binary
                ∙ ap₂ xor (eqb→eq _ (column m r i) (and_l (eqb (columns_from m r 0 (bits_of q k)) (column m r i)) _ t)) f.same;
          }
      go (suc (suc d)) h f = absurd (omega arith)

take_below : (k : ℕ) (xs : List ℕ) → Below 2 xs → Below 2 (take k xs)
take_below zero xs p = tt
take_below (suc k) [] p = tt
take_below (suc k) (x ∷ xs) p = (p.0, take_below k xs p.1)

join_below : (xs ds : List ℕ) → Below 2 xs → Below 2 ds → Below 2 (xs ++ ds)
join_below [] ds p q = q
join_below (x ∷ xs) ds p q = (p.0, join_below xs ds p.1 q)

sum_zeros : (k : ℕ) (xs ys : List ℕ) → length xs ≡ length ys → sum xs ys ≡ replicate k 0 → xs ≡ ys
unfolding sum
sum_zeros k [] [] n e = refl
sum_zeros k [] (y ∷ ys) n e = absurd (omega arith)
sum_zeros k (x ∷ xs) [] n e = absurd (omega arith)
sum_zeros zero (x ∷ xs) (y ∷ ys) n e = absurd (omega (arith, ap length e))
sum_zeros (suc k) (x ∷ xs) (y ∷ ys) n e =
    let a : xor x y ≡ 0 = cc in
    let b : sum xs ys ≡ replicate k 0 = cc in
    ap₂ ◌∷◌ (X.same x y a) (sum_zeros k xs ys (omega arith) b)

module _ (m r : ℕ) (w : width_good m ≡ true) (h : r ≤ 6) (ds : List ℕ) (n : length ds ≡ bch_dimension m r) (p : Below 2 ds) where
  abbrev q : ℕ
  q = syndrome_long m r

  tests : T (free m r q 0 && spans m r q (bch_dimension m r) q (generator m r))
  tests = and_r (leb q (long m)) _ (is_basis m r w h)

  fits : q + length ds ≡ long m
  unfolding bch_dimension
  fits = omega (arith, leb→le q (long m) (and_l (leb q (long m)) _ (is_basis m r w h)))

  -- a word of the first bits and these
  split_columns : (xs : List ℕ) → length xs ≡ q → columns_from m r 0 (xs ++ ds) ≡ xor (columns_from m r 0 xs) (columns_from m r q ds)
  split_columns xs e = columns_append m r 0 xs ds ∙ ap (λ (i : ℕ). xor (columns_from m r 0 xs) (columns_from m r i ds)) (zero-add (length xs) ∙ e)

  made : (bs : List ℕ) × BchEnding m r ds bs
  unfolding SyndromeColumns
  made =
      let f : First m r q q ds = spans_at m r q q (generator m r) ds (rw n (and_r (free m r q 0) _ tests)) p in
      let b : Binary m (f.xs ++ ds) = record {
        count = length-append f.xs ds ∙ ap (λ (k : ℕ). k + length ds) f.count ∙ fits;
        bits = L.all_of 2 (f.xs ++ ds) (join_below f.xs ds f.binary p);
      } in (
        f.xs ++ ds,
        record {
          binary = b;
          of_code =
              syndrome_columns m r (f.xs ++ ds) w b ∙ split_columns f.xs f.count ∙ ap (λ (x : ℕ). xor x (columns_from m r q ds)) f.same
              ∙ X.self (columns_from m r q ds);
          ends = drop_at f.xs ds q f.count;
        },
      )

  module _ (bs : List ℕ) (e : BchEnding m r ds bs) where
    parts : take q bs ++ ds ≡ bs
    parts = rw (← e.ends) (take-append-drop q bs)

    take_length : length (take q bs) ≡ q
    take_length = length-take-le q bs (omega (arith, e.binary.count, fits))

    take_bits : Below 2 (take q bs)
    take_bits = take_below q bs (L.bits m bs e.binary)

    take_columns : columns_from m r 0 (take q bs) ≡ columns_from m r q ds
    unfolding SyndromeColumns
    take_columns =
        X.same (columns_from m r 0 (take q bs)) (columns_from m r q ds)
        (sym (split_columns (take q bs) take_length) ∙ ap (columns_from m r 0) parts ∙ sym (syndrome_columns m r bs w e.binary) ∙ e.of_code)

  only : (bs cs : List ℕ) → BchEnding m r ds bs → BchEnding m r ds cs → bs ≡ cs
  only bs cs e f =
      let l : length (take q bs) ≡ length (take q cs) = take_length bs e ∙ sym (take_length cs f) in
      let z : columns_from m r 0 (sum (take q bs) (take q cs)) ≡ 0 =
      columns_add m r 0 (take q bs) (take q cs) l (take_bits bs e) (take_bits cs f) ∙ ap₂ xor (take_columns bs e) (take_columns cs f) ∙ X.self (columns_from m r q ds) in
      sym (parts bs e)
      ∙ ap (λ (xs : List ℕ). xs ++ ds)
      (sum_zeros q (take q bs) (take q cs) l
      (free_at m r q 0 (sum (take q bs) (take q cs)) (and_l (free m r q 0) _ tests) (L.sum_length (take q bs) (take q cs) l ∙ take_length cs f)
      (L.sum_below (take q bs) (take q cs) (take_bits bs e) (take_bits cs f)) z))
      ∙ parts cs f

pub bch_dimension_right : BchDimension
unfolding BchDimension
bch_dimension_right m r ds w h n p = let b = L.below 2 ds (to_T p) in (made m r w h ds n b, only m r w h ds n b)

pub bch_dimensions : BchDimensions
unfolding BchDimensions bch_dimension width roots long
bch_dimensions = (refl, refl, refl, refl, refl)
