-- The syndrome of a binary word is the sum of the columns of its 1 bits: values add, and a syndrome's parts are digits. So the syndrome of
-- a sum is the sum of the syndromes.
-- Assumes nothing.
use Rattle.basics.proofs.Kit.{◌≡◌, refl, sym, ap, ap₂, ◌∙◌, Bool, true, false, ◌&&◌, cond, List, [], ◌∷◌, ℕ, zero, suc, ◌+◌, ◌*◌, ◌/◌, ◌%◌, ◌^◌, ◌≤◌, ◌<◌, arith, length, get_or, drop, eqb, leb}
use native.Mathlib.Nat.{mul_comm, mul-zero, add_comm, zero-mod}
use native.Mathlib.Numerals.{add-one}
use lib.Dec.{eqb→eq}
use lib.ListN.{drop_of_length-le}
use lib.Seq.{drop-cons}
use lib.Bits as B
use lib.Pow.{pow_pos}
use Rattle.field.specs.Field.{xor, times, doubled, alpha, width_good}
use Rattle.code.specs.Code.{long, message_long, value_from, value_at, syndrome_long, bch_dimension, configuration_long, roots_good, accepted}
use Rattle.split.specs.Split.{layer, number, syndrome, column, columns_from, Binary, sum}
use Rattle.split.specs.Members.{where_odd}
use Rattle.split.specs.Promise.{SyndromeColumns}
use Rattle.field.proofs.Tests.{all, at, eq_below}
use Rattle.field.proofs.Xor as X
use Rattle.field.proofs.Field as F
use Rattle.code.proofs.Accepted.{at_each}
use Rattle.code.proofs.Words.{Below}
use Rattle.split.proofs.Layers as L
use Rattle.split.proofs.Syndromes.{size_small}

-- digits add one by one
digits_add : (m a b c d : ℕ) → a < 2 ^ m → c < 2 ^ m → xor (a + 2 ^ m * b) (c + 2 ^ m * d) ≡ xor a c + 2 ^ m * xor b d
unfolding xor
digits_add m a b c d ha hc =
    ap₂ xor (add_comm a (2 ^ m * b) ∙ ap (λ (x : ℕ). x + a) (mul_comm (2 ^ m) b)) (add_comm c (2 ^ m * d) ∙ ap (λ (x : ℕ). x + c) (mul_comm (2 ^ m) d))
    ∙ B.xor_block m b d a c ha hc ∙ add_comm (xor b d * 2 ^ m) (xor a c) ∙ ap (λ (x : ℕ). xor a c + x) (mul_comm (xor b d) (2 ^ m))

number_add : (u v : ℕ) → u < 16 → v < 16 → number (xor u v) ≡ xor (number u) (number v)
unfolding number xor
number_add = eq_below 16 16 (λ u v. number (xor u v)) (λ u v. xor (number u) (number v)) tt

if_add : (c : Bool) (x y : ℕ) → cond c (xor x y) 0 ≡ xor (cond c x 0) (cond c y 0)
if_add true x y = refl
if_add false x y = sym (X.self 0)

if_zero : (c : Bool) → ◌≡◌ {A = ℕ} (cond c 0 0) 0
if_zero true = refl
if_zero false = refl

if_lt : (c : Bool) (x n : ℕ) → x < n → cond c x 0 < n
if_lt true x n h = h
if_lt false x n h = omega arith

-- a syndrome from its three values
parts : (m r x y z : ℕ) → ℕ
parts m r x y z = x + 2 ^ m * (cond (leb 3 r) y 0 + 2 ^ m * cond (leb 5 r && eqb m 4) (number z) 0)

module _ (m r : ℕ) (w : width_good m ≡ true) where
  parts_add : (a b c x y z : ℕ) → a < 2 ^ m → b < 2 ^ m → c < 2 ^ m → x < 2 ^ m → y < 2 ^ m → z < 2 ^ m →
      parts m r (xor a x) (xor b y) (xor c z) ≡ xor (parts m r a b c) (parts m r x y z)
  unfolding parts
  parts_add a b c x y z ha hb hc hx hy hz =
      let s : 2 ^ m ≤ 16 = size_small m w in
      let d : Bool = leb 3 r in
      let f : Bool = leb 5 r && eqb m 4 in
      rw (if_add d b y, number_add c z (omega arith) (omega arith), if_add f (number c) (number z))
      (sym (digits_add m a (cond d b 0 + 2 ^ m * cond f (number c) 0) x (cond d y 0 + 2 ^ m * cond f (number z) 0) ha hx
      ∙ ap (λ (k : ℕ). xor a x + 2 ^ m * k) (digits_add m (cond d b 0) (cond f (number c) 0) (cond d y 0) (cond f (number z) 0) (if_lt d b (2 ^ m) hb) (if_lt d y (2 ^ m) hy))))

  from_lt : (t i : ℕ) (bs : List ℕ) → Below 2 bs → value_from m t i bs < 2 ^ m
  unfolding value_from
  from_lt t i [] p = pow_pos m
  from_lt t i (b ∷ bs) p =
      X.below m (times m b (alpha m (i * t))) (value_from m t (suc i) bs) (F.times_lt m w b (alpha m (i * t)) (L.bit m w p.0) (F.alpha_lt m w (i * t))) (from_lt t (suc i) bs p.1)

  from : (i : ℕ) → List ℕ → ℕ
  from i bs = parts m r (value_from m 1 i bs) (value_from m 3 i bs) (value_from m 5 i bs)

  zero_bit : (t i : ℕ) (bs : List ℕ) → value_from m t i (0 ∷ bs) ≡ value_from m t (suc i) bs
  unfolding value_from
  zero_bit t i bs = ap (λ (x : ℕ). xor x (value_from m t (suc i) bs)) (F.times_zero_l m w (alpha m (i * t)) (F.alpha_lt m w (i * t))) ∙ X.zero_l (value_from m t (suc i) bs)

  one_bit : (t i : ℕ) (bs : List ℕ) → value_from m t i (1 ∷ bs) ≡ xor (alpha m (i * t)) (value_from m t (suc i) bs)
  unfolding value_from
  one_bit t i bs = ap (λ (x : ℕ). xor x (value_from m t (suc i) bs)) (F.times_one m w (alpha m (i * t)) (F.alpha_lt m w (i * t)))

  is_column : (i : ℕ) → parts m r (alpha m (i * 1)) (alpha m (i * 3)) (alpha m (i * 5)) ≡ column m r i
  unfolding parts column
  is_column i = refl

  none : parts m r 0 0 0 ≡ 0
  unfolding parts number
  none = rw (if_zero (leb 3 r), if_zero (leb 5 r && eqb m 4)) (simp mul-zero)

  from_columns : (i : ℕ) (bs : List ℕ) → Below 2 bs → from i bs ≡ columns_from m r i bs
  unfolding from columns_from value_from
  from_columns i [] p = none
  from_columns i (zero ∷ bs) p =
      rw (zero_bit 1 i bs, zero_bit 3 i bs, zero_bit 5 i bs) (from_columns (suc i) bs p.1 ∙ sym (X.zero_l (columns_from m r (suc i) bs)))
  from_columns i (suc zero ∷ bs) p =
      rw (one_bit 1 i bs, one_bit 3 i bs, one_bit 5 i bs)
      (parts_add (alpha m (i * 1)) (alpha m (i * 3)) (alpha m (i * 5)) (value_from m 1 (suc i) bs) (value_from m 3 (suc i) bs) (value_from m 5 (suc i) bs)
      (F.alpha_lt m w (i * 1)) (F.alpha_lt m w (i * 3)) (F.alpha_lt m w (i * 5)) (from_lt 1 (suc i) bs p.1) (from_lt 3 (suc i) bs p.1) (from_lt 5 (suc i) bs p.1)
      ∙ ap₂ xor (is_column i) (from_columns (suc i) bs p.1))
  from_columns i (suc (suc b) ∷ bs) p = absurd (omega (arith, p.0))

pub syndrome_columns : SyndromeColumns
unfolding SyndromeColumns syndrome value_at from parts
syndrome_columns m r bs w b = from_columns m r w 0 bs (L.bits m bs b)

-- THE SUM of two binary words has the sum of their syndromes
bit_add : (b d c : ℕ) → b < 2 → d < 2 → cond (eqb (xor b d) 0) 0 c ≡ xor (cond (eqb b 0) 0 c) (cond (eqb d 0) 0 c)
unfolding xor
bit_add zero zero c h l = refl
bit_add zero (suc zero) c h l = refl
bit_add (suc zero) zero c h l = sym (X.zero_r c)
bit_add (suc zero) (suc zero) c h l = sym (X.self c)
bit_add zero (suc (suc d)) c h l = absurd (omega arith)
bit_add (suc zero) (suc (suc d)) c h l = absurd (omega arith)
bit_add (suc (suc b)) d c h l = absurd (omega arith)

pub columns_add : (m r i : ℕ) (bs ds : List ℕ) → length bs ≡ length ds → Below 2 bs → Below 2 ds →
    columns_from m r i (sum bs ds) ≡ xor (columns_from m r i bs) (columns_from m r i ds)
unfolding columns_from sum
columns_add m r i [] [] e p q = sym (X.self 0)
columns_add m r i [] (d ∷ ds) e p q = absurd (omega arith)
columns_add m r i (b ∷ bs) [] e p q = absurd (omega arith)
columns_add m r i (b ∷ bs) (d ∷ ds) e p q =
    ap₂ xor (bit_add b d (column m r i) p.0 q.0) (columns_add m r (suc i) bs ds (omega arith) p.1 q.1)
    ∙ X.cross (cond (eqb b 0) 0 (column m r i)) (cond (eqb d 0) 0 (column m r i)) (columns_from m r (suc i) bs) (columns_from m r (suc i) ds)

pub syndrome_sum : (m r : ℕ) (bs ds : List ℕ) → width_good m ≡ true → Binary m bs → Binary m ds →
    syndrome m r (sum bs ds) ≡ xor (syndrome m r bs) (syndrome m r ds)
unfolding SyndromeColumns
syndrome_sum m r bs ds w p q =
    syndrome_columns m r (sum bs ds) w (L.sum_binary m bs ds p q)
    ∙ columns_add m r 0 bs ds (p.count ∙ sym q.count) (L.bits m bs p) (L.bits m ds q)
    ∙ ap₂ xor (sym (syndrome_columns m r bs w p)) (sym (syndrome_columns m r ds w q))

-- FEWER ROOTS: the lowest bits of the columns of six, and of their sum
masked_column : (m r i : ℕ) → accepted m r ≡ true → i < long m → column m 6 i % 2 ^ syndrome_long m r ≡ column m r i
unfolding column number alpha doubled xor accepted roots_good configuration_long bch_dimension message_long long width_good
masked_column m r i a h =
    let test : ℕ → ℕ → Bool = λ m r. all (long m) (λ i. eqb (column m 6 i % 2 ^ syndrome_long m r) (column m r i)) in
    eqb→eq _ _ (at (long m) (λ i. eqb (column m 6 i % 2 ^ syndrome_long m r) (column m r i)) (at_each test tt tt m r a) i h)

masked_bit : (b : Bool) (x y n : ℕ) → x % n ≡ y → cond b 0 x % n ≡ cond b 0 y
masked_bit true x y n e = zero-mod n
masked_bit false x y n e = e

pub masked : (m r i : ℕ) (bs : List ℕ) → accepted m r ≡ true → i + length bs ≤ long m → columns_from m 6 i bs % 2 ^ syndrome_long m r ≡ columns_from m r i bs
unfolding columns_from xor
masked m r i [] a h = zero-mod (2 ^ syndrome_long m r)
masked m r i (b ∷ bs) a h =
    B.xor_mod (cond (eqb b 0) 0 (column m 6 i)) (columns_from m 6 (suc i) bs) (syndrome_long m r)
    ∙ ap₂ B.bit_xor (masked_bit (eqb b 0) (column m 6 i) (column m r i) (2 ^ syndrome_long m r) (masked_column m r i a (omega arith))) (masked m r (suc i) bs a (omega arith))

-- as a loop over the positions has it
pub column_step : (m j i x h : ℕ) (ws : List ℕ) → i < length ws → h ≡ column m 6 i →
    xor (xor x (where_odd (get_or ws i 0 / 2 ^ j % 2) h)) (columns_from m 6 (i + 1) (drop (i + 1) (layer j ws))) ≡ xor x (columns_from m 6 i (drop i (layer j ws)))
unfolding columns_from
column_step m j i x h ws l e =
    let k : i < length (layer j ws) = rw (L.layer_length j ws) l in
    let b : get_or ws i 0 / 2 ^ j % 2 % 2 ≡ get_or (layer j ws) i 0 = omega (arith, L.layer_at j ws i l) in
    rw (drop-cons (layer j ws) i 0 k, add-one i, e, b) (X.assoc x _ _)

pub column_end : (m i x : ℕ) (bs : List ℕ) → length bs ≤ i → xor x (columns_from m 6 i (drop i bs)) ≡ x
unfolding columns_from
column_end m i x bs h = rw (drop_of_length-le bs h) (X.zero_r x)
