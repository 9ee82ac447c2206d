-- Sums of entries that the 1 bits of a number, of a binary word or of the symbols of a word pick. Such a sum adds; so what holds at each single
-- bit, which a test computes, holds at all of them.
-- Assumes nothing.
use Rattle.basics.proofs.Kit.{◌≡◌, refl, sym, ap, ap₂, ◌∙◌, Bool, true, false, cond, List, [], ◌∷◌, ◌++◌, ℕ, zero, suc, ◌/◌, ◌%◌, ◌^◌, ◌<◌, arith, length, get_or, take, eqb}
use mathlib.Core.List.{map}
use native.Mathlib.Nat.{mod-lt, zero-lt-suc, mod-one, pow-succ', div-one, div-div-eq-div-mul}
use lib.Bits as B
use native.Mathlib.Numerals.{add-one}
use lib.Pow as P
use lib.Pow.{pow_pos}
use Rattle.field.specs.Field.{xor}
use Rattle.field.proofs.Xor as X
use Rattle.split.specs.Members.{where_odd, picked}
use Rattle.split.proofs.Sums.{odd_either, odd_none, odd_map, none}
use Rattle.tails.specs.Tails.{added}

pub low : (j k : ℕ) → xor j k % 2 ≡ xor (j % 2) (k % 2)
unfolding xor
low j k = B.xor_mod j k 1

-- the lowest bit of a sum, and a sum where the lowest bit is 1
odd_add : (e j k : ℕ) → where_odd (xor j k) e ≡ xor (where_odd j e) (where_odd k e)
unfolding xor
odd_add e j k = ap (λ (x : ℕ). cond (eqb x 0) 0 e) (low j k) ∙ go (j % 2) (k % 2) (mod-lt j (zero-lt-suc 1)) (mod-lt k (zero-lt-suc 1))
  where
    go : (b d : ℕ) → b < 2 → d < 2 → cond (eqb (xor b d) 0) 0 e ≡ xor (cond (eqb b 0) 0 e) (cond (eqb d 0) 0 e)
    go zero d hb hd = sym (X.zero_l (cond (eqb d 0) 0 e))
    go (suc zero) zero hb hd = sym (X.zero_r e)
    go (suc zero) (suc zero) hb hd = sym (X.self e)
    go (suc zero) (suc (suc d)) hb hd = absurd (omega arith)
    go (suc (suc b)) d hb hd = absurd (omega arith)

odd_sum : (k x y : ℕ) → where_odd k (xor x y) ≡ xor (where_odd k x) (where_odd k y)
odd_sum k x y = go (eqb (k % 2) 0)
  where
    go : (b : Bool) → cond b 0 (xor x y) ≡ xor (cond b 0 x) (cond b 0 y)
    go true = sym (X.self 0)
    go false = refl

-- ---- lists of entries
pub picked_add : (es : List ℕ) (j k : ℕ) → picked es (xor j k) ≡ xor (picked es j) (picked es k)
unfolding picked
picked_add [] j k = sym (X.self 0)
picked_add (e ∷ es) j k =
    ap₂ xor (odd_add e j k) (ap (picked es) (X.half j k) ∙ picked_add es (j / 2) (k / 2))
    ∙ X.cross (where_odd j e) (where_odd k e) (picked es (j / 2)) (picked es (k / 2))

pub picked_zero : (es : List ℕ) → picked es 0 ≡ 0
picked_zero es = none (picked es) (picked_add es)

-- a single bit picks its entry
pub picked_bit : (es : List ℕ) (b : ℕ) → picked es (2 ^ b) ≡ get_or es b 0
unfolding picked
picked_bit [] b = refl
picked_bit (e ∷ es) zero = ap (xor e) (picked_zero es) ∙ X.zero_r e
picked_bit (e ∷ es) (suc b) =
    let low : 2 ^ suc b % 2 ≡ 0 = omega (arith, pow-succ' 2 b) in
    let high : 2 ^ suc b / 2 ≡ 2 ^ b = omega (arith, pow-succ' 2 b) in
    ap₂ (λ (x y : ℕ). xor (cond (eqb x 0) 0 e) (picked es y)) low high ∙ X.zero_l (picked es (2 ^ b)) ∙ picked_bit es b

pub added_through : (fs hs bs : List ℕ) → picked fs (added hs bs) ≡ added (map (picked fs) hs) bs
unfolding added
added_through fs [] bs = picked_zero fs
added_through fs (h ∷ hs) [] = picked_zero fs
added_through fs (h ∷ hs) (zero ∷ bs) = picked_add fs 0 (added hs bs) ∙ ap₂ xor (picked_zero fs) (added_through fs hs bs)
added_through fs (h ∷ hs) (suc b ∷ bs) = picked_add fs h (added hs bs) ∙ ap (xor (picked fs h)) (added_through fs hs bs)

-- the entries after the first few, and the first few alone
pub halves : (k l : ℕ) → k / 2 / 2 ^ l ≡ k / 2 ^ suc l
halves k l = rw (pow-succ' 2 l) (div-div-eq-div-mul k 2 (2 ^ l))

pub picked_append : (xs ys : List ℕ) (k : ℕ) → picked (xs ++ ys) k ≡ xor (picked xs k) (picked ys (k / 2 ^ length xs))
unfolding picked
picked_append [] ys k = sym (X.zero_l (picked ys (k / 1)) ∙ ap (picked ys) (div-one k))
picked_append (x ∷ xs) ys k =
    ap (xor (where_odd k x)) (picked_append xs ys (k / 2) ∙ ap (λ (y : ℕ). xor (picked xs (k / 2)) (picked ys y)) (halves k (length xs)))
    ∙ sym (X.assoc (where_odd k x) (picked xs (k / 2)) (picked ys (k / 2 ^ suc (length xs))))

pub picked_take : (l : ℕ) (es : List ℕ) (k : ℕ) → picked (take l es) k ≡ picked es (k % 2 ^ l)
unfolding picked
picked_take zero es k = sym (ap (picked es) (mod-one k) ∙ picked_zero es)
picked_take (suc l) [] k = refl
picked_take (suc l) (e ∷ es) k =
    let low : k % 2 ^ suc l % 2 ≡ k % 2 = rw (← add-one l) (P.mod-mod-pow k l 1) in
    let high : k % 2 ^ suc l / 2 ≡ k / 2 % 2 ^ l = rw (← add-one l) (P.field k l 1) in
    ap₂ xor (ap (λ (x : ℕ). cond (eqb x 0) 0 e) (sym low)) (picked_take l es (k / 2) ∙ ap (picked es) (sym high))

-- ---- the sum of f x over the 1 bits x of k below a bound
unfoldable pub chosen : (count : ℕ) → (f : ℕ → ℕ) → (k : ℕ) → ℕ
chosen zero f k = 0
chosen (suc c) f k = xor (where_odd k (f 0)) (chosen c (λ x. f (suc x)) (k / 2))

pub picked_chosen : (es : List ℕ) (k : ℕ) → picked es k ≡ chosen (length es) (λ x. get_or es x 0) k
unfolding picked chosen
picked_chosen [] k = refl
picked_chosen (e ∷ es) k = ap (xor (where_odd k e)) (picked_chosen es (k / 2))

pub chosen_through : (fs : List ℕ) (c : ℕ) (f : ℕ → ℕ) (k : ℕ) → picked fs (chosen c f k) ≡ chosen c (λ x. picked fs (f x)) k
unfolding chosen
chosen_through fs zero f k = picked_zero fs
chosen_through fs (suc c) f k =
    picked_add fs (where_odd k (f 0)) (chosen c (λ x. f (suc x)) (k / 2)) ∙ ap₂ xor (odd_map (picked fs) (picked_zero fs) k (f 0)) (chosen_through fs c (λ x. f (suc x)) (k / 2))

pub chosen_sum : (c : ℕ) (f g : ℕ → ℕ) (k : ℕ) → chosen c (λ x. xor (f x) (g x)) k ≡ xor (chosen c f k) (chosen c g k)
unfolding chosen
chosen_sum zero f g k = sym (X.self 0)
chosen_sum (suc c) f g k =
    ap₂ xor (odd_sum k (f 0) (g 0)) (chosen_sum c (λ x. f (suc x)) (λ x. g (suc x)) (k / 2))
    ∙ X.cross (where_odd k (f 0)) (where_odd k (g 0)) (chosen c (λ x. f (suc x)) (k / 2)) (chosen c (λ x. g (suc x)) (k / 2))

pub chosen_same : (c : ℕ) (f g : ℕ → ℕ) (k : ℕ) → ((x : ℕ) → x < c → f x ≡ g x) → chosen c f k ≡ chosen c g k
unfolding chosen
chosen_same zero f g k h = refl
chosen_same (suc c) f g k h =
    ap₂ (λ (x y : ℕ). xor (where_odd k x) y) (h 0 (omega arith)) (chosen_same c (λ x. f (suc x)) (λ x. g (suc x)) (k / 2) (λ x l. h (suc x) (omega arith)))

pub chosen_none : (c k : ℕ) → chosen c (λ x. 0) k ≡ 0
unfolding chosen
chosen_none zero k = refl
chosen_none (suc c) k = ap₂ xor (odd_none k) (chosen_none c (k / 2)) ∙ X.self 0

pub chosen_lt : (p c : ℕ) (f : ℕ → ℕ) (k : ℕ) → ((x : ℕ) → x < c → f x < 2 ^ p) → chosen c f k < 2 ^ p
unfolding chosen
chosen_lt p zero f k h = pow_pos p
chosen_lt p (suc c) f k h =
    X.below p (where_odd k (f 0)) (chosen c (λ x. f (suc x)) (k / 2)) (odd_either (λ x. x < 2 ^ p) k (f 0) (pow_pos p) (h 0 (omega arith)))
    (chosen_lt p c (λ x. f (suc x)) (k / 2) (λ x l. h (suc x) (omega arith)))

-- ---- the same over the symbols of a word: the sum of f i j over the positions i and the layers j of its 1 bits
unfoldable pub over : (m : ℕ) → (f : ℕ → ℕ → ℕ) → (word : List ℕ) → ℕ
over m f [] = 0
over m f (c ∷ cs) = xor (chosen m (f 0) c) (over m (λ i. f (suc i)) cs)

module _ (m : ℕ) where
  pub over_through : (fs : List ℕ) (f : ℕ → ℕ → ℕ) (ws : List ℕ) → picked fs (over m f ws) ≡ over m (λ i j. picked fs (f i j)) ws
  unfolding over
  over_through fs f [] = picked_zero fs
  over_through fs f (c ∷ cs) =
      picked_add fs (chosen m (f 0) c) (over m (λ i. f (suc i)) cs) ∙ ap₂ xor (chosen_through fs m (f 0) c) (over_through fs (λ i. f (suc i)) cs)

  pub over_sum : (f g : ℕ → ℕ → ℕ) (ws : List ℕ) → over m (λ i j. xor (f i j) (g i j)) ws ≡ xor (over m f ws) (over m g ws)
  unfolding over
  over_sum f g [] = sym (X.self 0)
  over_sum f g (c ∷ cs) =
      ap₂ xor (chosen_sum m (f 0) (g 0) c) (over_sum (λ i. f (suc i)) (λ i. g (suc i)) cs)
      ∙ X.cross (chosen m (f 0) c) (chosen m (g 0) c) (over m (λ i. f (suc i)) cs) (over m (λ i. g (suc i)) cs)

  pub over_same : (f g : ℕ → ℕ → ℕ) (ws : List ℕ) → ((i j : ℕ) → i < length ws → j < m → f i j ≡ g i j) → over m f ws ≡ over m g ws
  unfolding over
  over_same f g [] h = refl
  over_same f g (c ∷ cs) h =
      ap₂ xor (chosen_same m (f 0) (g 0) c (λ j l. h 0 j (omega arith) l)) (over_same (λ i. f (suc i)) (λ i. g (suc i)) cs (λ i j k l. h (suc i) j (omega arith) l))

  pub over_lt : (p : ℕ) (f : ℕ → ℕ → ℕ) (ws : List ℕ) → ((i j : ℕ) → i < length ws → j < m → f i j < 2 ^ p) → over m f ws < 2 ^ p
  unfolding over
  over_lt p f [] h = pow_pos p
  over_lt p f (c ∷ cs) h =
      X.below p (chosen m (f 0) c) (over m (λ i. f (suc i)) cs) (chosen_lt p m (f 0) c (λ j l. h 0 j (omega arith) l))
      (over_lt p (λ i. f (suc i)) cs (λ i j k l. h (suc i) j (omega arith) l))

  pub over_none : (ws : List ℕ) → over m (λ i j. 0) ws ≡ 0
  unfolding over
  over_none [] = refl
  over_none (c ∷ cs) = ap₂ xor (chosen_none m c) (over_none cs) ∙ X.self 0

-- ---- sums over four layers
abbrev pub four : (ℕ → ℕ) → ℕ
four f = xor (f 0) (xor (f 1) (xor (f 2) (f 3)))

pub four_same : (f g : ℕ → ℕ) → ((j : ℕ) → j < 4 → f j ≡ g j) → four f ≡ four g
four_same f g h = ap₂ xor (h 0 (omega arith)) (ap₂ xor (h 1 (omega arith)) (ap₂ xor (h 2 (omega arith)) (h 3 (omega arith))))

pub four_sum : (f g : ℕ → ℕ) → four (λ j. xor (f j) (g j)) ≡ xor (four f) (four g)
four_sum f g = ap (xor (xor (f 0) (g 0))) (ap (xor (xor (f 1) (g 1))) (X.cross (f 2) (g 2) (f 3) (g 3)) ∙ X.cross (f 1) (g 1) _ _) ∙ X.cross (f 0) (g 0) _ _

pub chosen_four : (c : ℕ) (f : ℕ → ℕ → ℕ) (k : ℕ) → chosen c (λ x. four (λ l. f l x)) k ≡ four (λ l. chosen c (f l) k)
chosen_four c f k =
    chosen_sum c (f 0) (λ x. xor (f 1 x) (xor (f 2 x) (f 3 x))) k
    ∙ ap (xor (chosen c (f 0) k)) (chosen_sum c (f 1) (λ x. xor (f 2 x) (f 3 x)) k ∙ ap (xor (chosen c (f 1) k)) (chosen_sum c (f 2) (f 3) k))

pub over_four : (m : ℕ) (f : ℕ → ℕ → ℕ → ℕ) (ws : List ℕ) → over m (λ i j. four (λ l. f l i j)) ws ≡ four (λ l. over m (f l) ws)
over_four m f ws =
    over_sum m (f 0) (λ i j. xor (f 1 i j) (xor (f 2 i j) (f 3 i j))) ws
    ∙ ap (xor (over m (f 0) ws)) (over_sum m (f 1) (λ i j. xor (f 2 i j) (f 3 i j)) ws ∙ ap (xor (over m (f 1) ws)) (over_sum m (f 2) (f 3) ws))
