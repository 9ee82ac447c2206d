-- The codewords are the words whose tuple of cosets is a sum of vectors of the basis. The tuple of a word and its values at the roots are sums over
-- its 1 bits, so two equations between them, tested at each bit, hold for every word: a tuple is a sum of the vectors and of a part that the values
-- alone make, so that a codeword's is a sum of vectors; and the values are those of the tuple, so that a sum of vectors has the values 0.
-- Assumes nothing.
use Rattle.basics.proofs.Kit.{◌≡◌, refl, sym, ap, ap₂, ◌∙◌, Bool, true, ◌&&◌, cond, List, [], ◌∷◌, ℕ, zero, suc, ◌+◌, ◌-◌, ◌*◌, ◌/◌, ◌%◌, ◌^◌, ◌≤◌, ◌<◌, arith, length, get_or, drop, eqb, ltb}
use mathlib.Core.Path.{fun_ext}
use native.Mathlib.Nat.{mod-lt, zero-lt-suc, div-one, zero-div, add-suc, suc-add, zero-add, pow-succ'}
use lib.Dec.{T, eqb→eq, ltb→lt}
use lib.Pow.{pow_mono}
use borrow.Author.Tests.{ne_eqb}
use Rattle.field.specs.Field.{width_good, xor, times, times_from, doubled, alpha}
use Rattle.field.proofs.Tests.{all, at, and_l, and_r, to_T, same_below, eq_below}
use Rattle.field.proofs.Xor as X
use Rattle.field.proofs.Field as F
use Rattle.code.specs.Code.{long, value_from, value_at, message_long, symbols_good, is_codeword, syndrome_long, bch_dimension, configuration_long, accepted}
use Rattle.code.proofs.Words.{Below, below, CodewordParts, codeword_parts, parts_codeword}
use Rattle.split.specs.Split.{layer}
use Rattle.split.specs.Members.{where_odd, picked}
use Rattle.split.proofs.Sums.{odd_none}
use Rattle.tails.specs.Tails.{pick, added, tail_columns, heads, columns, place_columns, marked, steps, step_count, moves, basis, basis_long, combined}
use Rattle.tails.specs.Promise.{HasCosets, CodewordsCombined}
use Rattle.tails.proofs.Picked.{halves, picked_zero, picked_chosen, chosen, chosen_none, chosen_same, chosen_through, over, over_through, over_sum, over_same, over_lt, over_none, four, four_same, chosen_four, over_four}
use Rattle.tails.proofs.Accepted.{width_fine, tested}
use Rattle.tails.proofs.Solved.{vectors, left_over}

-- ---- a layer's coset as a sum over the bits of the word: those of the other layers add nothing
unfoldable here : (x j h : ℕ) → ℕ
here zero zero h = h
here zero (suc j) h = 0
here (suc x) zero h = 0
here (suc x) (suc j) h = here x j h

chosen_at : (m j c h : ℕ) → c < 2 ^ m → chosen m (λ x. here x j h) c ≡ where_odd (c / 2 ^ j) h
unfolding chosen here
chosen_at zero j c h l =
    let e : c ≡ 0 = omega arith in
    sym (rw (e, zero-div (2 ^ j)) refl)
chosen_at (suc m) zero c h l = ap (xor (where_odd c h)) (chosen_none m (c / 2)) ∙ X.zero_r (where_odd c h) ∙ ap (λ (x : ℕ). where_odd x h) (sym (div-one c))
chosen_at (suc m) (suc j) c h l =
    ap₂ xor (odd_none c) (chosen_at m j (c / 2) h (omega (arith, pow-succ' 2 m)))
    ∙ X.zero_l (where_odd (c / 2 / 2 ^ j) h) ∙ ap (λ (x : ℕ). where_odd x h) (halves c j)

bit_picks : (b h : ℕ) → pick b 0 h ≡ cond (eqb b 0) 0 h
bit_picks zero h = refl
bit_picks (suc b) h = rw (ne_eqb (suc b) 0 (λ e. omega arith))

module _ (m : ℕ) where
  layer_over : (j : ℕ) (hs ws : List ℕ) → length hs ≡ length ws → Below (2 ^ m) ws → added hs (layer j ws) ≡ over m (λ i x. here x j (get_or hs i 0)) ws
  unfolding added layer over
  layer_over j [] [] n p = refl
  layer_over j [] (c ∷ cs) n p = absurd (omega arith)
  layer_over j (h ∷ hs) [] n p = absurd (omega arith)
  layer_over j (h ∷ hs) (c ∷ cs) n p = ap₂ xor (bit_picks (c / 2 ^ j % 2) h ∙ sym (chosen_at m j c h p.0)) (layer_over j hs cs (omega arith) p.1)

-- ---- the value at α^t as such a sum
unfoldable doubles : (m j a : ℕ) → ℕ
doubles m zero a = a
doubles m (suc j) a = doubles m j (doubled m a)

-- that of a 1 in layer j at position i
unfoldable value : (m t i j : ℕ) → ℕ
value m t i j = doubles m j (alpha m ((i + 0) * t))

one_picks : (b a : ℕ) → b < 2 → cond (eqb b 1) a 0 ≡ cond (eqb b 0) 0 a
one_picks zero a h = refl
one_picks (suc zero) a h = refl
one_picks (suc (suc b)) a h = absurd (omega arith)

times_chosen : (k m a c : ℕ) → times_from k m a c ≡ chosen k (λ j. doubles m j a) c
unfolding times_from chosen doubles
times_chosen zero m a c = refl
times_chosen (suc k) m a c = ap₂ xor (one_picks (c % 2) a (mod-lt c (zero-lt-suc 1))) (times_chosen k m (doubled m a) (c / 2))

module _ (m : ℕ) (w : width_good m ≡ true) where
  from_over : (t i : ℕ) (ws : List ℕ) → Below (2 ^ m) ws → value_from m t i ws ≡ over m (λ k j. doubles m j (alpha m ((k + i) * t))) ws
  unfolding value_from over times
  from_over t i [] p = refl
  from_over t i (c ∷ cs) p =
      ap₂ xor
      (F.times_comm m w c (alpha m (i * t)) p.0 (F.alpha_lt m w (i * t)) ∙ times_chosen m m (alpha m (i * t)) c
      ∙ ap (λ (x : ℕ). chosen m (λ j. doubles m j (alpha m (x * t))) c) (sym (zero-add i)))
      (from_over t (suc i) cs p.1
      ∙ ap (λ (f : ℕ → ℕ). over m (λ k j. doubles m j (alpha m (f k * t))) cs) (fun_ext (λ k. add-suc k i ∙ sym (suc-add k i))))

  value_over : (t : ℕ) (ws : List ℕ) → Below (2 ^ m) ws → value_at m t ws ≡ over m (value m t) ws
  unfolding value_at value
  value_over t ws p = from_over t 0 ws p

-- ---- what the values at so many roots from α^t on add to a layer's coset, by a list of m entries for each
unfoldable returned : (m left t : ℕ) → (entries : List ℕ) → (i j : ℕ) → ℕ
returned m zero t es i j = 0
returned m (suc k) t es i j = xor (picked es (value m t i j)) (returned m k (suc t) (drop m es) i j)

returned_none : (m : ℕ) → width_good m ≡ true → (k t : ℕ) (es ws : List ℕ) → Below (2 ^ m) ws → ((s : ℕ) → t ≤ s → s < t + k → value_at m s ws ≡ 0) →
    over m (returned m k t es) ws ≡ 0
unfolding returned
returned_none m w zero t es ws p z = over_none m ws
returned_none m w (suc k) t es ws p z =
    over_sum m (λ i j. picked es (value m t i j)) (returned m k (suc t) (drop m es)) ws
    ∙ ap₂ xor
    (sym (over_through m es (value m t) ws) ∙ ap (picked es) (sym (value_over m w t ws p) ∙ z t (omega arith) (omega arith)) ∙ picked_zero es)
    (returned_none m w k (suc t) (drop m es) ws p (λ s l h. z s (omega arith) (omega arith)))
    ∙ X.self 0

-- the values of the words with a 1 in layer j at one position, from position i back
unfoldable values_back : (left i : ℕ) → (m t j : ℕ) → List ℕ
values_back zero i m t j = []
values_back (suc k) i m t j = value m t i j ∷ values_back k (i - 1) m t j

module _ (m r : ℕ) where
  -- what a 1 in layer x at position i adds to layer j's coset, and to the number of the sum of vectors
  abbrev coset_at : (j i x : ℕ) → ℕ
  coset_at j i x = here x j (get_or (columns m r) i 0)

  abbrev vector_at : (i x : ℕ) → ℕ
  vector_at i x = picked (vectors m r x) (get_or (columns m r) i 0)

  abbrev part_at : (j i x : ℕ) → ℕ
  part_at j i x = xor (picked (basis m r j) (vector_at i x)) (returned m r 1 (left_over m r j) i x)

  -- the value at α^t of each bit of layer j's coset
  abbrev root : (t j : ℕ) → List ℕ
  root t j = values_back (syndrome_long m r) (long m - 1) m t j

  abbrev read_at : (t i x : ℕ) → ℕ
  read_at t i x = four (λ j. picked (root t j) (coset_at j i x))

  -- THE TESTS
  abbrev counts : Bool
  counts = eqb (length (columns m r)) (long m) && all 4 (λ j. eqb (length (basis m r j)) (basis_long m r))

  abbrev numbers : Bool
  numbers = all (long m) (λ i. all m (λ x. ltb (vector_at i x) (2 ^ configuration_long m r)))

  abbrev solves : Bool
  solves = all 4 (λ j. same_below (long m) m (coset_at j) (part_at j))

  abbrev reads : Bool
  reads = all r (λ t. same_below (long m) m (value m (suc t)) (read_at (suc t)))

  abbrev vanish : Bool
  vanish = all r (λ t. all (basis_long m r) (λ x. eqb (four (λ j. picked (root (suc t) j) (get_or (basis m r j) x 0))) 0))

module _ (m r : ℕ) (a : accepted m r ≡ true) where
  counted : T (counts m r)
  unfolding columns heads tail_columns picked place_columns marked steps step_count moves basis basis_long configuration_long message_long bch_dimension long
  counted = tested counts tt m r a

  pub columns_long : length (columns m r) ≡ long m
  columns_long = eqb→eq _ _ (and_l (eqb (length (columns m r)) (long m)) _ (counted))

  basis_length : (j : ℕ) → j < 4 → length (basis m r j) ≡ basis_long m r
  basis_length j h = eqb→eq _ _ (at 4 (λ j. eqb (length (basis m r j)) (basis_long m r)) (and_r (eqb (length (columns m r)) (long m)) _ counted) j h)

  numbered : (i x : ℕ) → i < long m → x < m → vector_at m r i x < 2 ^ configuration_long m r
  unfolding columns heads tail_columns picked configuration_long message_long bch_dimension long vectors xor
  numbered i x h l = ltb→lt _ _ (at m (λ x. ltb (vector_at m r i x) (2 ^ configuration_long m r)) (at (long m) _ (tested numbers tt m r a) i h) x l)

  solved : (j i x : ℕ) → j < 4 → i < long m → x < m → coset_at m r j i x ≡ part_at m r j i x
  unfolding here doubles value returned columns heads tail_columns picked place_columns marked steps step_count moves basis configuration_long message_long bch_dimension long vectors left_over alpha doubled xor
  solved j i x g h l =
      eq_below (long m) m (coset_at m r j) (part_at m r j) (at 4 (λ j. same_below (long m) m (coset_at m r j) (part_at m r j)) (tested solves tt m r a) j g) i x h l

  read : (t i x : ℕ) → t < r → i < long m → x < m → value m (suc t) i x ≡ read_at m r (suc t) i x
  unfolding here doubles value values_back columns heads tail_columns picked long alpha doubled xor
  read t i x g h l =
      eq_below (long m) m (value m (suc t)) (read_at m r (suc t)) (at r (λ t. same_below (long m) m (value m (suc t)) (read_at m r (suc t))) (tested reads tt m r a) t g) i x h l

  none : (t x : ℕ) → t < r → x < basis_long m r → four (λ j. picked (root m r (suc t) j) (get_or (basis m r j) x 0)) ≡ 0
  unfolding doubles value values_back picked place_columns marked steps step_count moves basis basis_long configuration_long message_long bch_dimension long alpha doubled xor
  none t x g h = eqb→eq _ _ (at (basis_long m r) _ (at r _ (tested vanish tt m r a) t g) x h)

  module _ (ws : List ℕ) (n : length ws ≡ long m) (p : Below (2 ^ m) ws) where
    coset_over : (j : ℕ) → added (columns m r) (layer j ws) ≡ over m (coset_at m r j) ws
    coset_over j = layer_over m j (columns m r) ws (columns_long ∙ sym n) p

    -- A TUPLE is the sum of vectors, and of what the values return
    tuple_is : (j : ℕ) → j < 4 → added (columns m r) (layer j ws) ≡ xor (combined m r (over m (vector_at m r) ws) j) (over m (returned m r 1 (left_over m r j)) ws)
    unfolding combined
    tuple_is j h =
        coset_over j
        ∙ over_same m (coset_at m r j) (part_at m r j) ws (λ i x k l. solved j i x h (omega arith) l)
        ∙ over_sum m (λ i x. picked (basis m r j) (vector_at m r i x)) (returned m r 1 (left_over m r j)) ws
        ∙ ap (λ (y : ℕ). xor y (over m (returned m r 1 (left_over m r j)) ws)) (sym (over_through m (basis m r j) (vector_at m r) ws))

    number_lt : over m (vector_at m r) ws < 2 ^ configuration_long m r
    number_lt = over_lt m (configuration_long m r) (vector_at m r) ws (λ i x k l. numbered i x (omega arith) l)

    -- THE VALUES are those of the tuple
    value_is : (t : ℕ) → t < r → value_at m (suc t) ws ≡ four (λ j. picked (root m r (suc t) j) (added (columns m r) (layer j ws)))
    value_is t h =
        value_over m (width_fine m r a) (suc t) ws p
        ∙ over_same m (value m (suc t)) (read_at m r (suc t)) ws (λ i x k l. read t i x h (omega arith) l)
        ∙ over_four m (λ j i x. picked (root m r (suc t) j) (coset_at m r j i x)) ws
        ∙ four_same _ _ (λ j l. sym (over_through m (root m r (suc t) j) (coset_at m r j) ws) ∙ ap (picked (root m r (suc t) j)) (sym (coset_over j)))

    combined_value : (b t : ℕ) → t < r → HasCosets m r ws (combined m r b) → value_at m (suc t) ws ≡ 0
    unfolding combined
    combined_value b t h c =
        value_is t h
        ∙ four_same _ (λ j. chosen (basis_long m r) (λ x. picked (root m r (suc t) j) (get_or (basis m r j) x 0)) b)
        (λ j l.
        ap (picked (root m r (suc t) j)) (c j l ∙ picked_chosen (basis m r j) b ∙ ap (λ (k : ℕ). chosen k (λ x. get_or (basis m r j) x 0) b) (basis_length j l))
        ∙ chosen_through (root m r (suc t) j) (basis_long m r) (λ x. get_or (basis m r j) x 0) b)
        ∙ sym (chosen_four (basis_long m r) (λ j x. picked (root m r (suc t) j) (get_or (basis m r j) x 0)) b)
        ∙ chosen_same (basis_long m r) (λ x. four (λ j. picked (root m r (suc t) j) (get_or (basis m r j) x 0))) (λ x. 0) b (λ x l. none t x h l)
        ∙ chosen_none (basis_long m r) b

  -- a codeword's tuple is a sum of the vectors that are not there to make up four
  pub codeword_sum : (ws : List ℕ) → is_codeword m r ws ≡ true → (b : ℕ) × (b < 2 ^ configuration_long m r) × HasCosets m r ws (combined m r b)
  codeword_sum ws g =
      let p : CodewordParts m r ws = codeword_parts m r ws g in
      let b : ℕ = over m (vector_at m r) ws in (
        b,
        number_lt ws p.count p.symbols,
        (λ j h.
            tuple_is ws p.count p.symbols j h
            ∙ ap (xor (combined m r b j)) (returned_none m (width_fine m r a) r 1 (left_over m r j) ws p.symbols p.zeros) ∙ X.zero_r (combined m r b j)),
      )

  pub sum_codeword : (ws : List ℕ) → length ws ≡ long m → symbols_good m ws ≡ true → (b : ℕ) → HasCosets m r ws (combined m r b) → is_codeword m r ws ≡ true
  sum_codeword ws n g b c =
      let s : Below (2 ^ m) ws = below m ws (to_T g) in
      parts_codeword m r ws
      (record {
        count = n;
        symbols = s;
        zeros = λ t l k. let e : suc (t - 1) ≡ t = omega arith in ap (λ (x : ℕ). value_at m x ws) (sym e) ∙ combined_value ws n s b (t - 1) (omega arith) c;
      })

  at_most : configuration_long m r ≤ basis_long m r
  unfolding basis_long step_count
  at_most = omega arith

pub codewords_combined : CodewordsCombined
unfolding CodewordsCombined
codewords_combined m r a = record {
  none_missing = λ ws g. let f = codeword_sum m r a ws g in (f.0, omega (arith, f.1, pow_mono (at_most m r a)), f.2);
  none_else = λ ws n g b h c. sum_codeword m r a ws n g b c;
}
