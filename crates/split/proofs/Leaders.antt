-- Each coset has one leader. The heads give a member of it and the rows every BCH word, so that their sums are all its members: the least of them
-- by weight and number leads, and no other can. Where a syndrome has m bits, the words of weight 1 or 0 have each coset once, and lead.
-- Assumes nothing.
use Rattle.basics.proofs.Kit.{◌≡◌, refl, sym, ap, ap₂, ◌∙◌, Bool, true, ◌&&◌, cond, List, [], ◌∷◌, ℕ, zero, suc, ◌+◌, ◌-◌, ◌*◌, ◌/◌, ◌%◌, ◌^◌, ◌≤◌, ◌<◌, arith, length, get_or, drop, min, eqb, leb, ltb}
use native.Mathlib.Nat.{not-suc-le-zero, le_refl, le_trans, le_antisymm, eq-or-lt_of_le, le_of_suc-le-suc, lt_of_lt_of_le, div-eq_of_lt, min-le_left, min-le_right, min-eq_left, min-eq_right}
use Rattle.std.proofs.lemmas.Bool.{cases_lt}
use lib.Pow.{pow_mono, shr_lt}
use mathlib.Core.List.{map}
use mathlib.Core.Logic.{◌⊎◌, inl, inr}
use lib.Bits as B
use lib.Count.{ones, ones_in}
use lib.Dec.{T, lit≤, eqb→eq, leb→le, ltb→lt}
use lib.ListN.{replicate, length-drop, length-map}
use borrow.Author.Tests.{eq-eqb}
use Rattle.field.specs.Field.{width_good, xor, times, times_from, doubled, alpha}
use Rattle.field.proofs.Tests.{widths, all, at, and_l, and_r}
use Rattle.field.proofs.Xor as X
use Rattle.code.specs.Code.{long, message_long, value_from, value_at, syndrome_long, bch_dimension, configuration_long, roots_good, accepted}
use Rattle.code.specs.Bits.{bits_of}
use Rattle.code.proofs.Words.{drop_below}
use Rattle.code.proofs.Accepted.{accepted_parts, at_each, syndrome_room}
use Rattle.split.specs.declared.tables.TheConstants.{HEADS_3_6, HEADS_4_8, HEADS_4_10, ROWS_3_6, ROWS_4_8, ROWS_4_10, SINGLES_3, SINGLES_4}
use Rattle.split.specs.Split.{number, syndrome, cosets, Binary, Leader, weight, word_number, sum, all_below, BchEnding}
use Rattle.code.specs.declared.shape.Shape.{Shape}
use Rattle.split.specs.Members.{picked, rank, least_rank, foremost}
use Rattle.split.specs.Promise.{BchDimension, SumIsBch, LeaderThere, OneLeader}
use Rattle.split.proofs.Layers as L
use Rattle.split.proofs.Numbers.{bits_binary, bits_number, number_lt, number_bits, ones_none, ones_one, weight_ones, bits_xor, drop_bits, sum_cancel, drop_sum}
use Rattle.split.proofs.Sums.{picked_zeros, picked_lt, powers, powers_long, same, same_is, picked_map, picked_back}
use Rattle.split.proofs.Columns.{syndrome_sum}
use Rattle.split.proofs.Cosets.{sum_is_bch}
use Rattle.split.proofs.Dimension.{bch_dimension_right}

-- a word is known by its syndrome and its last bits
pub same_word : (m r : ℕ) (bs ds : List ℕ) → width_good m ≡ true → r ≤ 6 → Binary m bs → Binary m ds → syndrome m r ds ≡ syndrome m r bs →
    drop (syndrome_long m r) ds ≡ drop (syndrome_long m r) bs → ds ≡ bs
unfolding BchDimension SumIsBch bch_dimension
same_word m r bs ds w h p q e f =
    let k : ℕ = syndrome_long m r in
    let n : length bs ≡ length ds = p.count ∙ sym q.count in
    let b : Binary m (sum bs bs) = L.sum_binary m bs bs p p in
    let one : BchEnding m r (drop k (sum bs bs)) (sum bs ds) = record {
      binary = L.sum_binary m bs ds p q;
      of_code = sum_is_bch m r bs ds w p q e;
      ends = drop_sum k bs ds n ∙ ap (sum (drop k bs)) f ∙ sym (drop_sum k bs bs refl);
    } in
    let two : BchEnding m r (drop k (sum bs bs)) (sum bs bs) = record { binary = b; of_code = sum_is_bch m r bs bs w p p refl; ends = refl } in
    let many : length (drop k (sum bs bs)) ≡ long m - k = length-drop k (sum bs bs) ∙ ap (λ (x : ℕ). x - k) b.count in
    let only = (bch_dimension_right m r (drop k (sum bs bs)) w h many (L.all_of 2 _ (drop_below 2 k (sum bs bs) (L.bits m _ b)))).1 in
    sym (sum_cancel bs ds n) ∙ ap (sum bs) (only (sum bs ds) (sum bs bs) one two) ∙ sum_cancel bs bs refl

-- THE TABLES, by the number of bits of a syndrome
unfoldable pub heads : (q : ℕ) → List ℕ
heads q =
    cond (eqb q 3) (1 ∷ 2 ∷ 4 ∷ [])
    (cond (eqb q 4) (1 ∷ 2 ∷ 4 ∷ 8 ∷ [])
    (cond (eqb q 6) HEADS_3_6 (cond (eqb q 8) HEADS_4_8 HEADS_4_10)))

unfoldable pub rows : (q : ℕ) → List ℕ
rows q =
    cond (eqb q 3) (11 ∷ 22 ∷ 39 ∷ 69 ∷ [])
    (cond (eqb q 4) (19 ∷ 38 ∷ 76 ∷ 139 ∷ 261 ∷ 522 ∷ 1031 ∷ 2062 ∷ 4111 ∷ 8205 ∷ 16393 ∷ [])
    (cond (eqb q 6) ROWS_3_6 (cond (eqb q 8) ROWS_4_8 ROWS_4_10)))

-- THE TESTS: a head is 0 from position q on and has the syndrome of a single bit; a row has syndrome 0 and ends in a single bit
pub syndrome_at : (m r x : ℕ) → ℕ
syndrome_at m r x = syndrome m r (bits_of (long m) x)

abbrev good_heads : (m r q : ℕ) → Bool
good_heads m r q = all_below (2 ^ q) (heads q) && same (map (syndrome_at m r) (heads q)) (powers q 0)

abbrev good_rows : (m r q : ℕ) → Bool
good_rows m r q =
    (all_below (2 ^ long m) (rows q) && same (map (syndrome_at m r) (rows q)) (replicate (long m - q) 0))
    && same (map (λ x. x / 2 ^ q) (rows q)) (powers (long m - q) 0)

abbrev good_tables : (m r : ℕ) → Bool
good_tables m r = good_heads m r (syndrome_long m r) && good_rows m r (syndrome_long m r)

tables_good : (m r : ℕ) → accepted m r ≡ true → T (good_tables m r)
unfolding heads rows all_below same powers syndrome_at accepted roots_good configuration_long bch_dimension message_long long width_good number syndrome value_from value_at xor times times_from doubled alpha bits_of
tables_good = at_each good_tables tt tt

-- where a syndrome has m bits: a leader for each coset, of weight 1 or 0, and each such word leads its own
unfoldable pub singles : (m : ℕ) → List ℕ
singles m = cond (eqb m 3) SINGLES_3 SINGLES_4

abbrev leads_one : (m r x : ℕ) → Bool
leads_one m r x = eqb (get_or (singles m) (syndrome_at m r x) 0) x

abbrev good_single : (m r s : ℕ) → Bool
good_single m r s =
    ltb (get_or (singles m) s 0) (2 ^ long m) && (eqb (syndrome_at m r (get_or (singles m) s 0)) s && leb (ones (get_or (singles m) s 0)) 1)

abbrev good_singles : (m r : ℕ) → Bool
good_singles m r = all (2 ^ m) (good_single m r) && (leads_one m r 0 && all (long m) (λ j. leads_one m r (2 ^ j)))

singles_good : (m r : ℕ) → accepted m r ≡ true → T (cond (eqb (syndrome_long m r) m) (good_singles m r) true)
unfolding singles syndrome_at accepted roots_good configuration_long bch_dimension message_long long width_good number syndrome value_from value_at xor times times_from doubled alpha bits_of ones ones_in
singles_good = at_each (λ m r. cond (eqb (syndrome_long m r) m) (good_singles m r) true) tt tt

-- so many bits are those of one symbol
one_symbol : (m r : ℕ) → accepted m r ≡ true → T (cond (eqb (syndrome_long m r) 3) (eqb m 3) (cond (eqb (syndrome_long m r) 4) (eqb m 4) true))
unfolding accepted roots_good configuration_long bch_dimension message_long long width_good
one_symbol = at_each (λ m r. cond (eqb (syndrome_long m r) 3) (eqb m 3) (cond (eqb (syndrome_long m r) 4) (eqb m 4) true)) tt tt

-- THE LEAST RANK is that of one of the words, and no more than any of theirs
min_one : (P : ℕ → Type 0) (a b : ℕ) → P a → P b → P (min a b)
min_one P a b p q = go (cases_lt b a)
  where
    go : (b < a) ⊎ (a ≤ b) → P (min a b)
    go (inl h) = let l : b ≤ a = omega arith in rw (min-eq_right l) q
    go (inr h) = rw (min-eq_left h) p

module _ (rs : List ℕ) (x : ℕ) where
  least_le : (n k : ℕ) → k < n → least_rank rs x n ≤ rank (xor x (picked rs k))
  unfolding least_rank
  least_le zero k h = absurd (not-suc-le-zero h)
  least_le (suc n) k h = go (least_le n k) (eq-or-lt_of_le (le_of_suc-le-suc h))
    where
      go : (k < n → least_rank rs x n ≤ rank (xor x (picked rs k))) → (k ≡ n) ⊎ (k < n) → min (least_rank rs x n) (rank (xor x (picked rs n))) ≤ rank (xor x (picked rs k))
      go rest (inl e) = rw e (min-le_right (least_rank rs x n) (rank (xor x (picked rs n))))
      go rest (inr l) = le_trans (min-le_left (least_rank rs x n) (rank (xor x (picked rs n)))) (rest l)

  least_one : (P : ℕ → Type 0) → P (rank x) → ((k : ℕ) → P (rank (xor x (picked rs k)))) → (n : ℕ) → P (least_rank rs x n)
  unfolding least_rank
  least_one P p q zero = p
  least_one P p q (suc n) = min_one P (least_rank rs x n) (rank (xor x (picked rs n))) (least_one P p q n) (q n)

module _ (m r : ℕ) (a : accepted m r ≡ true) where
  abbrev q : ℕ
  q = syndrome_long m r

  abbrev hs : List ℕ
  hs = heads q

  abbrev rs : List ℕ
  rs = rows q

  w : width_good m ≡ true
  w = (accepted_parts m r a).wide

  six : r ≤ 6
  six = (accepted_parts m r a).six

  fits : q ≤ long m
  fits = (syndrome_room m r w six).1

  heads_good : T (good_heads m r q)
  heads_good = and_l (good_heads m r q) (good_rows m r q) (tables_good m r a)

  rows_good : T (good_rows m r q)
  rows_good = and_r (good_heads m r q) (good_rows m r q) (tables_good m r a)

  syndrome_add : (x y : ℕ) → syndrome_at m r (xor x y) ≡ xor (syndrome_at m r x) (syndrome_at m r y)
  unfolding syndrome_at
  syndrome_add x y = ap (syndrome m r) (bits_xor (long m) x y) ∙ syndrome_sum m r _ _ w (bits_binary m x) (bits_binary m y)

  ends_add : (x y : ℕ) → xor x y / 2 ^ q ≡ xor (x / 2 ^ q) (y / 2 ^ q)
  unfolding xor
  ends_add x y = B.xor_shr x y q

  head_lt : (s : ℕ) → picked hs s < 2 ^ q
  head_lt s = picked_lt q hs s (L.below (2 ^ q) hs (and_l (all_below (2 ^ q) hs) _ heads_good))

  head_syndrome : (s : ℕ) → s < 2 ^ q → syndrome_at m r (picked hs s) ≡ s
  head_syndrome s h = picked_back (syndrome_at m r) syndrome_add hs q s (and_r (all_below (2 ^ q) hs) _ heads_good) h

  row_lt : (k : ℕ) → picked rs k < 2 ^ long m
  row_lt k = picked_lt (long m) rs k (L.below (2 ^ long m) rs (and_l (all_below (2 ^ long m) rs) _ (and_l (all_below (2 ^ long m) rs && _) _ rows_good)))

  row_syndrome : (k : ℕ) → syndrome_at m r (picked rs k) ≡ 0
  row_syndrome k =
      picked_map (syndrome_at m r) syndrome_add rs k
      ∙ ap (λ l. picked l k) (same_is _ _ (and_r (all_below (2 ^ long m) rs) _ (and_l (all_below (2 ^ long m) rs && _) _ rows_good)))
      ∙ picked_zeros (long m - q) k

  row_ends : (k : ℕ) → k < 2 ^ (long m - q) → picked rs k / 2 ^ q ≡ k
  row_ends k h = picked_back (λ x. x / 2 ^ q) ends_add rs (long m - q) k (and_r (all_below (2 ^ long m) rs && _) _ rows_good) h

  rows_many : length rs ≡ long m - q
  rows_many = sym (length-map rs _) ∙ ap length (same_is _ _ (and_r (all_below (2 ^ long m) rs && _) _ rows_good)) ∙ powers_long (long m - q) 0

  -- THE MEMBERS of coset s: each is one, and each word of the coset is one of them
  module _ (s : ℕ) (inside : s < 2 ^ q) where
    record Of-coset (x : ℕ) : Type 0 where
      small : x < 2 ^ long m
      coset : syndrome_at m r x ≡ s

    base : ℕ
    base = picked hs s

    base_of : Of-coset base
    unfolding base
    base_of = record { small = lt_of_lt_of_le (head_lt s) (pow_mono fits); coset = head_syndrome s inside }

    member_of : (k : ℕ) → Of-coset (xor base (picked rs k))
    member_of k = record {
      small = X.below (long m) _ _ base_of.small (row_lt k);
      coset = syndrome_add base (picked rs k) ∙ ap₂ xor base_of.coset (row_syndrome k) ∙ X.zero_r s;
    }

    member_ends : (k : ℕ) → k < 2 ^ (long m - q) → xor base (picked rs k) / 2 ^ q ≡ k
    unfolding base
    member_ends k h = ends_add base (picked rs k) ∙ ap₂ xor (div-eq_of_lt (head_lt s)) (row_ends k h) ∙ X.zero_l k

    among : (ds : List ℕ) → Binary m ds → syndrome m r ds ≡ s → (k : ℕ) × (k < 2 ^ (long m - q)) × (word_number ds ≡ xor base (picked rs k))
    unfolding syndrome_at
    among ds b e =
        let x : ℕ = word_number ds in
        let p = L.bits m ds b in
        let is : bits_of (long m) x ≡ ds = rw (← b.count) (bits_number ds p) in
        let small : x < 2 ^ long m = rw (← b.count) (number_lt ds p) in
        let k : ℕ = x / 2 ^ q in
        let room : long m - q + q ≡ long m = omega (arith, fits) in
        let few : k < 2 ^ (long m - q) = shr_lt (long m - q) q (rw room small) in
        let y : ℕ = xor base (picked rs k) in
        let equal : bits_of (long m) y ≡ bits_of (long m) x =
        same_word m r (bits_of (long m) x) (bits_of (long m) y) w six (bits_binary m x) (bits_binary m y)
        ((member_of k).coset ∙ sym (ap (syndrome m r) is ∙ e))
        (drop_bits q (long m) y fits ∙ ap (bits_of (long m - q)) (member_ends k few) ∙ sym (drop_bits q (long m) x fits)) in
        (k, few, sym (number_bits (long m) x small) ∙ ap word_number (sym equal) ∙ number_bits (long m) y (member_of k).small)

    -- OF LEAST RANK leads
    top : 2 ^ long m ≤ 32768
    top = unfold long in widths (λ m. 2 ^ long m ≤ 32768) (lit≤ tt) (lit≤ tt) m w

    abbrev BelowAll : (x : ℕ) → Type 0
    BelowAll x = (ds : List ℕ) → Binary m ds → syndrome m r ds ≡ s → 32768 * ones x + x ≤ 32768 * ones (word_number ds) + word_number ds

    ranked : (z : ℕ) → Of-coset z → BelowAll z → Leader m r s (bits_of (long m) z)
    unfolding syndrome_at
    ranked z of before = record {
      binary = bits_binary m z;
      of_coset = of.coset;
      least = λ ds b f. rw (weight_ones (long m) z of.small, weight_is ds b) (omega (arith, before ds b f, small, number_small ds b));
      first = λ ds b f g. rw (number_bits (long m) z of.small)
          (omega (arith, before ds b f, small, number_small ds b, sym (weight_is ds b) ∙ g ∙ weight_ones (long m) z of.small));
    }
      where
        small : z < 32768
        small = lt_of_lt_of_le of.small top

        number_small : (ds : List ℕ) → Binary m ds → word_number ds < 32768
        number_small ds b = lt_of_lt_of_le (rw (← b.count) (number_lt ds (L.bits m ds b))) top

        weight_is : (ds : List ℕ) → Binary m ds → weight ds ≡ ones (word_number ds)
        weight_is ds b =
            ap weight (sym (bits_number ds (L.bits m ds b))) ∙ weight_ones (length ds) (word_number ds) (number_lt ds (L.bits m ds b))

    -- so does the first of the members
    record Least (l : ℕ) : Type 0 where
      word : ℕ
      of : Of-coset word
      is : l ≡ rank word

    least : Least (least_rank rs base (2 ^ length rs))
    least =
        least_one rs base Least (record { word = base; of = base_of; is = refl })
        (λ k. record { word = xor base (picked rs k); of = member_of k; is = refl }) (2 ^ length rs)

    pub leads : (x : ℕ) → x ≡ foremost hs rs s → Leader m r s (bits_of (long m) x)
    unfolding foremost rank base
    leads x e = rw first_is (ranked z least.of before)
      where
        z : ℕ
        z = least.word

        first_is : x ≡ z
        first_is = let h : z < 32768 = lt_of_lt_of_le least.of.small top in e ∙ ap (λ (l : ℕ). l % 32768) least.is ∙ omega (arith, h)

        before : BelowAll z
        before ds b f =
            let k = among ds b f in
            rw (← least.is, k.2) (least_le rs base (2 ^ length rs) k.0 (rw rows_many k.1))

    -- and so does a word of weight 1 or 0, where a syndrome has m bits
    module _ (few : q ≡ m) where
      single : ℕ
      single = get_or (singles m) s 0

      tests : T (good_singles m r)
      tests = let t = singles_good m r a in rw (eq-eqb q m few) at t

      its : T (good_single m r s)
      its = at (2 ^ m) (good_single m r) (and_l (all (2 ^ m) (good_single m r)) _ tests) s (rw few at inside)

      single_light : ones single ≤ 1
      unfolding single
      single_light = leb→le _ 1 (and_r (eqb (syndrome_at m r (get_or (singles m) s 0)) s) _ (and_r (ltb (get_or (singles m) s 0) (2 ^ long m)) _ its))

      single_of : Of-coset single
      unfolding single
      single_of = record {
        small = ltb→lt _ _ (and_l (ltb (get_or (singles m) s 0) (2 ^ long m)) _ its);
        coset = eqb→eq _ s (and_l (eqb (syndrome_at m r (get_or (singles m) s 0)) s) _ (and_r (ltb (get_or (singles m) s 0) (2 ^ long m)) _ its));
      }

      others : T (leads_one m r 0 && all (long m) (λ j. leads_one m r (2 ^ j)))
      others = and_r (all (2 ^ m) (good_single m r)) _ tests

      -- a word of weight 1 or 0 in the coset is this one
      is_single : (y : ℕ) → syndrome_at m r y ≡ s → T (leads_one m r y) → y ≡ single
      unfolding single
      is_single y e t = sym (eqb→eq _ y t) ∙ ap (λ (k : ℕ). get_or (singles m) k 0) e

      before : BelowAll single
      unfolding syndrome_at
      before ds b f = go (ones y) refl
        where
          y : ℕ
          y = word_number ds

          small : y < 2 ^ long m
          small = rw (← b.count) (number_lt ds (L.bits m ds b))

          of : syndrome_at m r y ≡ s
          of = ap (syndrome m r) (rw (← b.count) (bits_number ds (L.bits m ds b))) ∙ f

          same : y ≡ single → 32768 * ones single + single ≤ 32768 * ones y + y
          same e = rw e (le_refl (32768 * ones single + single))

          go : (k : ℕ) → ones y ≡ k → 32768 * ones single + single ≤ 32768 * ones y + y
          go zero e = let z = ones_none (long m) y small e in same (is_single y of (rw z (and_l (leads_one m r 0) _ others)))
          go (suc zero) e =
              let p = ones_one (long m) y small e in
              same (is_single y of (rw p.2 (at (long m) (λ j. leads_one m r (2 ^ j)) (and_r (leads_one m r 0) _ others) p.0 p.1)))
          go (suc (suc k)) e = omega (arith, single_light, lt_of_lt_of_le single_of.small top)

      pub single_leads : Leader m r s (bits_of (long m) (get_or (singles m) s 0))
      unfolding single
      single_leads = ranked single single_of before

-- THE leader of a coset
unfoldable pub the_leader : (m r s : ℕ) → List ℕ
the_leader m r s = bits_of (long m) (foremost (heads (syndrome_long m r)) (rows (syndrome_long m r)) s)

pub the_leader_leads : (m r s : ℕ) → accepted m r ≡ true → s < cosets m r → Leader m r s (the_leader m r s)
unfolding the_leader cosets
the_leader_leads m r s a h = leads m r a s h _ refl

pub leader_there : LeaderThere
unfolding LeaderThere
leader_there m r s a h = (the_leader m r s, the_leader_leads m r s a h)

-- for the function that finds it
module _ (h : Shape) (s : ℕ) (inside : s < h.size) where
  its_bits : s < 2 ^ syndrome_long h.m h.r
  its_bits = let c = h.numbers in rw (← c.q_is, ← c.size_is) inside

  pub found : (x : ℕ) → x ≡ foremost (heads h.q) (rows h.q) s → Leader h.m h.r s (bits_of (long h.m) x)
  found x e = let c = h.numbers in leads h.m h.r c.accepted_is s its_bits x (rw (← c.q_is) e)

  found_single : h.q ≡ h.m → (x : ℕ) → x ≡ get_or (singles h.m) s 0 → Leader h.m h.r s (bits_of (long h.m) x)
  found_single e x f = let c = h.numbers in rw f (single_leads h.m h.r c.accepted_is s its_bits (sym c.q_is ∙ e))

  pub found_3 : h.q ≡ 3 → (x : ℕ) → x ≡ get_or (singles 3) s 0 → Leader h.m h.r s (bits_of (long h.m) x)
  found_3 e x f =
      let w : h.m ≡ 3 = eqb→eq h.m 3 (rw (sym h.numbers.q_is ∙ e) at (one_symbol h.m h.r h.numbers.accepted_is)) in
      found_single (e ∙ sym w) x (rw w f)

  pub found_4 : h.q ≡ 4 → (x : ℕ) → x ≡ get_or (singles 4) s 0 → Leader h.m h.r s (bits_of (long h.m) x)
  found_4 e x f =
      let w : h.m ≡ 4 = eqb→eq h.m 4 (rw (sym h.numbers.q_is ∙ e) at (one_symbol h.m h.r h.numbers.accepted_is)) in
      found_single (e ∙ sym w) x (rw w f)

-- AND NO OTHER: of two leaders each has the least weight, and then the smallest number
pub one_leader : OneLeader
unfolding OneLeader
one_leader m r s bs ds p q =
    let e : weight bs ≡ weight ds = le_antisymm (p.least ds q.binary q.of_coset) (q.least bs p.binary p.of_coset) in
    let f : word_number bs ≡ word_number ds =
    le_antisymm (p.first ds q.binary q.of_coset (sym e)) (q.first bs p.binary p.of_coset e) in
    sym (bits_number bs (L.bits m bs p.binary)) ∙ ap₂ bits_of (p.binary.count ∙ sym q.binary.count) f
    ∙ bits_number ds (L.bits m ds q.binary)
