-- Code 3's table. One test is computed over its 256 tuples, and validity, completeness and ascending order are read off it.
-- Assumes nothing.
use Rattle.basics.proofs.Kit.{◌≡◌, refl, sym, ap, ap₂, ◌∙◌, Bool, true, ◌&&◌, ◌||◌, not, List, [], ◌∷◌, ℕ, zero, suc, ◌+◌, ◌*◌, ◌/◌, ◌%◌, ◌^◌, ◌≤◌, ◌<◌, arith, length, take, drop, eqb}
use native.Mathlib.Nat.{mod-lt, mod-eq_of_lt, add-zero, zero-add}
use lib.Dec.{T, eqb→eq, lit≤}
use lib.Pow.{pow_pos}
use lib.Seq.{drop-drop}
use Rattle.field.specs.Field.{width_good, xor, times, times_from, doubled, alpha, square}
use Rattle.code.specs.Code.{long, message_long, bch_dimension, configuration_long, roots_good, accepted}
use Rattle.split.specs.Split.{numbered, cosets, layer_value, glued, valid, valid_at, all_below, sum}
use Rattle.configurations.specs.Configurations.{Configuration, tuple_of, listed_from, listed, leading, tuple}
use Rattle.tails.specs.Tails.{configuration}
use Rattle.tails.specs.Promise.{Configured, ConfiguredRight}
use Rattle.configurations.specs.Promise.{TableRight, TableGenerated}
use Rattle.field.proofs.Tests.{and_l, and_r, to_T}
use Rattle.field.proofs.Xor as X
use Rattle.field.proofs.Field as F
use Rattle.code.proofs.Words.{Below}
use Rattle.split.proofs.Layers.{below}
use Rattle.tails.proofs.Configured.{configured_right}
use Rattle.configurations.proofs.Tuples.{configured, is_configuration, root_at, so}

-- THE TEST. Tuple k is valid, its first two places are the digits of k, and no valid tuple but 0 has 0, 0 before these digits
entry_good : (k : ℕ) → (ss : List ℕ) → Bool
entry_good k ss = configured 4 2 ss && (eqb (leading 16 ss / 256) k && (not (valid 4 2 (0 ∷ 0 ∷ k / 16 ∷ k % 16 ∷ [])) || eqb k 0))

table_good : (left k : ℕ) → (table : List ℕ) → Bool
table_good zero k es = true
table_good (suc n) k es = entry_good k (take 4 es) && table_good n (suc k) (drop 4 es)

tested : T (table_good 256 0 listed)
unfolding entry_good table_good listed listed_from tuple_of leading cosets numbered layer_value glued valid valid_at all_below xor times times_from doubled alpha square
tested = tt

-- what it says of a tuple
record Entry (k : ℕ) (ss : List ℕ) : Type 0 where
  is : Configuration 4 2 ss
  first : leading 16 ss / 256 ≡ k
  lone : valid 4 2 (0 ∷ 0 ∷ k / 16 ∷ k % 16 ∷ []) ≡ true → k ≡ 0

entry : (k : ℕ) (ss : List ℕ) → T (entry_good k ss) → Entry k ss
unfolding entry_good
entry k ss t =
    let v : Bool = valid 4 2 (0 ∷ 0 ∷ k / 16 ∷ k % 16 ∷ []) in
    let o : T (eqb (leading 16 ss / 256) k && (not v || eqb k 0)) = and_r (configured 4 2 ss) _ t in
    record {
      is = is_configuration 4 2 ss (and_l (configured 4 2 ss) _ t);
      first = eqb→eq (leading 16 ss / 256) k (and_l (eqb (leading 16 ss / 256) k) _ o);
      lone = λ e. eqb→eq k 0 (so v (eqb k 0) (and_r (eqb (leading 16 ss / 256) k) _ o) e);
    }

entries : (n k : ℕ) (es : List ℕ) → T (table_good n k es) → (i : ℕ) → i < n → Entry (k + i) (tuple i es)
unfolding table_good tuple
entries zero k es t i h = absurd (omega arith)
entries (suc n) k es t zero h = rw add-zero (entry k (take 4 es) (and_l (entry_good k (take 4 es)) _ t))
entries (suc n) k es t (suc i) h =
    let e : k + suc i ≡ suc k + i = omega arith in
    let f : 4 * suc i ≡ 4 + 4 * i = omega arith in
    rw (e, f, ← drop-drop (4 * i) 4 es) (entries n (suc k) (drop 4 es) (and_r (entry_good k (take 4 es)) _ t) i (omega arith))

at : (k : ℕ) → k < 256 → Entry k (tuple k listed)
at k h = rw zero-add at (entries 256 0 listed tested k h)

-- COMPLETE. At the first two roots the sum is additive, place by place
module _ (m : ℕ) (w : width_good m ≡ true) where
  value_add : (t s u : ℕ) → 1 ≤ t → t ≤ 2 → s < 2 ^ m → u < 2 ^ m → layer_value m t (xor s u) ≡ xor (layer_value m t s) (layer_value m t u)
  unfolding layer_value
  value_add zero s u l h hs hu = absurd (omega arith)
  value_add (suc zero) s u l h hs hu = rw (mod-eq_of_lt (X.below m s u hs hu), mod-eq_of_lt hs, mod-eq_of_lt hu)
  value_add (suc (suc zero)) s u l h hs hu = rw (mod-eq_of_lt (X.below m s u hs hu), mod-eq_of_lt hs, mod-eq_of_lt hu) (F.square_add m w s u hs hu)
  value_add (suc (suc (suc t))) s u l h hs hu = absurd (omega arith)

  value_lt : (t s : ℕ) → 1 ≤ t → t ≤ 2 → layer_value m t s < 2 ^ m
  unfolding layer_value
  value_lt zero s l h = absurd (omega arith)
  value_lt (suc zero) s l h = mod-lt s (pow_pos m)
  value_lt (suc (suc zero)) s l h = F.square_lt m w (s % 2 ^ m) (mod-lt s (pow_pos m))
  value_lt (suc (suc (suc t))) s l h = absurd (omega arith)

  glued_add : (t j : ℕ) (ss us : List ℕ) → 1 ≤ t → t ≤ 2 → length ss ≡ length us → Below (2 ^ m) ss → Below (2 ^ m) us →
      glued j m t (sum ss us) ≡ xor (glued j m t ss) (glued j m t us)
  unfolding glued sum
  glued_add t j [] [] l h n p q = sym (X.self 0)
  glued_add t j [] (u ∷ us) l h n p q = absurd (omega arith)
  glued_add t j (s ∷ ss) [] l h n p q = absurd (omega arith)
  glued_add t j (s ∷ ss) (u ∷ us) l h n p q =
      ap₂ xor
      (ap (times m (alpha m j)) (value_add t s u l h p.0 q.0) ∙ F.times_add_r m w (alpha m j) (layer_value m t s) (layer_value m t u) (F.alpha_lt m w j) (value_lt t s l h) (value_lt t u l h))
      (glued_add t (suc j) ss us l h (omega arith) p.1 q.1)
      ∙ X.cross (times m (alpha m j) (layer_value m t s)) (times m (alpha m j) (layer_value m t u)) (glued (suc j) m t ss) (glued (suc j) m t us)

-- so two valid tuples differ by a valid one
sum_valid : (ss us : List ℕ) → length ss ≡ length us → Below 16 ss → Below 16 us → valid 4 2 ss ≡ true → valid 4 2 us ≡ true → valid 4 2 (sum ss us) ≡ true
unfolding valid valid_at width_good
sum_valid ss us n p q v x = rw (zero_sum 1 (lit≤ tt) (lit≤ tt), zero_sum 2 (lit≤ tt) (lit≤ tt))
  where
    zero_sum : (t : ℕ) → 1 ≤ t → t ≤ 2 → glued 0 4 t (sum ss us) ≡ 0
    zero_sum t l h = glued_add 4 refl t 0 ss us l h n p q ∙ ap₂ xor (root_at 4 2 t ss v l h) (root_at 4 2 t us x l h) ∙ X.self 0

-- and where the first two places agree it begins with 0, 0, so that it is 0
same_rest : (a b c d e f : ℕ) → Below 16 (a ∷ b ∷ c ∷ d ∷ []) → Below 16 (a ∷ b ∷ e ∷ f ∷ []) →
    valid 4 2 (a ∷ b ∷ c ∷ d ∷ []) ≡ true → valid 4 2 (a ∷ b ∷ e ∷ f ∷ []) ≡ true → (c ≡ e) × (d ≡ f)
unfolding sum
same_rest a b c d e f p q v x =
    let k : ℕ = 16 * xor c e + xor d f in
    let hx : xor c e < 16 = X.below 4 c e p.1.1.0 q.1.1.0 in
    let hy : xor d f < 16 = X.below 4 d f p.1.1.1.0 q.1.1.1.0 in
    let g : k / 16 ≡ xor c e = omega arith in
    let h : k % 16 ≡ xor d f = omega arith in
    let z : valid 4 2 (0 ∷ 0 ∷ k / 16 ∷ k % 16 ∷ []) ≡ true =
    rw (g, h) (rw (X.self a, X.self b) at (sum_valid (a ∷ b ∷ c ∷ d ∷ []) (a ∷ b ∷ e ∷ f ∷ []) refl p q v x)) in
    let n : k ≡ 0 = (at k (omega arith)).lone z in
    (X.same c e (omega arith), X.same d f (omega arith))

fours : (P : List ℕ → Type 0) → ((a b c d : ℕ) → P (a ∷ b ∷ c ∷ d ∷ [])) → (ss : List ℕ) → length ss ≡ 4 → P ss
fours P f [] n = absurd (omega arith)
fours P f (a ∷ []) n = absurd (omega arith)
fours P f (a ∷ b ∷ []) n = absurd (omega arith)
fours P f (a ∷ b ∷ c ∷ []) n = absurd (omega arith)
fours P f (a ∷ b ∷ c ∷ d ∷ []) n = f a b c d
fours P f (a ∷ b ∷ c ∷ d ∷ e ∷ ss) n = absurd (omega arith)

abbrev Same : (ss us : List ℕ) → Type 0
Same ss us = Below 16 ss → Below 16 us → valid 4 2 ss ≡ true → valid 4 2 us ≡ true → leading 16 ss / 256 ≡ leading 16 us / 256 → ss ≡ us

same_four : (a b c d e f g h : ℕ) → Same (a ∷ b ∷ c ∷ d ∷ []) (e ∷ f ∷ g ∷ h ∷ [])
unfolding leading
same_four a b c d e f g h p q v x o =
    let n : a ≡ e = omega (arith, p.1.0, p.1.1.0, p.1.1.1.0, q.1.0, q.1.1.0, q.1.1.1.0) in
    let m : b ≡ f = omega (arith, p.1.0, p.1.1.0, p.1.1.1.0, q.1.0, q.1.1.0, q.1.1.1.0) in
    let r = same_rest a b c d g h p (p.0, (p.1.0, q.1.1)) v (rw (n, m) x) in
    cc (r.0, r.1)

same : (ss us : List ℕ) → Configuration 4 2 ss → Configuration 4 2 us → leading 16 ss / 256 ≡ leading 16 us / 256 → ss ≡ us
unfolding cosets
same ss us p q =
    fours (λ ss. Same ss us) (λ a b c d. fours (Same (a ∷ b ∷ c ∷ d ∷ [])) (same_four a b c d) us q.count) ss p.count
    (below 16 ss (to_T p.syndromes)) (below 16 us (to_T q.syndromes)) p.is_valid q.is_valid

leading_lt : (ss : List ℕ) → Configuration 4 2 ss → leading 16 ss / 256 < 256
unfolding leading cosets
leading_lt ss p =
    fours (λ ss. Below 16 ss → leading 16 ss / 256 < 256) (λ a b c d l. omega (arith, l.0, l.1.0, l.1.1.0, l.1.1.1.0)) ss p.count
    (below 16 ss (to_T p.syndromes))

counted : length listed ≡ 1024
unfolding listed listed_from tuple_of
counted = refl

pub table_right : TableRight
unfolding TableRight
table_right = record {
  count = counted;
  none_invalid = λ k h. (at k h).is;
  none_missing = λ ss p.
      let k : ℕ = leading 16 ss / 256 in
      let h : k < 256 = leading_lt ss p in
      let e : Entry k (tuple k listed) = at k h in
      (k, h, same (tuple k listed) ss e.is p e.first);
  ascending = λ k l h o. omega (arith, (at k (omega arith)).first, (at l o).first);
}

-- the generator yields the valid ones too
generator : Configured 4 2
unfolding ConfiguredRight accepted roots_good configuration_long message_long bch_dimension long width_good
generator = configured_right 4 2 refl

pub table_generated : TableGenerated
unfolding TableGenerated TableRight configuration_long message_long bch_dimension long
table_generated = record {
  each = λ k h. generator.none_missing (tuple k listed) (table_right.none_invalid k h);
  all = λ b h. table_right.none_missing (configuration 4 2 b) (generator.each_valid b h);
}
