-- THE DISTANCE: two words that differ in at most r symbols, and have the same values at r powers of α in a row, are one; so two codewords differ in more
-- symbols than there are roots. By induction on r: where they differ at place k, each symbol i times α^i + α^k gives two words that have the same values at one
-- power less, and differ in one symbol less.
-- Assumes nothing.
use Rattle.basics.proofs.Kit.{◌≡◌, refl, sym, ap, ap₂, ◌∙◌, Bool, true, false, not, cond, List, [], ◌∷◌, ℕ, zero, suc, ◌+◌, ◌*◌, ◌^◌, ◌≤◌, ◌<◌, arith, length, eqb}
use mathlib.Core.Bool.{false≢true}
use mathlib.Core.List.{head-eq_of_cons-eq, tail-eq_of_cons-eq}
use native.Mathlib.Nat.{suc_inj}
use borrow.Author.Tests.{ne_eqb}
use lib.Dec.{T, eqb→eq}
use Rattle.field.specs.Field.{xor, times, doubled, alpha, width_good}
use Rattle.field.proofs.Tests.{widths, to_T}
use Rattle.field.proofs.Xor as X
use Rattle.field.proofs.Field as F
use Rattle.field.proofs.Field.{times_lt, field}
use Rattle.code.specs.Code.{long, value_from, value_at}
use Rattle.code.specs.Promise.{differ, Distance}
use Rattle.code.proofs.Words.{Below, horner, horner_lt, value_from_horner, value_horner, eqb_true, codeword_parts}
use Rattle.code.proofs.Bits.{at_most_one}

module _ (m : ℕ) (w : width_good m ≡ true) where
  -- ---- the field: a factor that is not 0 is cancelled, and no power of α is 0
  factor : (a c d : ℕ) → a < 2 ^ m → c < 2 ^ m → d < 2 ^ m → T (not (eqb a 0)) → times m c a ≡ times m d a → c ≡ d
  factor a c d ha hc hd n e =
      X.same c d
      (F.no_divisor m w a (xor c d) ha (X.below m c d hc hd) n
      (F.times_add_r m w a c d ha hc hd ∙ ap₂ xor (F.times_comm m w a c ha hc ∙ e) (F.times_comm m w a d ha hd) ∙ X.self (times m d a)))

  one_not_zero : T (not (eqb (alpha m 1) 0))
  unfolding alpha doubled
  one_not_zero = widths (λ (m : ℕ). T (not (eqb (alpha m 1) 0))) tt tt m w

  power_not_zero : (e : ℕ) → alpha m e ≡ 0 → ⊥
  unfolding alpha
  power_not_zero zero z = omega arith
  power_not_zero (suc e) z =
      let n : 1 + e ≡ suc e = omega arith in
      power_not_zero e (F.no_divisor m w (alpha m 1) (alpha m e) (F.alpha_lt m w 1) (F.alpha_lt m w e) one_not_zero (sym (F.alpha_add m w 1 e) ∙ ap (alpha m) n ∙ z))

  -- ---- each symbol from place k on, times α^k + y
  thin : (y k : ℕ) → List ℕ → List ℕ
  thin y k [] = []
  thin y k (c ∷ cs) = times m c (xor (alpha m k) y) ∷ thin y (suc k) cs

  thin_length : (y k : ℕ) (cs : List ℕ) → length (thin y k cs) ≡ length cs
  unfolding thin
  thin_length y k [] = refl
  thin_length y k (c ∷ cs) = ap suc (thin_length y (suc k) cs)

  thin_below : (y k : ℕ) (cs : List ℕ) → y < 2 ^ m → Below (2 ^ m) cs → Below (2 ^ m) (thin y k cs)
  unfolding thin
  thin_below y k [] hy b = tt
  thin_below y k (c ∷ cs) hy b = (F.times_lt m w c (xor (alpha m k) y) b.0 (X.below m (alpha m k) y (F.alpha_lt m w k) hy), thin_below y (suc k) cs hy b.1)

  thin_differ : (y k : ℕ) (cs ds : List ℕ) → differ (thin y k cs) (thin y k ds) ≤ differ cs ds
  unfolding thin differ
  thin_differ y k [] ds = omega arith
  thin_differ y k (c ∷ cs) [] = omega arith
  thin_differ y k (c ∷ cs) (d ∷ ds) = go (thin_differ y (suc k) cs ds) (eqb c d) refl
    where
      x : ℕ
      x = xor (alpha m k) y

      go :
          differ (thin y (suc k) cs) (thin y (suc k) ds) ≤ differ cs ds → (o : Bool) → eqb c d ≡ o →
          cond (eqb (times m c x) (times m d x)) 0 1 + differ (thin y (suc k) cs) (thin y (suc k) ds) ≤ cond o 0 1 + differ cs ds
      go h true e = rw (eqb→eq c d (to_T e), eqb_true (times m d x) (times m d x) refl) (omega arith)
      go h false e = omega (arith, at_most_one (eqb (times m c x) (times m d x)))

  value_lt : (t k : ℕ) (cs : List ℕ) → Below (2 ^ m) cs → value_from m t k cs < 2 ^ m
  value_lt t k cs b =
      rw (value_from_horner m w t k cs b)
      (F.times_lt m w (alpha m (k * t)) (horner m (alpha m t) cs) (F.alpha_lt m w (k * t)) (horner_lt m w (alpha m t) cs (F.alpha_lt m w t) b))

  -- the next power of a place
  next_power : (k t : ℕ) → alpha m (k * suc t) ≡ times m (alpha m k) (alpha m (k * t))
  next_power k t = ap (alpha m) (omega arith) ∙ F.alpha_add m w k (k * t)

  opened : (a c p u v y : ℕ) → a < 2 ^ m → c < 2 ^ m → p < 2 ^ m → u < 2 ^ m → v < 2 ^ m → y < 2 ^ m →
      xor (times m (times m c (xor a y)) p) (xor v (times m y u)) ≡ xor (xor (times m c (times m a p)) v) (times m y (xor (times m c p) u))
  opened a c p u v y ha hc hp hu hv hy =
      ap (λ (z : ℕ). xor z (xor v (times m y u))) (F.times_assoc m w c (xor a y) p hc (X.below m a y ha hy) hp) ∙ simp (field, times_lt)

  thin_value :
      (t y k : ℕ) (cs : List ℕ) → y < 2 ^ m → Below (2 ^ m) cs →
      value_from m t k (thin y k cs) ≡ xor (value_from m (suc t) k cs) (times m y (value_from m t k cs))
  unfolding thin value_from
  thin_value t y k [] hy b = sym (X.zero_l (times m y 0) ∙ F.times_zero_r m w y hy)
  thin_value t y k (c ∷ cs) hy b =
      rw (thin_value t y (suc k) cs hy b.1, next_power k t)
      (opened (alpha m k) c (alpha m (k * t)) (value_from m t (suc k) cs) (value_from m (suc t) (suc k) cs) y
      (F.alpha_lt m w k) b.0 (F.alpha_lt m w (k * t)) (value_lt t (suc k) cs b.1) (value_lt (suc t) (suc k) cs b.1) hy)

  -- thinned by its own place, the first symbol is 0
  thin_first :
      (t k c : ℕ) (cs : List ℕ) → c < 2 ^ m →
      value_from m t (suc k) (thin (alpha m k) (suc k) cs) ≡ value_from m t k (thin (alpha m k) k (c ∷ cs))
  unfolding thin value_from
  thin_first t k c cs hc =
      rw (X.self (alpha m k), F.times_zero_r m w c hc, F.times_zero_l m w (alpha m (k * t)) (F.alpha_lt m w (k * t)), X.zero_l (value_from m t (suc k) (thin (alpha m k) (suc k) cs)))

  -- by another place, symbols that differ still do
  unthin : (j k : ℕ) (cs ds : List ℕ) → length cs ≡ length ds → 1 ≤ j → j < k → k + length cs ≤ 2 ^ m → Below (2 ^ m) cs → Below (2 ^ m) ds →
      thin (alpha m j) k cs ≡ thin (alpha m j) k ds → cs ≡ ds
  unfolding thin
  unthin j k [] [] o l h n f g e = refl
  unthin j k [] (d ∷ ds) o l h n f g e = absurd (omega arith)
  unthin j k (c ∷ cs) [] o l h n f g e = absurd (omega arith)
  unthin j k (c ∷ cs) (d ∷ ds) o l h n f g e =
      ap₂ ◌∷◌
      (factor (xor (alpha m k) (alpha m j)) c d (X.below m (alpha m k) (alpha m j) (F.alpha_lt m w k) (F.alpha_lt m w j)) f.0 g.0 (F.alpha_apart m w k j (omega arith) l h) (head-eq_of_cons-eq e))
      (unthin j (suc k) cs ds (suc_inj o) l (omega arith) (omega arith) f.1 g.1 (tail-eq_of_cons-eq e))

  -- THE CLAIM, of words of at most n symbols from place k on, and the powers from s on
  Claim : (n : ℕ) → Type 0
  Claim n =
      (r k s : ℕ) (vs ws : List ℕ) → length vs ≡ length ws → length vs ≤ n → 1 ≤ k → k + length vs ≤ 2 ^ m → Below (2 ^ m) vs → Below (2 ^ m) ws →
      differ vs ws ≤ r → ((t : ℕ) → s ≤ t → t < s + r → value_from m t k vs ≡ value_from m t k ws) → vs ≡ ws

  -- where the first symbols differ
  apart :
      (n : ℕ) → Claim n → (r k s c d : ℕ) (cs ds : List ℕ) → length cs ≡ length ds → length cs ≤ n → 1 ≤ k → k + suc (length cs) ≤ 2 ^ m →
      Below (2 ^ m) (c ∷ cs) → Below (2 ^ m) (d ∷ ds) → suc (differ cs ds) ≤ r →
      ((t : ℕ) → s ≤ t → t < s + r → value_from m t k (c ∷ cs) ≡ value_from m t k (d ∷ ds)) → c ≡ d
  unfolding Claim value_from
  apart n next zero k s c d cs ds o l lk h f g few same = absurd (omega arith)
  apart n next (suc r) k s c d cs ds o l lk h f g few same =
      let p : ℕ = alpha m (k * s) in
      factor p c d (F.alpha_lt m w (k * s)) f.0 g.0 (rw (ne_eqb p 0 (power_not_zero (k * s))) tt)
      (sym (X.uncancel (times m c p) (value_from m s (suc k) cs)) ∙ ap₂ xor (same s (omega arith) (omega arith)) (ap (value_from m s (suc k)) rest) ∙ X.uncancel (times m d p) (value_from m s (suc k) ds))
    where
      thinned : (t : ℕ) → s ≤ t → t < s + r → value_from m t (suc k) (thin (alpha m k) (suc k) cs) ≡ value_from m t (suc k) (thin (alpha m k) (suc k) ds)
      thinned t a b =
          thin_first t k c cs f.0 ∙ thin_value t (alpha m k) k (c ∷ cs) (F.alpha_lt m w k) f
          ∙ ap₂ (λ (u v : ℕ). xor u (times m (alpha m k) v)) (same (suc t) (omega arith) (omega arith)) (same t a (omega arith))
          ∙ sym (thin_first t k d ds g.0 ∙ thin_value t (alpha m k) k (d ∷ ds) (F.alpha_lt m w k) g)

      rest : cs ≡ ds
      rest =
          unthin k (suc k) cs ds o lk (omega arith) (omega arith) f.1 g.1
          (next r (suc k) s (thin (alpha m k) (suc k) cs) (thin (alpha m k) (suc k) ds)
          (thin_length (alpha m k) (suc k) cs ∙ o ∙ sym (thin_length (alpha m k) (suc k) ds))
          (omega (arith, thin_length (alpha m k) (suc k) cs)) (omega arith) (omega (arith, thin_length (alpha m k) (suc k) cs))
          (thin_below (alpha m k) (suc k) cs (F.alpha_lt m w k) f.1) (thin_below (alpha m k) (suc k) ds (F.alpha_lt m w k) g.1)
          (omega (arith, thin_differ (alpha m k) (suc k) cs ds)) thinned)

  step : (n : ℕ) → Claim n → Claim (suc n)
  unfolding Claim differ value_from
  step n next r k s [] [] o l lk h f g few same = refl
  step n next r k s [] (d ∷ ds) o l lk h f g few same = absurd (omega arith)
  step n next r k s (c ∷ cs) [] o l lk h f g few same = absurd (omega arith)
  step n next r k s (c ∷ cs) (d ∷ ds) o l lk h f g few same = go (eqb c d) refl few
    where
      go : (x : Bool) → eqb c d ≡ x → cond x 0 1 + differ cs ds ≤ r → (c ∷ cs) ≡ (d ∷ ds)
      go true e few =
          let first : c ≡ d = eqb→eq c d (to_T e) in
          ap₂ ◌∷◌ first
          (next r (suc k) s cs ds (suc_inj o) (omega arith) (omega arith) (omega arith) f.1 g.1 (omega arith)
          (λ t a b. sym (X.cancel (times m c (alpha m (k * t))) (value_from m t (suc k) cs)) ∙ ap₂ xor (ap (λ (z : ℕ). times m z (alpha m (k * t))) first) (same t a b) ∙ X.cancel (times m d (alpha m (k * t))) (value_from m t (suc k) ds)))
      go false e few =
          absurd (false≢true (sym e ∙ eqb_true c d (apart n next r k s c d cs ds (suc_inj o) (omega arith) lk h f g (omega arith) same)))

  claim : (n : ℕ) → Claim n
  unfolding Claim
  claim zero r k s [] [] o l lk h f g few same = refl
  claim zero r k s [] (d ∷ ds) o l lk h f g few same = absurd (omega arith)
  claim zero r k s (c ∷ cs) ws o l lk h f g few same = absurd (omega arith)
  claim (suc n) r k s vs ws o l lk h f g few same = step n (claim n) r k s vs ws o l lk h f g few same

pub distance : Distance
unfolding Distance Claim long
distance m r vs ws w c d few =
    let v = codeword_parts m r vs c in
    let u = codeword_parts m r ws d in
    claim m w (length vs) r 1 1 vs ws (v.count ∙ sym u.count) (omega arith) (omega arith) (omega (arith, v.count, F.two_lt m w)) v.symbols u.symbols few
    (λ t a b. from_one vs v.symbols t (v.zeros t a b) ∙ sym (from_one ws u.symbols t (u.zeros t a b)))
  where
    from_one : (xs : List ℕ) → Below (2 ^ m) xs → (t : ℕ) → value_at m t xs ≡ 0 → value_from m t 1 xs ≡ 0
    from_one xs b t e =
        value_from_horner m w t 1 xs b ∙ ap (times m (alpha m (1 * t))) (sym (value_horner m w t xs b) ∙ e) ∙ F.times_zero_r m w (alpha m (1 * t)) (F.alpha_lt m w (1 * t))
