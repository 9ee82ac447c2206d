-- Each message has one codeword: a word that vanishes at a root x is X + x by what synthetic division leaves.
-- Assumes nothing.
use Rattle.basics.proofs.Kit.{◌≡◌, refl, sym, ap, ap₂, ◌∙◌, true, List, [], ◌∷◌, ℕ, zero, suc, ◌+◌, ◌^◌, ◌≤◌, ◌<◌, arith, length, drop}
use mathlib.Core.Logic.{◌⊎◌, inl, inr}
use native.Mathlib.Nat.{not-suc-le-zero, le_of_suc-le-suc, eq-or-lt_of_le, zero-add, suc-add, add-zero, add-suc}
use lib.Pow.{pow_pos}
use Rattle.field.specs.Field.{xor, times, alpha, width_good}
use Rattle.code.specs.Code.{long, message_long, symbols_good, is_codeword, message}
use Rattle.code.specs.Division.{tails, product, spread, divided, multiplied}
use Rattle.field.proofs.Tests.{to_T}
use Rattle.field.proofs.Xor as X
use Rattle.field.proofs.Field as F
use Rattle.field.proofs.Field.{field, times_lt}
use Rattle.code.proofs.Words as W
use Rattle.code.proofs.Words.{Below, horner, horner_lt, value_horner, CodewordParts, codeword_parts, parts_codeword}

-- the word with the k roots α^t, α^(t+1), .. that ends in the message
unfoldable pub encode : (m k t : ℕ) → List ℕ → List ℕ
encode m zero t ms = ms
encode m (suc k) t ms = product m (alpha m t) 0 (encode m k (suc t) (tails m (alpha m t) ms))

multiplied_encode : (m i k : ℕ) (ms : List ℕ) → multiplied m i (encode m k (suc i) (divided m i ms)) ≡ encode m (i + k) 1 ms
unfolding encode divided multiplied
multiplied_encode m zero k ms = ap (λ (x : ℕ). encode m x 1 ms) (sym (zero-add k))
multiplied_encode m (suc i) k ms = multiplied_encode m i (suc k) ms ∙ ap (λ (x : ℕ). encode m x 1 ms) (add-suc i k ∙ sym (suc-add i k))

-- all divisions first, and then all products
pub encode_in_turn : (m r : ℕ) (ms : List ℕ) → multiplied m r (divided m r ms) ≡ encode m r 1 ms
unfolding encode
encode_in_turn m r ms = multiplied_encode m r 0 ms ∙ ap (λ (x : ℕ). encode m x 1 ms) (add-zero r)

-- ---- lengths and tops

product_length : (m x p : ℕ) (q : List ℕ) → length (product m x p q) ≡ suc (length q)
unfolding product
product_length m x p [] = refl
product_length m x p (y ∷ ys) = ap suc (product_length m x y ys)

tails_length : (m x : ℕ) (ws : List ℕ) → length (tails m x ws) ≡ length ws
unfolding tails
tails_length m x [] = refl
tails_length m x (d ∷ ds) = ap suc (tails_length m x ds)

pub encode_length : (m k t : ℕ) (ms : List ℕ) → length (encode m k t ms) ≡ k + length ms
unfolding encode
encode_length m zero t ms = sym (zero-add (length ms))
encode_length m (suc k) t ms =
    let q : List ℕ = tails m (alpha m t) ms in
    omega (arith, product_length m (alpha m t) 0 (encode m k (suc t) q), encode_length m k (suc t) q, tails_length m (alpha m t) ms)

drop_tails : (m x k : ℕ) (ws : List ℕ) → drop k (tails m x ws) ≡ tails m x (drop k ws)
unfolding tails
drop_tails m x zero ws = refl
drop_tails m x (suc k) [] = refl
drop_tails m x (suc k) (d ∷ ds) = drop_tails m x k ds

drop_product : (m x p k : ℕ) (q : List ℕ) → k ≤ length q → drop (suc k) (product m x p q) ≡ spread m x (drop k q)
unfolding product spread
drop_product m x p zero [] h = refl
drop_product m x p zero (y ∷ ys) h = refl
drop_product m x p (suc k) [] h = absurd (not-suc-le-zero h)
drop_product m x p (suc k) (y ∷ ys) h = drop_product m x y k ys (le_of_suc-le-suc h)

module _ (m : ℕ) (w : width_good m ≡ true) where
  pub tails_below : (x : ℕ) (ws : List ℕ) → x < 2 ^ m → Below (2 ^ m) ws → Below (2 ^ m) (tails m x ws)
  unfolding tails
  tails_below x [] hx b = tt
  tails_below x (d ∷ ds) hx b = (horner_lt m w x (d ∷ ds) hx b, tails_below x ds hx b.1)

  pub product_below : (x p : ℕ) (q : List ℕ) → x < 2 ^ m → p < 2 ^ m → Below (2 ^ m) q → Below (2 ^ m) (product m x p q)
  unfolding product
  product_below x p [] hx hp b = (hp, tt)
  product_below x p (y ∷ ys) hx hp b = (X.below m p (times m x y) hp (F.times_lt m w x y hx b.0), product_below x y ys hx b.0 b.1)

  pub encode_below : (k t : ℕ) (ms : List ℕ) → Below (2 ^ m) ms → Below (2 ^ m) (encode m k t ms)
  unfolding encode
  encode_below zero t ms b = b
  encode_below (suc k) t ms b =
      let ht : alpha m t < 2 ^ m = F.alpha_lt m w t in
      product_below (alpha m t) 0 (encode m k (suc t) (tails m (alpha m t) ms)) ht (pow_pos m)
      (encode_below k (suc t) (tails m (alpha m t) ms) (tails_below (alpha m t) ms ht b))

  -- ---- division undone: the value at x, plus X + x by the quotient
  undo : (x c : ℕ) (cs : List ℕ) → x < 2 ^ m → product m x (horner m x (c ∷ cs)) (tails m x cs) ≡ c ∷ cs
  unfolding product horner tails
  undo x c [] hx = simp (F.times_zero_r, X.zero_r)
  undo x c (d ∷ ds) hx = ap₂ (λ (y : ℕ) (ys : List ℕ). y ∷ ys) (X.uncancel c (times m x (horner m x (d ∷ ds)))) (undo x d ds hx)

  undo_spread : (x : ℕ) (ws : List ℕ) → x < 2 ^ m → spread m x (tails m x ws) ≡ ws
  unfolding spread tails
  undo_spread x [] hx = refl
  undo_spread x (d ∷ ds) hx = undo x d ds hx

  -- the value at y of p + (X + x) q
  product_value : (x y p : ℕ) (q : List ℕ) → x < 2 ^ m → y < 2 ^ m → p < 2 ^ m → Below (2 ^ m) q →
      horner m y (product m x p q) ≡ xor p (times m (xor y x) (horner m y q))
  unfolding product horner
  product_value x y p [] hx hy hp b = simp (F.times_zero_r, X.below)
  product_value x y p (z ∷ zs) hx hy hp b =
      let hz : z < 2 ^ m = b.0 in
      let hv : horner m y zs < 2 ^ m = horner_lt m w y zs hy b.1 in
      rw (product_value x y z zs hx hy hz b.1) (simp (field, times_lt, X.below))

  -- the value at y of (X + x) q
  root_value : (x y : ℕ) (q : List ℕ) → x < 2 ^ m → y < 2 ^ m → Below (2 ^ m) q → horner m y (product m x 0 q) ≡ times m (xor y x) (horner m y q)
  root_value x y q hx hy b = product_value x y 0 q hx hy (pow_pos m) b ∙ X.zero_l (times m (xor y x) (horner m y q))

  pub encode_top : (k t : ℕ) (ms : List ℕ) → drop k (encode m k t ms) ≡ ms
  unfolding encode
  encode_top zero t ms = refl
  encode_top (suc k) t ms =
      let x : ℕ = alpha m t in
      drop_product m x 0 k (encode m k (suc t) (tails m x ms)) (omega (arith, encode_length m k (suc t) (tails m x ms)))
      ∙ ap (spread m x) (encode_top k (suc t) (tails m x ms)) ∙ undo_spread x ms (F.alpha_lt m w t)

  pub encode_roots : (k t s : ℕ) (ms : List ℕ) → Below (2 ^ m) ms → t ≤ s → s < t + k → horner m (alpha m s) (encode m k t ms) ≡ 0
  unfolding encode
  encode_roots zero t s ms b l h = absurd (omega arith)
  encode_roots (suc k) t s ms b l h =
      let x : ℕ = alpha m t in
      let hx : x < 2 ^ m = F.alpha_lt m w t in
      let bt : Below (2 ^ m) (tails m x ms) = tails_below x ms hx b in
      root_value x (alpha m s) (encode m k (suc t) (tails m x ms)) hx (F.alpha_lt m w s) (encode_below k (suc t) (tails m x ms) bt)
      ∙ pick (horner_lt m w (alpha m s) (encode m k (suc t) (tails m x ms)) (F.alpha_lt m w s) (encode_below k (suc t) (tails m x ms) bt))
      (λ (o : t < s). encode_roots k (suc t) s (tails m x ms) bt o (omega arith)) (eq-or-lt_of_le l)
    where
      pick : {v : ℕ} → v < 2 ^ m → (t < s → v ≡ 0) → (t ≡ s) ⊎ (t < s) → times m (xor (alpha m s) (alpha m t)) v ≡ 0
      pick hv f (inl e) = rw e (simp (X.self, F.times_zero_l))
      pick hv f (inr o) = rw (f o) (F.times_zero_r m w (xor (alpha m s) (alpha m t)) (X.below m (alpha m s) (alpha m t) (F.alpha_lt m w s) (F.alpha_lt m w t)))

  -- a word with those roots is the encoding of its top
  pub encode_only : (k t : ℕ) (ws : List ℕ) → Below (2 ^ m) ws → k ≤ length ws → 1 ≤ t → t + k ≤ 2 ^ m →
      ((s : ℕ) → t ≤ s → s < t + k → horner m (alpha m s) ws ≡ 0) → ws ≡ encode m k t (drop k ws)
  unfolding encode
  encode_only zero t ws b n l h v = refl
  encode_only (suc k) t [] b n l h v = absurd (not-suc-le-zero n)
  encode_only (suc k) t (c ∷ cs) b n l h v =
      let x : ℕ = alpha m t in
      let hx : x < 2 ^ m = F.alpha_lt m w t in
      let q : List ℕ = tails m x cs in
      let hq : Below (2 ^ m) q = tails_below x cs hx b.1 in
      let whole : product m x 0 q ≡ c ∷ cs = ap (λ (p : ℕ). product m x p q) (sym (v t (omega arith) (omega arith))) ∙ undo x c cs hx in
      let roots : (s : ℕ) → suc t ≤ s → s < suc t + k → horner m (alpha m s) q ≡ 0 =
      (λ s o u.
      let y : ℕ = alpha m s in
      let hy : y < 2 ^ m = F.alpha_lt m w s in
      F.no_divisor m w (xor y x) (horner m y q) (X.below m y x hy hx) (horner_lt m w y q hy hq) (F.alpha_apart m w s t (omega arith) l o)
      (sym (root_value x y q hx hy hq) ∙ ap (horner m y) whole ∙ v s (omega arith) (omega arith))) in
      sym whole
      ∙ ap (product m x 0)
      (encode_only k (suc t) q hq (omega (arith, tails_length m x cs)) (omega arith) (omega arith) roots
      ∙ ap (encode m k (suc t)) (drop_tails m x k cs))

module _ (m r : ℕ) (w : width_good m ≡ true) (small : r ≤ long m) where
  -- a codeword is the encoding of its message
  pub codeword_is : (ws : List ℕ) → is_codeword m r ws ≡ true → ws ≡ encode m r 1 (message r ws)
  unfolding message long
  codeword_is ws g =
      let p : CodewordParts m r ws = codeword_parts m r ws g in
      encode_only m w r 1 ws p.symbols (omega arith) (omega arith) (omega (arith, pow_pos m))
      (λ s l h. sym (value_horner m w s ws p.symbols) ∙ p.zeros s l h)

  pub encode_good : (ms : List ℕ) → length ms ≡ message_long m r → symbols_good m ms ≡ true → is_codeword m r (encode m r 1 ms) ≡ true
  unfolding message_long
  encode_good ms n g =
      let b : Below (2 ^ m) ms = W.below m ms (to_T g) in
      let bw : Below (2 ^ m) (encode m r 1 ms) = encode_below m w r 1 ms b in
      parts_codeword m r (encode m r 1 ms)
      (record {
        count = omega (arith, encode_length m r 1 ms);
        symbols = bw;
        zeros = λ s l h. value_horner m w s (encode m r 1 ms) bw ∙ encode_roots m w r 1 s ms b l h;
      })
