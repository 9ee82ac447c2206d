-- Words as lists of symbols, and their values: Horner's form, with which the proofs work, is tied to the sum of c_i · α^(i·t).
-- Assumes nothing.
use Rattle.basics.proofs.Kit.{◌≡◌, refl, sym, ap, ap₂, ◌∙◌, Bool, true, ◌&&◌, List, [], ◌∷◌, ℕ, zero, suc, ◌+◌, ◌*◌, ◌^◌, ◌≤◌, ◌<◌, arith, length, drop, eqb, ltb}
use mathlib.Core.Logic.{◌⊎◌, inl, inr}
use native.Mathlib.Nat.{lt_of_lt_of_le, eq-or-lt_of_le, suc-mul, zero-mul}
use lib.Dec.{T, ltb→lt, lt→ltb, eqb→eq, eqb_refl}
use lib.Pow.{pow_pos}
use Rattle.field.specs.Field.{xor, times, alpha, width_good}
use Rattle.code.specs.Code.{long, symbols_good, value_from, value_at, vanishes, is_codeword}
unfoldable pub use Rattle.code.specs.Division.{horner}
use Rattle.field.proofs.Tests.{and_l, and_r, to_T, from_T}
use Rattle.field.proofs.Xor as X
use Rattle.field.proofs.Field as F
use Rattle.field.proofs.Field.{times_lt}

-- each symbol is below n
abbrev pub Below : ℕ → List ℕ → Type 0
Below n [] = Unit {0}
Below n (x ∷ xs) = (x < n) × Below n xs

pub below : (m : ℕ) (ws : List ℕ) → T (symbols_good m ws) → Below (2 ^ m) ws
unfolding symbols_good
below m [] t = tt
below m (x ∷ xs) t = (ltb→lt x (2 ^ m) (and_l (ltb x (2 ^ m)) (symbols_good m xs) t), below m xs (and_r (ltb x (2 ^ m)) (symbols_good m xs) t))

pub good : (m : ℕ) (ws : List ℕ) → Below (2 ^ m) ws → symbols_good m ws ≡ true
unfolding symbols_good
good m [] b = refl
good m (x ∷ xs) b = ap₂ (λ (y z : Bool). y && z) (from_T (ltb x (2 ^ m)) (lt→ltb x (2 ^ m) b.0)) (good m xs b.1)

pub widen : {n p : ℕ} → n ≤ p → (ws : List ℕ) → Below n ws → Below p ws
widen l [] b = tt
widen l (x ∷ xs) b = (lt_of_lt_of_le b.0 l, widen l xs b.1)

pub drop_below : (n k : ℕ) (ws : List ℕ) → Below n ws → Below n (drop k ws)
drop_below n zero ws b = b
drop_below n (suc k) [] b = tt
drop_below n (suc k) (c ∷ cs) b = drop_below n k cs b.1

module _ (m : ℕ) (w : width_good m ≡ true) where
  pub horner_lt : (x : ℕ) (ws : List ℕ) → x < 2 ^ m → Below (2 ^ m) ws → horner m x ws < 2 ^ m
  unfolding horner
  horner_lt x [] hx b = pow_pos m
  horner_lt x (c ∷ cs) hx b = X.below m c (times m x (horner m x cs)) b.0 (F.times_lt m w x (horner m x cs) hx (horner_lt x cs hx b.1))

  -- from a place on
  pub horner_inside : (x : ℕ) (ws : List ℕ) (i v : ℕ) → x < 2 ^ m → symbols_good m ws ≡ true → v ≡ horner m x (drop i ws) → v < 2 ^ m
  horner_inside x ws i v hx g e = rw e (horner_lt x (drop i ws) hx (drop_below (2 ^ m) i ws (below m ws (to_T g))))

  pub value_from_horner : (t i : ℕ) (ws : List ℕ) → Below (2 ^ m) ws → value_from m t i ws ≡ times m (alpha m (i * t)) (horner m (alpha m t) ws)
  unfolding value_from horner
  value_from_horner t i [] b = sym (F.times_zero_r m w (alpha m (i * t)) (F.alpha_lt m w (i * t)))
  value_from_horner t i (c ∷ cs) b =
      let y : ℕ = alpha m (i * t) in
      let x : ℕ = alpha m t in
      let hy : y < 2 ^ m = F.alpha_lt m w (i * t) in
      let hx : x < 2 ^ m = F.alpha_lt m w t in
      let hc : c < 2 ^ m = b.0 in
      let v : ℕ = horner m x cs in
      let hv : v < 2 ^ m = horner_lt x cs hx b.1 in
      ap₂ xor (F.times_comm m w c y hc hy)
      (value_from_horner t (suc i) cs b.1
      ∙ ap (λ (z : ℕ). times m z v) (ap (alpha m) (suc-mul i t) ∙ F.alpha_add m w (i * t) t)
      ∙ F.times_assoc m w y x v hy hx hv)
      ∙ sym (F.times_add_r m w y c (times m x v) hy hc (F.times_lt m w x v hx hv))

  -- THE VALUE AT α^t by Horner's rule
  pub value_horner : (t : ℕ) (ws : List ℕ) → Below (2 ^ m) ws → value_at m t ws ≡ horner m (alpha m t) ws
  unfolding value_at alpha
  value_horner t ws b =
      let v : ℕ = horner m (alpha m t) ws in
      value_from_horner t 0 ws b ∙ ap (λ (e : ℕ). times m (alpha m e) v) (zero-mul t)
      ∙ F.times_one m w v (horner_lt (alpha m t) ws (F.alpha_lt m w t) b)

  pub value_lt : (t : ℕ) (ws : List ℕ) → Below (2 ^ m) ws → value_at m t ws < 2 ^ m
  value_lt t ws b = rw (value_horner t ws b) (horner_lt (alpha m t) ws (F.alpha_lt m w t) b)

-- the test for roots, and the roots
pub vanish_at : (m k t : ℕ) (ws : List ℕ) → T (vanishes k t m ws) → (s : ℕ) → t ≤ s → s < t + k → value_at m s ws ≡ 0
unfolding vanishes
vanish_at m zero t ws v s l h = absurd (omega arith)
vanish_at m (suc k) t ws v s l h =
    pick (λ (o : t < s). vanish_at m k (suc t) ws (and_r (eqb (value_at m t ws) 0) (vanishes k (suc t) m ws) v) s o (omega arith)) (eq-or-lt_of_le l)
  where
    pick : (t < s → value_at m s ws ≡ 0) → (t ≡ s) ⊎ (t < s) → value_at m s ws ≡ 0
    pick f (inl e) = rw (← e) (eqb→eq (value_at m t ws) 0 (and_l (eqb (value_at m t ws) 0) (vanishes k (suc t) m ws) v))
    pick f (inr o) = f o

pub all_vanish : (m k t : ℕ) (ws : List ℕ) → ((s : ℕ) → t ≤ s → s < t + k → value_at m s ws ≡ 0) → vanishes k t m ws ≡ true
unfolding vanishes
all_vanish m zero t ws f = refl
all_vanish m (suc k) t ws f =
    ap₂ (λ (x : ℕ) (y : Bool). eqb x 0 && y) (f t (omega arith) (omega arith)) (all_vanish m k (suc t) ws (λ s l h. f s (omega arith) (omega arith)))

-- the three parts of being a codeword
pub record CodewordParts (m r : ℕ) (ws : List ℕ) : Type 0 where
  pub count : length ws ≡ long m
  pub symbols : Below (2 ^ m) ws
  pub zeros : (s : ℕ) → 1 ≤ s → s < 1 + r → value_at m s ws ≡ 0

pub codeword_parts : (m r : ℕ) (ws : List ℕ) → is_codeword m r ws ≡ true → CodewordParts m r ws
unfolding is_codeword
codeword_parts m r ws g =
    let f : T (eqb (length ws) (long m) && symbols_good m ws) = and_l (eqb (length ws) (long m) && symbols_good m ws) (vanishes r 1 m ws) (to_T g) in
    record {
      count = eqb→eq (length ws) (long m) (and_l (eqb (length ws) (long m)) (symbols_good m ws) f);
      symbols = below m ws (and_r (eqb (length ws) (long m)) (symbols_good m ws) f);
      zeros = vanish_at m r 1 ws (and_r (eqb (length ws) (long m) && symbols_good m ws) (vanishes r 1 m ws) (to_T g));
    }

pub eqb_true : (a b : ℕ) → a ≡ b → eqb a b ≡ true
eqb_true a b e = rw e (from_T (eqb b b) (eqb_refl b))

pub parts_codeword : (m r : ℕ) (ws : List ℕ) → CodewordParts m r ws → is_codeword m r ws ≡ true
unfolding is_codeword
parts_codeword m r ws p =
    ap₂ (λ (x y : Bool). x && y) (ap₂ (λ (x y : Bool). x && y) (eqb_true (length ws) (long m) p.count) (good m ws p.symbols))
    (all_vanish m r 1 ws p.zeros)
