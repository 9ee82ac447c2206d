-- A sweep down a list in place: from the end to place i it is replaced by F of what stood there, with one number carried along.
-- Division by X + x and multiplication by it are two such sweeps.
-- Assumes nothing.
use Rattle.basics.proofs.Kit.{◌≡◌, refl, sym, ap, ap₂, ◌∙◌, true, List, [], ◌∷◌, ◌++◌, ℕ, zero, suc, ◌^◌, ◌≤◌, ◌<◌, arith, length, get_or, take, drop, set}
use mathlib.Core.List.{append-nil}
use native.Mathlib.Nat.{not-suc-le-zero, le_refl}
use lib.ListN.{length-set}
use lib.Seq.{take-suc, drop-cons, append_snoc, take-length, drop-length, length-take-le, get_or_at, set_at}
use lib.Pow.{pow_pos}
use Rattle.field.specs.Field.{width_good, xor, times}
use Rattle.field.proofs.Tests.{to_T}
use Rattle.field.proofs.Xor as X
use Rattle.field.proofs.Field as F
use Rattle.code.specs.Code.{symbols_good}
use Rattle.code.specs.Division.{horner, tails, product, spread}
use Rattle.code.proofs.Words.{Below, below, drop_below, horner_inside}

module _ (l r : List ℕ) (j : ℕ) (h : j < length l) where
  cut : take (suc j) l ++ r ≡ take j l ++ (get_or l j 0 ∷ r)
  cut = ap (λ (p : List ℕ). p ++ r) (take-suc l j 0 h) ∙ append_snoc (take j l) (get_or l j 0) r

  front : length (take j l) ≡ j
  front = length-take-le j l (omega arith)

  get_last : get_or (take (suc j) l ++ r) j 0 ≡ get_or l j 0
  get_last = ap (λ (p : List ℕ). get_or p j 0) cut ∙ get_or_at (take j l) (get_or l j 0) r 0 j front

  set_last : (u : ℕ) → set (take (suc j) l ++ r) j u ≡ take j l ++ (u ∷ r)
  set_last u = ap (λ (p : List ℕ). set p j u) cut ∙ set_at (take j l) (get_or l j 0) r u j front

-- l has become p down to place i, and v is carried
pub record Swept (f : List ℕ → List ℕ) (carry : List ℕ → ℕ) (l p : List ℕ) (v i : ℕ) : Type 0 where
  pub few : i ≤ length l
  pub long : length p ≡ length l
  pub list : p ≡ take i l ++ f (drop i l)
  pub carried : v ≡ carry (drop i l)

module _ (f : List ℕ → List ℕ) (carry : List ℕ → ℕ) (l : List ℕ) where
  pub start : (v : ℕ) → f [] ≡ [] → v ≡ carry [] → Swept f carry l l v (length l)
  start v e c = record {
    few = le_refl (length l);
    long = refl;
    list = sym (ap₂ (λ (a b : List ℕ). a ++ b) (take-length l) (ap f (drop-length l) ∙ e) ∙ append-nil l);
    carried = c ∙ ap carry (sym (drop-length l));
  }

  pub finish : (p : List ℕ) (v i : ℕ) → i ≤ 0 → Swept f carry l p v i → p ≡ f l
  finish p v zero h s = s.list
  finish p v (suc i) h s = absurd (not-suc-le-zero h)

  step : (p : List ℕ) (v j u w : ℕ) → Swept f carry l p v (suc j) →
      (u ∷ f (drop (suc j) l) ≡ f (get_or p j 0 ∷ drop (suc j) l)) → w ≡ carry (get_or p j 0 ∷ drop (suc j) l) → Swept f carry l (set p j u) w j
  step p v j u w s e c =
      let h : j < length l = s.few in
      let d : get_or p j 0 ∷ drop (suc j) l ≡ drop j l =
      ap (λ (x : ℕ). x ∷ drop (suc j) l) (ap (λ (q : List ℕ). get_or q j 0) s.list ∙ get_last l (f (drop (suc j) l)) j h) ∙ sym (drop-cons l j 0 h) in
      record {
        few = omega arith;
        long = length-set p j u ∙ s.long;
        list =
            ap (λ (q : List ℕ). set q j u) s.list ∙ set_last l (f (drop (suc j) l)) j h u ∙ ap (λ (q : List ℕ). take j l ++ q) (e ∙ ap f d);
        carried = c ∙ ap carry d;
      }

  pub turn : (p : List ℕ) (v i j u w : ℕ) → i ≡ suc j → Swept f carry l p v i →
      (u ∷ f (drop i l) ≡ f (get_or p j 0 ∷ drop i l)) → w ≡ carry (get_or p j 0 ∷ drop i l) → Swept f carry l (set p j u) w j
  turn p v i j u w q s e c = step p v j u w (rw q at s) (rw q at e) (rw q at c)

-- division by X + x carries the value at x
abbrev pub Divided : (m x : ℕ) → (l p : List ℕ) → (v i : ℕ) → Type 0
Divided m x = Swept (tails m x) (horner m x)

pub divide_start : (m x : ℕ) (l : List ℕ) → Divided m x l l 0 (length l)
unfolding tails horner
divide_start m x l = start (tails m x) (horner m x) l 0 refl refl

pub divide_turn : (m x : ℕ) (l p : List ℕ) (v i j u : ℕ) → i ≡ suc j → Divided m x l p v i → u ≡ xor (get_or p j 0) (times m x v) → Divided m x l (set p j u) u j
unfolding tails horner
divide_turn m x l p v i j u q s e =
    let c : u ≡ horner m x (get_or p j 0 ∷ drop i l) = e ∙ ap (λ (y : ℕ). xor (get_or p j 0) (times m x y)) s.carried in
    turn (tails m x) (horner m x) l p v i j u u q s (ap (λ (y : ℕ). y ∷ tails m x (drop i l)) c) c

-- multiplication carries the next symbol
abbrev pub first : List ℕ → ℕ
first l = get_or l 0 0

abbrev pub Spread : (m x : ℕ) → (l p : List ℕ) → (v i : ℕ) → Type 0
Spread m x = Swept (spread m x) first

pub spread_start : (m x : ℕ) (l : List ℕ) → Spread m x l l 0 (length l)
unfolding spread
spread_start m x l = start (spread m x) first l 0 refl refl

below_first : (n : ℕ) (l : List ℕ) → 0 < n → Below n l → first l < n
below_first n [] p b = p
below_first n (c ∷ cs) p b = b.0

module _ (m : ℕ) (w : width_good m ≡ true) (x : ℕ) (hx : x < 2 ^ m) where
  spread_cons : (c : ℕ) (cs : List ℕ) → xor c (times m x (first cs)) ∷ spread m x cs ≡ spread m x (c ∷ cs)
  unfolding spread product
  spread_cons c [] = ap (λ (y : ℕ). y ∷ []) (ap (xor c) (F.times_zero_r m w x hx) ∙ X.zero_r c)
  spread_cons c (y ∷ ys) = refl

  pub spread_turn : (l p : List ℕ) (v i j u d : ℕ) → i ≡ suc j → Spread m x l p v i → d ≡ get_or p j 0 → u ≡ xor d (times m x v) → Spread m x l (set p j u) d j
  spread_turn l p v i j u d q s g e =
      turn (spread m x) first l p v i j u d q s
      (ap (λ (y : ℕ). y ∷ spread m x (drop i l)) (e ∙ ap₂ (λ (a b : ℕ). xor a (times m x b)) g s.carried) ∙ spread_cons (get_or p j 0) (drop i l)) g

  -- what is carried is an element
  pub divide_inside : (l p : List ℕ) (v i : ℕ) → symbols_good m l ≡ true → Divided m x l p v i → v < 2 ^ m
  divide_inside l p v i g s = horner_inside m w x l i v hx g s.carried

  pub spread_inside : (l p : List ℕ) (v i : ℕ) → symbols_good m l ≡ true → Spread m x l p v i → v < 2 ^ m
  spread_inside l p v i g s = rw s.carried (below_first (2 ^ m) (drop i l) (pow_pos m) (drop_below (2 ^ m) i l (below m l (to_T g))))
