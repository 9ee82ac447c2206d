-- Bits put in as layer j of a word whose symbols are below 2^j: they are that layer, and the layers below it stay.
-- Assumes nothing.
use Rattle.basics.proofs.Kit.{◌≡◌, refl, sym, ap, ap₂, ◌∙◌, Bool, ◌&&◌, List, [], ◌∷◌, ◌++◌, ℕ, suc, ◌+◌, ◌-◌, ◌*◌, ◌/◌, ◌%◌, ◌^◌, ◌≤◌, ◌<◌, arith, length, get_or, take, drop, eqb, ltb}
use native.Mathlib.Nat.{add-zero}
use native.Mathlib.Numerals.{add-one}
use lib.Seq.{drop-cons, length-take-le, get_or-append-add, get_or-drop}
use lib.Dec.{T, eqb→eq, ltb→lt}
use Rattle.field.specs.Field.{xor}
use Rattle.field.proofs.Tests.{all, at, and_l, and_r}
use Rattle.code.proofs.Words.{Below}
use Rattle.code.specs.Bits.{bits_of}
use Rattle.split.specs.Split.{layer, sum}
use Rattle.split.proofs.Layers as L
use Rattle.join.specs.Within.{with_layer}

-- one symbol
raised : (j c b : ℕ) → ℕ
raised j c b = xor c (b * 2 ^ j % 256)

test : (j c b : ℕ) → Bool
test j c b = ltb (raised j c b) (2 ^ suc j) && (eqb (raised j c b / 2 ^ j % 2) b && all j (λ k. eqb (raised j c b / 2 ^ k % 2) (c / 2 ^ k % 2)))

tests : T (all 4 (λ j. all (2 ^ j) (λ c. all 2 (test j c))))
unfolding test raised xor
tests = tt

record Raised (j c b : ℕ) : Type 0 where
  small : raised j c b < 2 ^ suc j
  here : raised j c b / 2 ^ j % 2 ≡ b
  below : (k : ℕ) → k < j → raised j c b / 2 ^ k % 2 ≡ c / 2 ^ k % 2

pub raised_length : (j : ℕ) (cs bs : List ℕ) → length cs ≡ length bs → length (with_layer j cs bs) ≡ length cs
unfolding with_layer
raised_length j [] bs e = refl
raised_length j (c ∷ cs) [] e = absurd (omega arith)
raised_length j (c ∷ cs) (b ∷ bs) e = ap suc (raised_length j cs bs (omega arith))

module _ (j : ℕ) (few : j < 4) where
  one : (c b : ℕ) → c < 2 ^ j → b < 2 → Raised j c b
  unfolding test
  one c b hc hb =
      let t : T (test j c b) = at 2 (test j c) (at (2 ^ j) (λ c. all 2 (test j c)) (at 4 (λ j. all (2 ^ j) (λ c. all 2 (test j c))) tests j few) c hc) b hb in
      let u : T (eqb (raised j c b / 2 ^ j % 2) b && all j (λ k. eqb (raised j c b / 2 ^ k % 2) (c / 2 ^ k % 2))) = and_r (ltb (raised j c b) (2 ^ suc j)) _ t in
      record {
        small = ltb→lt (raised j c b) (2 ^ suc j) (and_l (ltb (raised j c b) (2 ^ suc j)) _ t);
        here = eqb→eq (raised j c b / 2 ^ j % 2) b (and_l (eqb (raised j c b / 2 ^ j % 2) b) _ u);
        below = λ k h. eqb→eq _ _ (at j (λ k. eqb (raised j c b / 2 ^ k % 2) (c / 2 ^ k % 2)) (and_r (eqb (raised j c b / 2 ^ j % 2) b) _ u) k h);
      }

  pub raised_below : (cs bs : List ℕ) → Below (2 ^ j) cs → Below 2 bs → Below (2 ^ suc j) (with_layer j cs bs)
  unfolding with_layer raised
  raised_below [] bs p q = tt
  raised_below (c ∷ cs) [] p q = tt
  raised_below (c ∷ cs) (b ∷ bs) p q = ((one c b p.0 q.0).small, raised_below cs bs p.1 q.1)

  pub raised_here : (cs bs : List ℕ) → length cs ≡ length bs → Below (2 ^ j) cs → Below 2 bs → layer j (with_layer j cs bs) ≡ bs
  unfolding with_layer layer raised
  raised_here [] [] e p q = refl
  raised_here [] (b ∷ bs) e p q = absurd (omega arith)
  raised_here (c ∷ cs) [] e p q = absurd (omega arith)
  raised_here (c ∷ cs) (b ∷ bs) e p q = ap₂ ◌∷◌ (one c b p.0 q.0).here (raised_here cs bs (omega arith) p.1 q.1)

  pub raised_others : (k : ℕ) → k < j → (cs bs : List ℕ) → length cs ≡ length bs → Below (2 ^ j) cs → Below 2 bs → layer k (with_layer j cs bs) ≡ layer k cs
  unfolding with_layer layer raised
  raised_others k h [] bs e p q = refl
  raised_others k h (c ∷ cs) [] e p q = absurd (omega arith)
  raised_others k h (c ∷ cs) (b ∷ bs) e p q = ap₂ ◌∷◌ ((one c b p.0 q.0).below k h) (raised_others k h cs bs (omega arith) p.1 q.1)

-- the word to be written
unfoldable pub to : (j leader : ℕ) (bits word : List ℕ) → List ℕ
to j x bs ws = with_layer j ws (sum bs (bits_of (length bs) x))

pub to_length : (j x : ℕ) (bs ws : List ℕ) → length ws ≡ length bs → length (to j x bs ws) ≡ length ws
unfolding to
to_length j x bs ws e =
    let n : length (sum bs (bits_of (length bs) x)) ≡ length bs = L.sum_length bs (bits_of (length bs) x) (sym (L.bits_length (length bs) x)) ∙ L.bits_length (length bs) x in
    raised_length j ws _ (e ∙ sym n)

pub one_position : (j x i : ℕ) (bs ws : List ℕ) → length ws ≡ length bs → i < length bs →
    with_layer j (drop i ws) (sum (drop i bs) (bits_of (length bs - i) x))
    ≡ xor (get_or ws i 0) (xor (get_or bs i 0) (x % 2) * 2 ^ j % 256) ∷ with_layer j (drop (i + 1) ws) (sum (drop (i + 1) bs) (bits_of (length bs - (i + 1)) (x / 2)))
unfolding with_layer sum bits_of
one_position j x i bs ws e h =
    let n : length bs - i ≡ suc (length bs - (i + 1)) = omega arith in
    rw (n, drop-cons ws i 0 (omega arith), drop-cons bs i 0 h, add-one i) refl

-- a place that is not yet written over
pub unwritten : (to d : List ℕ) (i : ℕ) → i ≤ length to → get_or (take i to ++ drop i d) i 0 ≡ get_or d i 0
unwritten to d i h =
    let l : length (take i to) ≡ i = length-take-le i to h in
    let e : i ≡ length (take i to) + 0 = omega arith in
    ap (λ (k : ℕ). get_or (take i to ++ drop i d) k 0) e ∙ get_or-append-add (take i to) (drop i d) 0 0 ∙ get_or-drop i d 0 0 ∙ ap (λ (k : ℕ). get_or d k 0) (add-zero i)
