-- THERE IS A LEAST COST, and a first word that has it: the words of n symbols are finitely many, so a search for a lesser one ends.
-- Assumes nothing.
use Rattle.basics.proofs.Kit.{◌≡◌, refl, sym, ◌∙◌, Bool, true, false, ◌&&◌, List, [], ◌∷◌, ℕ, zero, suc, ◌^◌, ◌≤◌, ◌<◌, arith, length, eqb, ltb, ℤ}
use mathlib.Core.Logic.{◌⊎◌, inl, inr}
use native.Mathlib.Nat.{suc_inj, le_of_suc-le-suc, not-suc-le-zero, eq-or-lt_of_le, le_refl}
use borrow.Author.Tests.{ltb-false, eq-eqb}
use lib.Dec.{T, ltb→lt, eqb→eq}
use Rattle.order.specs.Order.{not_after}
use Rattle.order.specs.Number.{number, Digits}
use Rattle.order.proofs.Numbers.{le_number}
use Rattle.field.proofs.Tests.{and_l, and_r, to_T, from_T}
use Rattle.code.specs.Bits.{bit_at}
use Rattle.code.proofs.Words.{Below, below}
use Rattle.metric.specs.Cost.{cost, Least, LeastWith}
use Rattle.metric.specs.Promise.{WordsFor}

-- the symbols of a word as digits
pub digits : (n : ℕ) (ws : List ℕ) → Below n ws → Digits n ws
digits n [] b = tt
digits n (c ∷ cs) b = (b.0, digits n cs b.1)

-- a word that passes a test, or none of n symbols below k does
abbrev Looked : (n k : ℕ) → (List ℕ → Bool) → Type 0
Looked n k p = ((ws : List ℕ) × (p ws ≡ true)) ⊎ ((ws : List ℕ) → length ws ≡ n → Below k ws → p ws ≡ false)

look_nil : (k : ℕ) (p : List ℕ → Bool) → Looked 0 k p
look_nil k p = go (p []) refl
  where
    none : p [] ≡ false → (ws : List ℕ) → length ws ≡ 0 → Below k ws → p ws ≡ false
    none e [] l b = e
    none e (c ∷ cs) l b = absurd (omega arith)

    go : (x : Bool) → p [] ≡ x → Looked 0 k p
    go true e = inl ([], e)
    go false e = inr (none e)

-- the same of a first symbol below j and n more
abbrev LookedFirst : (n k j : ℕ) → (List ℕ → Bool) → Type 0
LookedFirst n k j p =
    ((ws : List ℕ) × (p ws ≡ true)) ⊎ ((c : ℕ) → c < j → (cs : List ℕ) → length cs ≡ n → Below k cs → p (c ∷ cs) ≡ false)

look_first : (n k : ℕ) → ((p : List ℕ → Bool) → Looked n k p) → (p : List ℕ → Bool) → (j : ℕ) → LookedFirst n k j p
look_first n k rec p zero = inr (λ c h. absurd (not-suc-le-zero h))
look_first n k rec p (suc j) = go (rec (λ cs. p (j ∷ cs))) (look_first n k rec p j)
  where
    go : Looked n k (λ cs. p (j ∷ cs)) → LookedFirst n k j p → LookedFirst n k (suc j) p
    go (inl x) y = inl (j ∷ x.0, x.1)
    go (inr f) (inl y) = inl y
    go (inr f) (inr g) = inr (λ c h cs. pick c cs (eq-or-lt_of_le (le_of_suc-le-suc h)))
      where
        pick : (c : ℕ) (cs : List ℕ) → (c ≡ j) ⊎ (c < j) → length cs ≡ n → Below k cs → p (c ∷ cs) ≡ false
        pick c cs (inl e) l b = rw e (f cs l b)
        pick c cs (inr h) l b = g c h cs l b

look : (n k : ℕ) (p : List ℕ → Bool) → Looked n k p
look zero k p = look_nil k p
look (suc n) k p = go (look_first n k (look n k) p k)
  where
    go : LookedFirst n k k p → Looked (suc n) k p
    go (inl x) = inl x
    go (inr f) = inr all
      where
        all : (ws : List ℕ) → length ws ≡ suc n → Below k ws → p ws ≡ false
        all [] l b = absurd (omega arith)
        all (c ∷ cs) l b = f c b.0 cs (suc_inj l) b.1

-- a word of least number among those that pass a test
record Lowest (q : List ℕ → Bool) (f : List ℕ → ℕ) : Type 0 where
  word : List ℕ
  passes : q word ≡ true
  least : (ws : List ℕ) → q ws ≡ true → f word ≤ f ws

module _ (n k : ℕ) (q : List ℕ → Bool) (f : List ℕ → ℕ) (within : (ws : List ℕ) → q ws ≡ true → (length ws ≡ n) × Below k ws) where
  lowest_from : (left : ℕ) (ws : List ℕ) → q ws ≡ true → f ws ≤ left → Lowest q f
  lowest_from zero ws e h = record { word = ws; passes = e; least = λ vs g. omega arith }
  lowest_from (suc left) ws e h = go (lowest_from left) (look n k (λ vs. q vs && ltb (f vs) (f ws)))
    where
      go : ((ws : List ℕ) → q ws ≡ true → f ws ≤ left → Lowest q f) → Looked n k (λ vs. q vs && ltb (f vs) (f ws)) → Lowest q f
      go rec (inl x) =
          let t : T (q x.0 && ltb (f x.0) (f ws)) = to_T x.1 in
          let l : f x.0 < f ws = ltb→lt _ _ (and_r (q x.0) (ltb (f x.0) (f ws)) t) in
          rec x.0 (from_T (q x.0) (and_l (q x.0) (ltb (f x.0) (f ws)) t)) (omega arith)
      go rec (inr none) = record {
        word = ws;
        passes = e;
        least = λ vs g. ltb-false (f vs) (f ws) (rw g at (none vs (within vs g).0 (within vs g).1));
      }

  lowest : (ws : List ℕ) → q ws ≡ true → Lowest q f
  lowest ws e = lowest_from (f ws) ws e (le_refl (f ws))

module _ (m : ℕ) (among : List ℕ → Bool) (rs : List ℤ) (x : WordsFor m among rs) where
  inside : (ws : List ℕ) → among ws ≡ true → (length ws ≡ x.count) × Below (2 ^ m) ws
  inside ws c = ((x.words ws c).0, below m ws (to_T (x.words ws c).1))

  pub least_there : (d : ℕ) × Least m among rs d
  least_there =
      let l : Lowest among (cost m rs) = lowest x.count (2 ^ m) among (cost m rs) inside x.some.0 x.some.1 in
      (cost m rs l.word, record { met = (l.word, l.passes, refl); all = l.least })

  -- the lowest among the words of which a number is v
  module _ (number_of_lem : List ℕ → ℕ) (v : ℕ) (f : List ℕ → ℕ) where
    held : List ℕ → Bool
    held ws = among ws && eqb (number_of_lem ws) v

    held_word : (ws : List ℕ) → held ws ≡ true → among ws ≡ true
    unfolding held
    held_word ws g = from_T (among ws) (and_l (among ws) (eqb (number_of_lem ws) v) (to_T g))

    held_number : (ws : List ℕ) → held ws ≡ true → number_of_lem ws ≡ v
    unfolding held
    held_number ws g = eqb→eq (number_of_lem ws) v (and_r (among ws) (eqb (number_of_lem ws) v) (to_T g))

    held_of : (ws : List ℕ) → among ws ≡ true → number_of_lem ws ≡ v → held ws ≡ true
    unfolding held
    held_of ws c e = rw (c, eq-eqb (number_of_lem ws) v e) refl

    lowest_held :
        (ws : List ℕ) → among ws ≡ true → number_of_lem ws ≡ v →
        (us : List ℕ) × (among us ≡ true) × (number_of_lem us ≡ v) × ((vs : List ℕ) → among vs ≡ true → number_of_lem vs ≡ v → f us ≤ f vs)
    lowest_held ws c e =
        let l : Lowest held f = lowest x.count (2 ^ m) held f (λ vs g. inside vs (held_word vs g)) ws (held_of ws c e) in
        (l.word, held_word l.word l.passes, held_number l.word l.passes, λ vs k h. l.least vs (held_of vs k h))

  pub least_with_there : (b v : ℕ) → b < length rs → v < 2 → (d : ℕ) × LeastWith m among rs b v d
  least_with_there b v hb hv =
      let y = x.both b v hb hv in
      let l = lowest_held (bit_at m b) v (cost m rs) y.0 y.1 y.2 in
      (cost m rs l.0, record { met = (l.0, l.1, l.2, refl); all = l.3 })

  -- the first of the words of least cost
  pub first_there :
      (d : ℕ) → Least m among rs d →
      (ws : List ℕ) × (among ws ≡ true) × (cost m rs ws ≡ d) × ((vs : List ℕ) → among vs ≡ true → cost m rs vs ≡ d → not_after ws vs ≡ true)
  first_there d s =
      let l = lowest_held (cost m rs) d (number (2 ^ m)) s.met.0 s.met.1 s.met.2 in (
        l.0,
        l.1,
        l.2,
        λ vs c e. le_number (2 ^ m) l.0 vs ((inside l.0 l.1).0 ∙ sym (inside vs c).0) (digits (2 ^ m) vs (inside vs c).1) (l.3 vs c e),
      )
