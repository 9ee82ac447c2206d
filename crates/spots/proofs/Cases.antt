-- A constant that is chosen by m and r is the right one: a test at the codes that come to it.
-- Assumes nothing.
use Rattle.basics.proofs.Kit.{◌≡◌, refl, ap₂, Bool, true, false, ◌&&◌, cond, List, [], ◌∷◌, ℕ, eqb, take}
use mathlib.Core.Path.{subst}
use lib.Dec.{T, eqb→eq}
use Rattle.field.proofs.Tests.{and_l, and_r}
use Rattle.code.specs.Code.{long, accepted}
use Rattle.tails.specs.Tails.{columns}
use Rattle.tails.proofs.Accepted.{ten, tested}

abbrev pub alike : List ℕ → List ℕ → Bool
alike [] [] = true
alike [] (y ∷ ys) = false
alike (x ∷ xs) [] = false
alike (x ∷ xs) (y ∷ ys) = eqb x y && alike xs ys

pub alike_same : (xs ys : List ℕ) → T (alike xs ys) → xs ≡ ys
alike_same [] [] t = refl
alike_same [] (y ∷ ys) t = absurd t
alike_same (x ∷ xs) [] t = absurd t
alike_same (x ∷ xs) (y ∷ ys) t = ap₂ ◌∷◌ (eqb→eq x y (and_l (eqb x y) (alike xs ys) t)) (alike_same xs ys (and_r (eqb x y) (alike xs ys) t))

-- p is what the tests on the way say
pub case : (p f : (m r : ℕ) → Bool) → T (ten (λ m r. cond (p m r) (f m r) true)) → (m r : ℕ) → accepted m r ≡ true → p m r ≡ true → T (f m r)
case p f t m r a e = subst (λ (b : Bool). T (cond b (f m r) true)) e (tested (λ m r. cond (p m r) (f m r) true) t m r a)

pub the_list : (g : (m r : ℕ) → List ℕ) (p : (m r : ℕ) → Bool) {x : List ℕ} → T (ten (λ m r. cond (p m r) (alike x (g m r)) true)) →
    {m r : ℕ} → accepted m r ≡ true → p m r ≡ true → x ≡ g m r
the_list g p {x} t {m} {r} a e = alike_same x (g m r) (case p (λ m r. alike x (g m r)) t m r a e)

pub the_number : (f : (m r : ℕ) → ℕ) (p : (m r : ℕ) → Bool) {x : ℕ} → T (ten (λ m r. cond (p m r) (eqb x (f m r)) true)) →
    {m r : ℕ} → accepted m r ≡ true → p m r ≡ true → x ≡ f m r
the_number f p {x} t {m} {r} a e = eqb→eq x (f m r) (case p (λ m r. eqb x (f m r)) t m r a e)

-- n of them are the columns
pub of_first : (x : List ℕ) (p : (m r : ℕ) → Bool) → T (ten (λ m r. cond (p m r) (alike (take (long m) x) (columns m r)) true)) →
    {m r : ℕ} → accepted m r ≡ true → p m r ≡ true → take (long m) x ≡ columns m r
of_first x p t {m} {r} a e = alike_same (take (long m) x) (columns m r) (case p (λ m r. alike (take (long m) x) (columns m r)) t m r a e)
