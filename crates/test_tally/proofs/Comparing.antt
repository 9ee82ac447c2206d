-- What a comparison at a place says, and the turns of a comparison of two rows.
-- Assumes nothing.
use Rattle.basics.proofs.Kit.{◌≡◌, refl, Bool, true, false, ◌&&◌, not, cond, List, ℕ, ◌+◌, ◌%◌, ◌≤◌, ◌<◌, length, get_or, drop, eqb, ℤ, pos}
use Rattle.std.proofs.Common.{add-one, drop_of_length-le, drop-cons, le-ltb, lt-ltb, ltb, Option, Some, None}
use Rattle.std.specs.Option.{is_some, unwrap_or, option_map, option_eq}
use Rattle.std.specs.Ordering.{int_eq}
use Rattle.std.proofs.lemmas.Bool.Decides.{Decides-int_eq}
use denote.Bor.{Bor}
use Rattle.test_tally.specs.declared.tally.Tally.{Tally}
use Rattle.test_tally.specs.Tally.{counted, stands_at, compared}

-- what a row has at a place, if any, is a number exactly when that stands there
pub stands : (es : List ℤ) (i : ℕ) (o : Option (Bor ℤ)) (r : Bor ℤ) →
    is_some o ≡ ltb i (length es) →
    ((d : ℤ) → unwrap_or (option_map (λ (x : Bor ℤ). x.now) o) d ≡ get_or es i d) →
    option_eq (λ (x y : Bor ℤ). int_eq x.now y.now) o (Some r) ≡ stands_at es i r.now
unfolding stands_at
stands es i None r s v = rw (← s) refl
stands es i (Some x) r s v = rw (← s, ← v (pos 0)) refl

-- ---- a number agrees where it stands, and nothing does past the end, nor where another number stands
module _ (rs : List ℤ) (i : ℕ) (r : ℤ) where
  pub past_end : length rs ≤ i → false ≡ stands_at rs i r
  unfolding stands_at
  past_end h = rw (le-ltb i (length rs) h)

  pub stands_there : i < length rs → get_or rs i (pos 0) ≡ r → true ≡ stands_at rs i r
  unfolding stands_at
  stands_there h e = rw (lt-ltb i (length rs) h, e, (Decides-int_eq r r).1 refl)

  pub differs : i < length rs → (get_or rs i (pos 0) ≡ r → ⊥) → false ≡ stands_at rs i r
  unfolding stands_at
  differs h n = rw (lt-ltb i (length rs) h) (go (int_eq (get_or rs i (pos 0)) r) refl)
    where
      go : (b : Bool) → int_eq (get_or rs i (pos 0)) r ≡ b → false ≡ b
      go true e = absurd (n ((Decides-int_eq (get_or rs i (pos 0)) r).0 e))
      go false e = refl

-- ---- one place after another
module _ (l : Bool) (xs es : List ℤ) (i : ℕ) (t : Tally) where
  pub next : i < length xs →
      compared l i (drop i xs) es t ≡ compared l (i + 1) (drop (i + 1) xs) es (cond (l && not (eqb (i % 3) 0)) t (counted t (stands_at es i (get_or xs i (pos 0)))))
  unfolding compared
  next h = rw (drop-cons xs i (pos 0) h, add-one i)

  pub none : length xs ≤ i → compared l i (drop i xs) es t ≡ t
  unfolding compared
  none h = rw (drop_of_length-le xs h)
