-- What one place more adds: to what the places cost, to what is left without their own costs, and to the least for each entry of a table.
-- Assumes nothing.
use Rattle.basics.proofs.Kit.{◌≡◌, refl, sym, ap, ◌∙◌, cond, List, [], ℕ, suc, ◌+◌, ◌-◌, ◌<◌, min, arith, length, get_or, set, eqb}
use native.Mathlib.Decide.{ℕ_discrete}
use native.Mathlib.Numerals.{add-one}
use borrow.Author.Tests.{eq-eqb, ne_eqb}
use lib.ListN.{length-set}
use lib.Seq.{get_or-set_same, get_or-set_other}
use Rattle.trellis.specs.Trellis.{least_of}
use Rattle.trellis.proofs.Least.{least_cap, least_same}
use Rattle.gather.specs.Gather.{Priced, others, Lowered, LessOwn}

-- what one place more costs
pub priced_more : {cost : ℕ → ℕ} {places f : List ℕ} {n v : ℕ} → Priced cost places n f → n < length places → v ≡ cost (get_or places n 0) → Priced cost places (n + 1) (set f n v)
priced_more {cost} {places} {f} {n} {v} m l e = record { long = length-set f n v ∙ m.long; costs = λ p h. go p h (ℕ_discrete p n) }
  where
    go : (p : ℕ) → p < n + 1 → Dec (p ≡ n) → get_or (set f n v) p 0 ≡ cost (get_or places p 0)
    go p h (yes d) = rw d (get_or-set_same f n v 0 (omega (arith, m.long)) ∙ e)
    go p h (no d) = get_or-set_other f n p v 0 d ∙ m.costs p (omega arith)

-- a table before any place, and with a place more
pub lowered_none : {cap : ℕ} {f g places a : List ℕ} → ((x : ℕ) → x < length a → get_or a x 0 ≡ cap) → Lowered cap f g places 0 a
unfolding least_of
lowered_none h = record { others = h }

pub lowered_more : {cap : ℕ} {f g places : List ℕ} {n : ℕ} {a h : List ℕ} → Lowered cap f g places n a → get_or places n 0 < length a →
    h ≡ set a (get_or places n 0) (min (get_or a (get_or places n 0) 0) (get_or g n 0 - get_or f n 0)) → Lowered cap f g places (n + 1) h
unfolding least_of
lowered_more {cap} {f} {g} {places} {n} {a} m ls e = rw e (record { others = λ x lx. entered x (omega (arith, length-set a s v)) (ℕ_discrete s x) ∙ ap (λ (i : ℕ). others cap f g places i x) (sym (add-one n)) })
  where
    s : ℕ
    s = get_or places n 0

    v : ℕ
    v = min (get_or a s 0) (get_or g n 0 - get_or f n 0)

    entered : (x : ℕ) → x < length a → Dec (s ≡ x) → get_or (set a s v) x 0 ≡ others cap f g places (suc n) x
    entered x lx (yes d) =
        ap (λ (y : ℕ). get_or (set a s v) y 0) (sym d) ∙ get_or-set_same a s v 0 ls
        ∙ ap (λ (y : ℕ). min y (get_or g n 0 - get_or f n 0)) (ap (λ (y : ℕ). get_or a y 0) d ∙ m.others x lx) ∙ rw (eq-eqb s x d) refl
    entered x lx (no d) =
        get_or-set_other a s x v 0 (λ z. d (sym z)) ∙ m.others x lx
        ∙ rw (ne_eqb s x d) (omega (arith, least_cap (λ p. cond (eqb (get_or places p 0) x) (get_or g p 0 - get_or f p 0) cap) cap n))

-- a place more whose own cost is taken off
pub less_own_more : {f g d : List ℕ} {n : ℕ} → LessOwn f g n d → n < length g → LessOwn f g (n + 1) (set d n (get_or d n 0 - get_or f n 0))
less_own_more {f} {g} {d} {n} o l = record {
  long = length-set d n v ∙ o.long;
  less = λ p h. go p h (ℕ_discrete p n);
  left = λ p h. get_or-set_other d n p v 0 (λ e. omega arith) ∙ o.left p (omega arith);
}
  where
    v : ℕ
    v = get_or d n 0 - get_or f n 0

    go : (p : ℕ) → p < n + 1 → Dec (p ≡ n) → get_or (set d n v) p 0 ≡ get_or g p 0 - get_or f p 0
    go p h (yes e) = rw e (get_or-set_same d n v 0 (omega (arith, o.long)) ∙ ap (λ (y : ℕ). y - get_or f n 0) (o.left n (omega arith)))
    go p h (no e) = get_or-set_other d n p v 0 e ∙ o.less p (omega arith)

-- so the least of what is left is the least of the differences
pub others_same : (cap : ℕ) {f g d : List ℕ} (places : List ℕ) → LessOwn f g (length g) d → length g ≡ length places → (x : ℕ) → others cap [] d places (length places) x ≡ others cap f g places (length places) x
others_same cap {f} {g} {d} places o e x =
    least_same (λ p. cond (eqb (get_or places p 0) x) (get_or d p 0 - get_or [] p 0) cap) (λ p. cond (eqb (get_or places p 0) x) (get_or g p 0 - get_or f p 0) cap) cap (length places)
    (λ p l. let z : get_or d p 0 - 0 ≡ get_or d p 0 = omega arith in ap (λ (y : ℕ). cond (eqb (get_or places p 0) x) y cap) (z ∙ o.less p (omega arith)))
