-- The places of the layers, and the others.
use Rattle.basics.proofs.Kit.{◌≡◌, refl, sym, ap, ap₂, ◌∙◌, ◌&&◌, List, [], ◌∷◌, ℕ, ◌^◌, ◌≤◌, ◌<◌, arith, rules, length, take, drop, eqb, ltb}
use mathlib.Core.Logic.{◌⊎◌, inl, inr}
use borrow.Author.Tests.{tests, lt-ltb, le-ltb, eq-eqb, ne_eqb}
use Rattle.std.specs.List.{list_all}
use Rattle.std.proofs.lemmas.Bool.{cases_lt}
use Rattle.std.proofs.lemmas.Iterator.{YieldsList-from_slice}
use Rattle.std.proofs.lemmas.Iterator.Search.{all_from_yields_List}
use Rattle.code.specs.declared.shape.Shape.{Shape}
use Rattle.code.proofs.Accepted.{width_small}
use Rattle.split.specs.Split.{cosets, all_below}
use Rattle.join.specs.Calls.{in_range}
use Rattle.join.proofs.in_range.Goals as goal

zero_is : (x : ℕ) → eqb x 0 ≡ ltb x 1
zero_is x = go (cases_lt x 1)
  where
    go : (x < 1) ⊎ (1 ≤ x) → eqb x 0 ≡ ltb x 1
    go (inl h) = eq-eqb x 0 (omega arith) ∙ sym (lt-ltb x 1 h)
    go (inr h) = ne_eqb x 0 (λ e. absurd (omega (arith, e))) ∙ sym (le-ltb x 1 h)

below_is : (n : ℕ) (xs : List ℕ) → list_all (λ x. ltb x n) xs ≡ all_below n xs
unfolding all_below
below_is n [] = refl
below_is n (x ∷ xs) = ap (λ b. ltb x n && b) (below_is n xs)

zeros_are : (xs : List ℕ) → list_all (λ x. eqb x 0) xs ≡ all_below 1 xs
unfolding all_below
zeros_are [] = refl
zeros_are (x ∷ xs) = ap₂ ◌&&◌ (zero_is x) (zeros_are xs)

ranged : (h : Shape) (ss : List ℕ) → in_range h.m h.r ss ≡ (list_all (λ x. ltb x h.size) (take h.m ss) && list_all (λ x. eqb x 0) (drop h.m ss))
unfolding in_range cosets
ranged h ss =
    let size : 2 ^ h.q ≡ h.size = sym h.numbers.size_is in
    ap₂ ◌&&◌ (ap (λ n. all_below n (take h.m ss)) (ap (λ (q : ℕ). 2 ^ q) (sym h.numbers.q_is) ∙ size) ∙ sym (below_is h.size (take h.m ss))) (sym (zeros_are (drop h.m ss)))

pub split_at-requires : goal.split_at-requires
split_at-requires c = let four : length c.args.places ≡ 4 = search rules in omega (arith, width_small c.args.shape.m c.args.shape.numbers.width_is)

pub returns-then-all : goal.returns-then-all
returns-then-all c =
    let h = c.args.shape in
    let ss = c.args.places in
    let first = all_from_yields_List (λ x. ltb x h.size) _ _ c.all.result c.all.ensures.ran (YieldsList-from_slice (take h.m ss) (cc)) (λ x b q k. search (rules, tests)) in
    let others = all_from_yields_List (λ x. eqb x 0) _ _ c.all-then-all.result c.all-then-all.ensures.ran (YieldsList-from_slice (drop h.m ss) (cc)) (λ x b q k. search (rules, tests)) in
    rw (ranged h ss, sym first ∙ c.if-all.true) others

pub returns-else-all : goal.returns-else-all
returns-else-all c =
    let h = c.args.shape in
    let ss = c.args.places in
    let first = all_from_yields_List (λ x. ltb x h.size) _ _ c.all.result c.all.ensures.ran (YieldsList-from_slice (take h.m ss) (cc)) (λ x b q k. search (rules, tests)) in
    rw (ranged h ss, sym first ∙ c.if-all.false) c.if-all.false
