-- The values are 0 and 1, and the layer that they are has their syndrome.
use Rattle.basics.proofs.Kit.{◌≡◌, sym, ap, ◌∙◌, Bool, true, false, ◌&&◌, List, ℕ, ◌<◌, eqb}
use lib.Dec.{lit≤}
use Rattle.field.proofs.Tests.{widths}
use Rattle.split.specs.Split.{syndrome, all_below}
use Rattle.join.specs.Calls.{is_bch}
use Rattle.join.proofs.Bch.{two_is, layer_zero}
use Rattle.join.proofs.is_bch.Goals as goal

pub syndrome_of-requires-clause-inside : goal.syndrome_of-requires-clause-inside
syndrome_of-requires-clause-inside c = widths (λ (m : ℕ). 0 < m) (lit≤ tt) (lit≤ tt) c.args.shape.m c.args.shape.numbers.width_is

pub returns-then-symbols_good : goal.returns-then-symbols_good
unfolding is_bch
returns-then-symbols_good c =
    let s = c.args.shape in
    let bs : List ℕ = c.args.values.now in
    let bits : all_below 2 bs ≡ true = sym (two_is bs) ∙ (sym c.symbols_good.ensures ∙ c.if-symbols_good.true) in
    ap (λ (x : ℕ). eqb x 0) (c.syndrome_of.ensures ∙ ap (syndrome s.m s.r) (layer_zero bs bits)) ∙ sym (ap (λ (x : Bool). x && eqb (syndrome s.m s.r bs) 0) bits)

pub returns-else-symbols_good : goal.returns-else-symbols_good
unfolding is_bch
returns-else-symbols_good c =
    let s = c.args.shape in
    let bs : List ℕ = c.args.values.now in
    let others : all_below 2 bs ≡ false = sym (two_is bs) ∙ (sym c.symbols_good.ensures ∙ c.if-symbols_good.false) in
    c.if-symbols_good.false ∙ sym (ap (λ (x : Bool). x && eqb (syndrome s.m s.r bs) 0) others)
