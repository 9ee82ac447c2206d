-- One number more, and the last.
use Rattle.std.proofs.Common.{◌≡◌, sym, ◌∙◌, List, ℕ, ◌+◌, ◌/◌, ◌≤◌, ◌<◌, length, drop, get_or, drop-cons, add-one}
use Rattle.std.proofs.Math.ListN.{drop_of_length-le}
use Rattle.field.specs.Field.{xor}
use Rattle.field.proofs.Xor as X
use Rattle.split.specs.Members.{where_odd, picked}
use Rattle.split.proofs.picked.Goals as goal

step : (ts : List ℕ) (i x k : ℕ) → i < length ts →
    xor (xor x (where_odd k (get_or ts i 0))) (picked (drop (i + 1) ts) (k / 2)) ≡ xor x (picked (drop i ts) k)
unfolding picked
step ts i x k h = rw (drop-cons ts i 0 h, add-one i) (X.assoc x _ _)

end : (ts : List ℕ) (i x k : ℕ) → length ts ≤ i → xor x (picked (drop i ts) k) ≡ x
unfolding picked
end ts i x k h = rw (drop_of_length-le ts h) (X.zero_r x)

pub loop-number-init : goal.loop-number-init
loop-number-init c = X.zero_l _

pub loop-number-preserved : goal.loop-number-preserved
unfolding xor
loop-number-preserved c =
    rw c.where_odd-sum.ensures
    (step c.args.table.now c.loop-number.number-index c.loop-number.sum c.loop-number.rest c.loop-number-test.true ∙ c.loop-number.invariant)

pub returns : goal.returns
returns c =
    sym (end c.args.table.now c.loop-number.number-index c.loop-number.sum c.loop-number.rest c.loop-number-test.false) ∙ c.loop-number.invariant
