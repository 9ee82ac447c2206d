-- One BCH word more, and all of them.
use Rattle.std.proofs.Common.{◌≡◌, refl, ap, ◌∙◌, ℕ, ◌*◌, ◌%◌, ◌^◌, ◌≤◌, ◌<◌, arith, length, add-one, one-mul}
use Rattle.std.proofs.Math.Nat.{mod-eq_of_lt}
use Rattle.std.proofs.Math.Pow.{pow-lt}
use Rattle.field.specs.Field.{xor}
use Rattle.split.specs.Members.{least_rank}
use Rattle.split.proofs.least_rank.Goals as goal

-- how many BCH words there are
many_is : (n : ℕ) → n ≤ 11 → 1 * 2 ^ n % 4294967296 ≡ 2 ^ n
many_is n h = let small : n < 32 = omega arith in ap (λ (x : ℕ). x % 4294967296) (one-mul (2 ^ n)) ∙ mod-eq_of_lt (pow-lt small)

pub loop-k-init : goal.loop-k-init
unfolding least_rank
loop-k-init c = c.rank-best.ensures

pub loop-k-preserved : goal.loop-k-preserved
unfolding least_rank xor
loop-k-preserved c = rw (c.min-best.ensures, c.rank.ensures, c.picked.ensures, c.loop-k.invariant, add-one c.loop-k.k) refl

pub returns : goal.returns
returns c =
    let all : c.loop-k.k ≡ 2 ^ length c.args.rows.now = omega (arith, many_is (length c.args.rows.now) c.requires) in
    c.loop-k.invariant ∙ ap (least_rank c.args.rows.now c.args.word) all
