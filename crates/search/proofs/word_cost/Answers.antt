-- `search::word_cost` meets its contract.
-- Assumes nothing.
use Rattle.basics.proofs.Kit.{◌≡◌, ◌+◌, ◌-◌, ◌*◌, ◌<◌, arith, length}
use Rattle.search.proofs.Sums.{adding_fits, adding_more, adding_end}
use Rattle.search.proofs.word_cost.Goals as goal

pub loop-k-preserved : goal.loop-k-preserved
loop-k-preserved c =
    let e : 2 * c.loop-k.k + 1 + 1 ≡ 2 * (c.loop-k.k + 1) = omega arith in
    let f : c.loop-k.sum + c.cost_at-a.result + c.cost_at-b.result ≡ c.loop-k.sum + (c.cost_at-a.result + c.cost_at-b.result) = omega arith in
    rw (e, f) at (adding_more (adding_more c.loop-k.invariant (omega arith) c.cost_at-a.ensures.0 c.cost_at-a.ensures.1) (omega arith) c.cost_at-b.ensures.0 c.cost_at-b.ensures.1)

pub overflow_add-sum-in-loop-k : goal.overflow_add-sum-in-loop-k
overflow_add-sum-in-loop-k c =
    let l : 2 * c.loop-k.k + 1 < length c.args.word.now = omega arith in
    record { fits = omega (arith, adding_fits c.requires (adding_more c.loop-k.invariant (omega arith) c.cost_at-a.ensures.0 c.cost_at-a.ensures.1) l c.cost_at-b.ensures.1) }

pub returns-then-word-eq1 : goal.returns-then-word-eq1
returns-then-word-eq1 c =
    let e : 2 * c.loop-k.k ≡ length c.args.word.now - 1 = omega arith in
    adding_end (adding_more (rw e at c.loop-k.invariant) (omega arith) c.cost_at-sum.ensures.0 c.cost_at-sum.ensures.1) (omega arith)

pub returns-else-word-eq1 : goal.returns-else-word-eq1
returns-else-word-eq1 c = adding_end c.loop-k.invariant (omega arith)
