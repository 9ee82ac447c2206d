-- `code::is_codeword`: the roots decide.
-- Assumes nothing.
use Rattle.basics.proofs.Kit.{◌≡◌, sym, ◌∙◌, arith}
use Rattle.code.specs.Code.{value_at}
use Rattle.code.proofs.Loops.{root_met, root_missed, roots_none, roots_decide}
use Rattle.code.proofs.is_codeword.Goals as goal

pub returns-then-value-ne0 : goal.returns-then-value-ne0
returns-then-value-ne0 c =
    let s = c.loop-t in
    let v : c.value.result ≡ value_at c.args.m s.t c.args.word.now = rw c.of-tables.ensures at c.value.ensures in
    sym (s.invariant ∙ root_missed c.args.m c.args.r s.t c.args.word.now (omega arith) (λ e. absurd (omega (arith, v, e)))) ∙ roots_decide c.requires

pub loop-t-preserved : goal.loop-t-preserved
loop-t-preserved c =
    let s = c.loop-t in
    let v : c.value.result ≡ value_at c.args.m s.t c.args.word.now = rw c.of-tables.ensures at c.value.ensures in
    s.invariant ∙ root_met c.args.m c.args.r s.t c.args.word.now (omega arith) (omega (arith, v))

pub returns : goal.returns
returns c = let s = c.loop-t in sym (s.invariant ∙ roots_none c.args.m c.args.r s.t c.args.word.now (omega arith)) ∙ roots_decide c.requires
