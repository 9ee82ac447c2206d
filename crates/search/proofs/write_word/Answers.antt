-- `search::write_word` meets its contract.
-- Assumes nothing.
use Rattle.basics.proofs.Kit.{◌≡◌, arith, length}
use Rattle.search.proofs.Wording.{writing_start, writing_more, writing_end}
use Rattle.search.proofs.write_word.Goals as goal

pub loop-i-init : goal.loop-i-init
loop-i-init c = writing_start _ _

pub loop-i-preserved : goal.loop-i-preserved
loop-i-preserved c = writing_more c.loop-i.invariant (omega arith) c.symbol_at.ensures

pub returns : goal.returns
returns c = let e : c.loop-i.i ≡ length c.args.word.now = omega arith in writing_end (rw e at c.loop-i.invariant)
