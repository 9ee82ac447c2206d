-- `search::agree` meets its contract.
-- Assumes nothing.
use Rattle.basics.proofs.Kit.{arith}
use native.Mathlib.Numerals.{add-one}
use Rattle.search.proofs.Laying.{apart}
use Rattle.search.proofs.agree.Goals as goal

pub agree-requires-clause-slots_follow : goal.agree-requires-clause-slots_follow
agree-requires-clause-slots_follow c = rw c.slots-sl.ensures (λ j l. rw add-one (omega (arith, apart c.args.shape j l)))
