use Rattle.basics.proofs.Kit.{◌∙◌}
use Rattle.coset.proofs.Doubling.{tails_key, numbered_more}
use Rattle.coset.proofs.key_tails.Goals as goal

pub key_row-requires : goal.key_row-requires
key_row-requires c = rw c.widen.ensures (tails_key c.requires c.loop-s.invariant c.loop-s-test.true)

pub loop-s-preserved : goal.loop-s-preserved
loop-s-preserved c =
    numbered_more c.requires c.loop-s.invariant c.loop-s-test.true (c.store.ensures ∙ rw (c.key_row.ensures, c.widen.ensures))
