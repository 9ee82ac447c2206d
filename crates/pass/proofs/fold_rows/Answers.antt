use Rattle.basics.proofs.Kit.{◌∙◌}
use Rattle.pass.proofs.fold_rows.Goals as goal

pub returns : goal.returns
returns c = record {
  a_after = c.store_least.ensures ∙ rw (c.load-x.ensures, c.load-y.ensures);
  zero_value = c.least.ensures ∙ rw c.load-x.ensures;
  one_value = c.least-2.ensures ∙ rw c.load-y.ensures;
}
