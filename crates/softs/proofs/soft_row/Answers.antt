use Rattle.basics.proofs.Kit.{refl, arith, pos}
use lib.ListN.{length-set}
use Rattle.softs.proofs.Writing.{at_least, not_four, written_is, width_3, width_4}
use Rattle.softs.proofs.soft_row.Goals as goal

pub bounds-soft-at-2 : goal.bounds-soft-at-2
bounds-soft-at-2 c = simp length-set (omega (arith, at_least c.args.m c.requires.width))

pub bounds-soft-at-3 : goal.bounds-soft-at-3
bounds-soft-at-3 c = simp length-set (omega (arith, at_least c.args.m c.requires.width))

pub returns-then-m-eq4 : goal.returns-then-m-eq4
returns-then-m-eq4 c =
    let a = c.args in
    width_4 a.soft.now a.at _ _ _ _ a.m a.z a.o c.requires (omega arith)
    (written_is _ c.soft_from.result _ (record { sfits = c.soft_from.type_inv }) c.soft_from.ensures refl)
    (written_is _ c.soft_from-2.result _ (record { sfits = c.soft_from-2.type_inv }) c.soft_from-2.ensures refl)
    (written_is _ c.soft_from-3.result _ (record { sfits = c.soft_from-3.type_inv }) c.soft_from-3.ensures refl)
    (written_is _ c.soft_from-then-m-eq4.result _ (record { sfits = c.soft_from-then-m-eq4.type_inv }) c.soft_from-then-m-eq4.ensures refl)

pub returns-else-m-eq4 : goal.returns-else-m-eq4
returns-else-m-eq4 c =
    let a = c.args in
    width_3 a.soft.now a.at _ _ _ (pos 0) a.m a.z a.o c.requires (not_four a.m c.requires.width c.if-m-eq4.false)
    (written_is _ c.soft_from.result _ (record { sfits = c.soft_from.type_inv }) c.soft_from.ensures refl)
    (written_is _ c.soft_from-2.result _ (record { sfits = c.soft_from-2.type_inv }) c.soft_from-2.ensures refl)
    (written_is _ c.soft_from-3.result _ (record { sfits = c.soft_from-3.type_inv }) c.soft_from-3.ensures refl)
