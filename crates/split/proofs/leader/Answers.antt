-- By the tables that the match takes.
use Rattle.basics.proofs.Kit.{◌≡◌, refl, rules}
use borrow.Author.Tests.{ne_eqb}
use Rattle.split.proofs.Leaders.{heads, rows, singles, found, found_3, found_4}
use Rattle.split.proofs.leader.Goals as goal

pub returns-in-3 : goal.returns-in-3
unfolding singles
returns-in-3 c = found_3 c.args.shape c.args.s c.requires c.in-3.is _ refl

pub returns-in-4 : goal.returns-in-4
unfolding singles
returns-in-4 c = found_4 c.args.shape c.args.s c.requires c.in-4.is _ refl

pub returns-in-6 : goal.returns-in-6
unfolding heads rows
returns-in-6 c = found c.args.shape c.args.s c.requires _ (rw c.in-6.is c.foremost.ensures)

pub returns-in-8 : goal.returns-in-8
unfolding heads rows
returns-in-8 c = found c.args.shape c.args.s c.requires _ (rw c.in-8.is c.foremost-in-8.ensures)

pub returns-in_default : goal.returns-in_default
unfolding heads rows
returns-in_default c =
    let q = c.args.shape.q in
    let three : (q ≡ 3 → ⊥) = search rules in
    let four : (q ≡ 4 → ⊥) = search rules in
    let six : (q ≡ 6 → ⊥) = search rules in
    let eight : (q ≡ 8 → ⊥) = search rules in
    found c.args.shape c.args.s c.requires _ (rw (ne_eqb q 3 three, ne_eqb q 4 four, ne_eqb q 6 six, ne_eqb q 8 eight) c.foremost-in_default.ensures)
