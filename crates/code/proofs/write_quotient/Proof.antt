-- `code::write_quotient` meets its contract.
-- Assumes nothing.
use Rattle.basics.proofs.Kit.{ap, ◌∙◌, rules}
use Rattle.code.specs.Code.{symbols_good}
use Rattle.code.specs.Division.{divided}
use Rattle.code.proofs.write_quotient.Statement.{statement}
use Rattle.code.proofs.write_quotient.Tie as tie

divide-all-requires : tie.Need-divide_all-requires
divide-all-requires c κs = let b = c.before.before.before.before.before.before.before in
    record { width = search rules; point = search rules; symbols = ap (symbols_good b.args.m) c.before.before.before.copy.ensures ∙ b.requires.0.symbols }

returns : tie.Need-returns
returns c = let b = c.before.before.before.before.before.before.before.before.before.before in
    c.before.before.divide_all.ensures
    ∙ ap (divided b.args.m b.args.r) c.before.before.before.before.before.before.copy.ensures

pub write_quotient_spec : {M : Type 1} → statement M
write_quotient_spec = tie.close (tie.spec (λ c κs. search rules) divide-all-requires (λ c. search rules) returns)
