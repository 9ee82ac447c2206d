-- `code::write_codeword` meets its contract.
-- Assumes nothing.
use borrow.Author.Rules.{rules}
use Rattle.code.proofs.Roots.{quotient_fits, quotient_ready, codeword_written}
use Rattle.code.proofs.write_codeword.Statement.{statement}
use Rattle.code.proofs.write_codeword.Tie as tie

write-quotient-requires : tie.Need-write_quotient-requires
write-quotient-requires c κs = let b = c.before.before.before in quotient_fits b.args.m b.args.r b.args.message.now b.args.output.now b.requires

multiply-all-requires : tie.Need-multiply_all-requires
multiply-all-requires c κs = let b = c.before.before.before.before.before.before.before in let q = c.before.before.before.write_quotient in
    quotient_ready b.args.m b.args.r b.args.message.now b.args.output.now b.requires q.new.part q.ensures

returns : tie.Need-returns
returns c = let b = c.before.before.before.before.before.before.before.before.before.before in let q = c.before.before.before.before.before.before.write_quotient in
    codeword_written b.args.m b.args.r b.args.message.now b.args.output.now b.requires q.new.part q.ensures
    c.before.before.multiply_all.new.out c.before.before.multiply_all.ensures

pub write_codeword_spec : {M : Type 1} → statement M
write_codeword_spec =
    tie.close
    (tie.spec
    (λ c. search rules)
    (λ c. search rules)
    (λ c. search rules)
    write-quotient-requires
    multiply-all-requires
    (λ c. search rules)
    returns)
