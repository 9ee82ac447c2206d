-- `code::multiply_at` meets its contract.
-- Assumes nothing.
use Rattle.basics.proofs.Kit.{ap, ap₂, ◌∙◌, Bool, ◌&&◌, List, ◌++◌, ℕ, ◌-◌, ◌^◌, rules, length, take, set}
use lib.ListN.{length-set}
use lib.Pow.{pow_pos}
use borrow.Author.Tests.{lt-ltb}
use borrow.Rule.Slice.PartMut.{same_len_mid}
use Rattle.code.specs.Code.{symbols_good}
use Rattle.code.specs.Division.{spread}
use Rattle.code.proofs.Parts.{cleared, put_cleared}
use Rattle.code.proofs.multiply_at.Statement.{statement}
use Rattle.code.proofs.multiply_at.Tie as tie

multiply-in-requires : tie.Need-multiply_in-requires
unfolding symbols_good
multiply-in-requires c κs = let b = c.before.before in
    rw (cleared b.args.out.now b.args.at b.requires.room)
    (record {
      width = search rules;
      point = search rules;
      symbols = ap₂ (λ (x y : Bool). x && y) (lt-ltb 0 (2 ^ b.args.m) (pow_pos b.args.m)) b.requires.symbols;
    })

same_length : tie.Need-shape_of-out
same_length c = let b = c.before.before.before.before.before in let l = set b.args.out.now b.args.at 0 in
    same_len_mid b.args.at (length l - b.args.at) l c.before.before.multiply_in.new.part c.before.before.multiply_in.auto.part
    ∙ length-set b.args.out.now b.args.at 0

returns : tie.Need-returns
unfolding spread
returns c = let b = c.before.before.before.before.before in let l = b.args.out.now in
    put_cleared l b.args.at b.requires.room c.before.before.multiply_in.new.part
    ∙ ap (λ (p : List ℕ). take b.args.at l ++ p)
    (c.before.before.multiply_in.ensures ∙ ap (spread b.args.m b.args.x) (cleared l b.args.at b.requires.room))

pub multiply_at_spec : {M : Type 1} → statement M
multiply_at_spec =
    tie.close
    (tie.spec
    (λ c. search rules)
    (λ c. simp length-set (search rules))
    (λ c. simp length-set (search rules))
    (λ c. search rules)
    multiply-in-requires
    same_length
    returns)
