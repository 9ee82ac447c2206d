-- `code::symbols_good`: the library's test over all symbols, with the bound that is computed.
-- Assumes nothing.
use Rattle.basics.proofs.Kit.{◌≡◌, ap, ◌∙◌, ℕ, ◌*◌, ◌%◌, ◌^◌, ◌<◌, arith}
use native.Mathlib.Nat.{one-mul, mod-eq_of_lt}
use lib.Pow.{pow-lt}
use Rattle.std.proofs.Common.{◌↔◌, IsTrue, All}
use Rattle.std.proofs.lemmas.Grind.{common_steps}
use Rattle.code.proofs.Loops.{all_good}
use Rattle.code.proofs.symbols_good.Goals as goal

top_is : (m : ℕ) → m < 8 → 1 * 2 ^ m % 4294967296 ≡ 2 ^ m
top_is m h = let l : m < 32 = omega arith in ap (λ (x : ℕ). x % 4294967296) (one-mul (2 ^ m)) ∙ mod-eq_of_lt (pow-lt l)

pub returns : goal.returns
returns c =
    let h : IsTrue c.all.result ↔ All (λ x. x < 1 * 2 ^ c.args.m % 4294967296) c.args.word.now = grind (arith, common_steps) in
    all_good c.args.m c.args.word.now c.all.result (rw (top_is c.args.m c.requires) at h)
