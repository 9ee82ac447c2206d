-- The number of an answer of the codeword test is what the test promises.
-- Assumes nothing.
use Rattle.basics.proofs.Kit.{◌≡◌, refl, ap, Bool, cond, List, ℕ, zero, suc, arith}
use Rattle.std.specs.Prelude.{Result, Ok, Err}
use Rattle.refusal.specs.declared.Refusal.{Refusal}
use Rattle.refusal.specs.Refusal.{number_of, unless, first, Outcome}
use Rattle.code.specs.Code.{is_codeword}
use Rattle.code.specs.Calls.{check_refusal, CheckSays, checked}
use Rattle.tugzeck.specs.Answers.{test_number}

refused : (n : ℕ) (a : Result Bool Refusal) → number_of a ≡ suc n → test_number a ≡ suc n
refused n (Ok b) e = absurd (omega arith)
refused n (Err x) e = e

tested : (z c : ℕ) (b : Bool) (a : Result Bool Refusal) → Outcome (first z c) (number_of a) (a ≡ Ok b) (Unit {0}) → test_number a ≡ first z (first c (unless b 8 0))
unfolding Outcome first unless
tested zero zero b a o = ap test_number o.1
tested zero (suc n) b a o = refused n a o.0
tested (suc n) c b a o = refused n a o.0

pub check_number : (z m r : ℕ) (ws : List ℕ) (a : Result Bool Refusal) → CheckSays z m r ws a → test_number a ≡ checked z m r ws
unfolding CheckSays checked
check_number z m r ws a o = tested z (check_refusal m ws) (is_codeword m r ws) a o
