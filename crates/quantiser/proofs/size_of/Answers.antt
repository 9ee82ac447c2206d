-- A range of the exponent's field for each way out.
use Rattle.basics.proofs.Kit.{◌≡◌, refl, ℕ, ◌+◌, ◌-◌, ◌*◌, ◌/◌, ◌%◌, ◌^◌, ◌≤◌, ◌<◌, arith}
use native.Mathlib.Nat.{lt_of_lt_of_le}
use lib.Pow.{shl_exact, shl_lt, pow_mono}
use Rattle.quantiser.proofs.Sizes.{of_plain, middle}
use Rattle.quantiser.proofs.size_of.Goals as goal

-- q << (e - 126) drops nothing: q has 24 bits, and e - 126 is at most 7
module _ (b : ℕ) (h : b / 8388608 < 134) where
  bits : 8388608 + b % 8388608 < 2 ^ 24
  bits = omega arith

  kept : (8388608 + b % 8388608) * 2 ^ (b / 8388608 - 126) % 4294967296 ≡ (8388608 + b % 8388608) * 2 ^ (b / 8388608 - 126)
  kept = shl_exact 24 (b / 8388608 - 126) 32 bits (omega arith)

  room : (8388608 + b % 8388608) * 2 ^ (b / 8388608 - 126) % 4294967296 < 2 ^ 31
  room = rw kept (lt_of_lt_of_le (shl_lt 24 (b / 8388608 - 126) bits) (pow_mono {i = 24 + (b / 8388608 - 126)} {j = 31} (omega arith)))

pub halves_up-requires : goal.halves_up-requires
halves_up-requires c = room _ (omega arith)

pub returns-clause-value : goal.returns-clause-value
returns-clause-value c =
    let b = c.args.b in
    let e : 126 ≤ b / 8388608 = omega arith in
    let f : b / 8388608 < 134 = omega arith in
    rw (of_plain b c.requires.positive c.requires.number, c.min.ensures, c.halves_up.ensures, kept b f, middle (b / 8388608) (b % 8388608) e) refl
