-- The size comes from `size_of`, and the sign from the highest bit (proofs/Sizes.antt).
use Rattle.basics.proofs.Kit.{◌≡◌, sym, ap, ◌∙◌, ℕ, zero, suc, ◌≤◌, arith, leb, pos, ◌-ℤ◌}
use borrow.Author.Tests.{le-leb, lt-leb}
use lib.IntN.{neg_ℤ, +ℤ_idl}
use lib.Ieee.{binary32, to_bits, is_nan}
use lib.Ieee.Bits.{of_bits-to_bits, nan_bits_is}
use mir.Syntax.{w16}
use mir.Val.{SFits, to_z}
use mir.Facts.{to_z_pos, to_z-of_z}
use Rattle.field.proofs.Tests.{to_T}
use Rattle.quantiser.specs.Quantise.{clip, rounded, signed}
use Rattle.quantiser.proofs.Sizes.{by_sign, same_nan}
use Rattle.quantiser.proofs.round_clipped.Goals as goal
use Rattle.quantiser.proofs.round_clipped.Goals.{After-size_of-n}

-- a size is at most 127, so it fits an `i16` with either sign, and is read back from its bits
positive : (r : ℕ) → r ≤ clip → to_z w16 r ≡ pos r
positive r h = to_z_pos w16 (omega arith)

negated : (r : ℕ) → r ≤ clip → pos 0 -ℤ to_z w16 r ≡ neg_ℤ (pos r)
negated r h = +ℤ_idl (neg_ℤ (to_z w16 r)) ∙ ap neg_ℤ (positive r h)

negative_fits : (r : ℕ) → r ≤ clip → SFits w16 (neg_ℤ (pos r))
negative_fits zero h = record { sfits = omega arith }
negative_fits (suc r) h = record { sfits = omega arith }

by_size : (c : After-size_of-n) → rounded 1 c.args.y ≡ signed (leb 2147483648 (to_bits binary32 c.args.y)) c.size_of-n.result
by_size c = by_sign _ (to_T c.well_formed.0.1) c.requires _ c.size_of-n.ensures.value

pub size_of-n-requires-clause-number : goal.size_of-n-requires-clause-number
size_of-n-requires-clause-number c = let b = to_bits binary32 c.args.y in
    sym (same_nan b) ∙ nan_bits_is binary32 b ∙ ap is_nan (of_bits-to_bits binary32 c.args.y (to_T c.well_formed.0.1)) ∙ c.requires

pub returns-then-b-lt-SIGN : goal.returns-then-b-lt-SIGN
returns-then-b-lt-SIGN c =
    rw (by_size ((goal.at.returns-then-b-lt-SIGN c).After-size_of-n), lt-leb _ _ c.if-b-lt-SIGN.true) (positive _ c.size_of-n.ensures.bound)

pub returns-else-b-lt-SIGN : goal.returns-else-b-lt-SIGN
returns-else-b-lt-SIGN c =
    let h = c.size_of-n.ensures.bound in
    rw (by_size ((goal.at.returns-else-b-lt-SIGN c).After-size_of-n), le-leb _ _ c.if-b-lt-SIGN.false, negated _ h) (to_z-of_z (negative_fits _ h))
