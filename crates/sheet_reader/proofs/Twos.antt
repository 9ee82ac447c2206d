-- Two's complement as the code computes it.
-- Assumes nothing.
use Rattle.basics.proofs.Kit.{◌≡◌, ap, ◌∙◌, Bool, true, false, cond, ℕ, zero, suc, ◌+◌, ◌-◌, ◌/◌, ◌%◌, ◌^◌, ◌≤◌, ◌<◌, arith, ltb, pos, negsuc, ◌-ℤ◌}
use native.Mathlib.Nat.{mod-lt, mod-eq_of_lt, mod-eq-sub-mod}
use native.Mathlib.Decide.{dec_le}
use borrow.Author.Tests.{lt-ltb, le-ltb}
use mir.Syntax.{w16}
use mir.Val.{SFits, to_z, of_z}
use mir.Facts.{to_z_pos, to_z-of_z}
use Rattle.sheet.specs.Sheet.{signed_of}

minus : (b d : ℕ) → d < b → pos d -ℤ pos b ≡ negsuc (b - 1 - d)
minus zero d h = absurd (omega arith)
minus (suc k) d h = rw (lt-ltb d (suc k) h) (ap negsuc (omega arith))

plus : (b d : ℕ) → pos (d + b) -ℤ pos b ≡ pos d
plus zero d = ap pos (omega arith)
plus (suc k) d = rw (le-ltb (d + suc k) (suc k) (omega arith)) (ap pos (omega arith))

module _ (b d : ℕ) (small : b < 2 ^ 15) (h : d < b) where
  -- half the numbers up, and round
  abbrev up : ℕ
  up = b - b / 2

  low : d < b / 2 → (d + up) % b ≡ d + up
  low l = mod-eq_of_lt (omega arith)

  high : b / 2 ≤ d → (d + up) % b ≡ d + up - b
  high l = mod-eq-sub-mod {n = d + up} {m = b} (omega arith) ∙ mod-eq_of_lt (omega arith)

  pub wrapped_small : (d + up) % b < 2 ^ 15
  wrapped_small = omega (arith, mod-lt (d + up) {m = b} (omega arith))

  -- and half of them down again
  wrapped : pos ((d + up) % b) -ℤ pos up ≡ signed_of b d
  unfolding signed_of
  wrapped = go (dec_le (b / 2) d)
    where
      go : Dec (b / 2 ≤ d) → pos ((d + up) % b) -ℤ pos up ≡ cond (ltb d (b / 2)) (pos d) (negsuc (b - 1 - d))
      go (yes l) = rw (high l, le-ltb d (b / 2) l) (minus up (d + up - b) (omega arith) ∙ ap negsuc (omega arith))
      go (no l) = rw (low (omega arith), lt-ltb d (b / 2) (omega arith)) (plus up d)

  narrow : to_z w16 ((d + up) % b) -ℤ to_z w16 up ≡ signed_of b d
  narrow = rw (to_z_pos w16 {n = (d + up) % b} wrapped_small, to_z_pos w16 {n = up} (omega arith)) wrapped

  pub wrapped_fits : SFits w16 (to_z w16 ((d + up) % b) -ℤ to_z w16 up)
  unfolding signed_of
  wrapped_fits = rw narrow (go (ltb d (b / 2)))
    where
      go : (t : Bool) → SFits w16 (cond t (pos d) (negsuc (b - 1 - d)))
      go true = record { sfits = omega arith }
      go false = record { sfits = omega arith }

  pub wrapped_is : to_z w16 (of_z w16 (to_z w16 ((d + up) % b) -ℤ to_z w16 up)) ≡ signed_of b d
  wrapped_is = to_z-of_z wrapped_fits ∙ narrow
