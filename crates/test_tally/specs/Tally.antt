-- What a count of comparisons says: nothing agrees that differs. Assumes nothing: these are definitions.
use Rattle.std.specs.Prelude.{ℕ, suc, ◌+◌, ◌%◌, ◌^◌, Bool, cond, not, ◌&&◌, List, [], ◌∷◌, length, ℤ, pos, ◌==◌, nat_lt, slice_index_or}
use Rattle.std.specs.Ordering.{int_eq}
use Rattle.test_tally.specs.declared.tally.Tally.{Tally}

-- one comparison more; counts come round at 2^64
abbrev pub counted : Tally → (agrees : Bool) → Tally
counted t b = record { agreed = (t.agreed + cond b 1 0) % 2 ^ 64; total = (t.total + 1) % 2 ^ 64 }

-- a number stands at a place of a row
unfoldable pub stands_at : (row : List ℤ) → (i : ℕ) → ℤ → Bool
stands_at rs i r = nat_lt i (length rs) && int_eq (slice_index_or rs i (pos 0)) r

-- a comparison of each place with the same place of another row, from place i on; or of every third place
unfoldable pub compared : (layered : Bool) → (i : ℕ) → (found expected : List ℤ) → Tally → Tally
compared l i [] es t = t
compared l i (x ∷ xs) es t = compared l (suc i) xs es (cond (l && not (i % 3 == 0)) t (counted t (stands_at es i x)))
