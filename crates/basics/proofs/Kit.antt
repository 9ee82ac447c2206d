-- What nearly every proof names of the kit's libraries, under one name.
-- Assumes nothing.
pub use mathlib.Core.Path.{◌≡◌, refl, sym, ap, ap₂, ◌∙◌}
pub use mathlib.Core.Bool.{Bool, true, false, ◌&&◌, ◌||◌, not, cond}
pub use mathlib.Core.List.{List, [], ◌∷◌, ◌++◌}
pub use Prim.Native.Nat.{ℕ, zero, suc, ◌+◌, ◌-◌, ◌*◌, ◌/◌, ◌%◌, ◌^◌, ◌≤◌, ◌<◌, min}
pub use native.Mathlib.Omega.{arith}
pub use borrow.Author.Rules.{rules}
pub use lib.ListN.{length, get_or, take, drop, set}
pub use lib.Dec.{eqb, leb, ltb}
pub use lib.IntN.{ℤ, pos, negsuc, nat_abs, ◌+ℤ◌, ◌-ℤ◌}
