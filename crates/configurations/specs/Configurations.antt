-- Code 3's table of valid configurations, numbered from 0 (document 01, 'Split'). That these are the valid ones, all of them, in ascending order, is
-- `TableRight`, so that a reader need not believe the formula. Assumes nothing: these are definitions.
use Rattle.std.specs.Prelude.{◌≡◌, List, [], ◌∷◌, ◌++◌, ℕ, zero, suc, ◌+◌, ◌*◌, ◌/◌, ◌%◌, ◌^◌, ◌<◌, length, take, drop}
use Rattle.field.specs.Field.{xor, times, alpha}
pub use Rattle.split.specs.Split.{Configuration}

-- number k: those combined from (1, 0, α^3, α^7) and (0, 1, α, α^6)
unfoldable pub tuple_of : (k : ℕ) → List ℕ
tuple_of k =
    let a = k / 16 in
    let b = k % 16 in
    a ∷ b ∷ xor (times 4 (alpha 4 3) a) (times 4 (alpha 4 1) b) ∷ xor (times 4 (alpha 4 7) a) (times 4 (alpha 4 6) b) ∷ []

-- all of them, end to end
unfoldable pub listed_from : (left k : ℕ) → List ℕ
listed_from zero k = []
listed_from (suc n) k = tuple_of k ++ listed_from n (suc k)

unfoldable pub listed : List ℕ
listed = listed_from 256 0

-- a tuple read as a number, its first place the leading digit
unfoldable pub leading : (base : ℕ) → (tuple : List ℕ) → ℕ
leading q [] = 0
leading q (s ∷ ss) = s * q ^ length ss + leading q ss

-- the tuple with a number in a list of four places each
unfoldable pub tuple : (k : ℕ) → (table : List ℕ) → List ℕ
tuple k es = take 4 (drop (4 * k) es)

-- a table of the 256 valid configurations of code 3, ascending with s_1 as the leading digit: it holds every valid one and no invalid one
pub record ValidTable (table : List ℕ) : Type 0 where
  pub count : length table ≡ 1024
  pub none_invalid : (k : ℕ) → k < 256 → Configuration 4 2 (tuple k table)
  pub none_missing : (ss : List ℕ) → Configuration 4 2 ss → (k : ℕ) × (k < 256) × (tuple k table ≡ ss)
  pub ascending : (k l : ℕ) → k < l → l < 256 → leading 16 (tuple k table) < leading 16 (tuple l table)
