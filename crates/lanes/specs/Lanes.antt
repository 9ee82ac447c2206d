-- Four tables in one list, row by row, so that one step treats four layers at once: entry s of table j stands at s * 4 + j. Rows of four numbers, two
-- of them side by side, and what is done lane by lane. Assumes nothing: these are definitions.
use Rattle.std.specs.Prelude.{List, [], ◌∷◌, ℕ, ◌+◌, ◌*◌, ◌^◌, ◌<◌, get_or, set, take, drop}
use Rattle.std.specs.List.{splice}

abbrev pub entry : List ℕ → ℕ → ℕ → ℕ
entry t s j = get_or t (s * 4 + j) 0

abbrev pub lane : List ℕ → ℕ → ℕ
lane r j = get_or r j 0

-- one number of each table
abbrev pub lanes : (ℕ → ℕ) → List ℕ
lanes f = f 0 ∷ f 1 ∷ f 2 ∷ f 3 ∷ []

-- row s of a list of rows
unfoldable pub row : {A : Type 0} → List A → ℕ → List A
row t s = take 4 (drop (s * 4) t)

-- four places written from `at` on
abbrev pub put_four : {A : Type 0} → List A → (at : ℕ) → (ℕ → A) → List A
put_four w at f = set (set (set (set w (at + 0) (f 0)) (at + 1) (f 1)) (at + 2) (f 2)) (at + 3) (f 3)

-- row s of a list of rows written anew
unfoldable pub put : {A : Type 0} → List A → ℕ → List A → List A
put t s r = splice t (s * 4) (s * 4 + 4) r

-- TWO ROWS SIDE BY SIDE, given by their entries: eight lanes, 0 to 3 of the first row and 4 to 7 of the second
abbrev pub beside : (a b : ℕ → ℕ) → List ℕ
beside a b = a 0 ∷ a 1 ∷ a 2 ∷ a 3 ∷ b 0 ∷ b 1 ∷ b 2 ∷ b 3 ∷ []

-- rows s and u of a list of rows; rows s and s + 1; a row beside itself
unfoldable pub rows : List ℕ → (s u : ℕ) → List ℕ
rows t s u = beside (entry t s) (entry t u)

abbrev pub two : List ℕ → ℕ → List ℕ
two t s = rows t s (s + 1)

unfoldable pub twofold : List ℕ → List ℕ
twofold r = beside (lane r) (lane r)

-- lane by lane, the sum
abbrev pub eight : (ℕ → ℕ) → List ℕ
eight f = beside f (λ j. f (4 + j))

unfoldable pub sum : List ℕ → List ℕ → List ℕ
sum a b = eight (λ j. lane a j + lane b j)

-- rows s and s + 1 written anew
unfoldable pub put_two : List ℕ → ℕ → List ℕ → List ℕ
put_two t s r = put (put t s (lanes (lane r))) (s + 1) (lanes (λ j. lane r (4 + j)))

-- every cost and every sum of costs stays below
abbrev pub limit : ℕ
limit = 2 ^ 15

-- no sum of two rows reaches the limit
abbrev pub Sums : List ℕ → List ℕ → Type 0
Sums a b = (j : ℕ) → j < 8 → lane a j + lane b j < limit
