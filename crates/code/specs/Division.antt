-- The encoder root by root, for the promises of its parts: no promise of a call cites it, and proofs/Encoding.antt shows that it gives the one codeword.
-- Assumes nothing: these are definitions.
use Rattle.std.specs.Prelude.{List, [], ◌∷◌, ℕ, zero, suc}
use Rattle.field.specs.Field.{xor, times, alpha}

-- the value at x by Horner's rule, the first symbol the constant one
unfoldable pub horner : (m x : ℕ) → List ℕ → ℕ
horner m x [] = 0
horner m x (c ∷ cs) = xor c (times m x (horner m x cs))

-- synthetic division: c ∷ cs divided by X + x leaves its own value at x, and gives the values of the tails of cs
unfoldable pub tails : (m x : ℕ) → List ℕ → List ℕ
tails m x [] = []
tails m x (d ∷ ds) = horner m x (d ∷ ds) ∷ tails m x ds

-- p + (X + x) q
unfoldable pub product : (m x p : ℕ) → List ℕ → List ℕ
product m x p [] = p ∷ []
product m x p (y ∷ ys) = xor p (times m x y) ∷ product m x y ys

-- the same, of p and q in one list
unfoldable pub spread : (m x : ℕ) → List ℕ → List ℕ
spread m x [] = []
spread m x (p ∷ q) = product m x p q

-- divided by X + α, .., X + α^r
unfoldable pub divided : (m r : ℕ) → List ℕ → List ℕ
divided m zero l = l
divided m (suc r) l = tails m (alpha m (suc r)) (divided m r l)

-- multiplied by X + α^r, .., X + α
unfoldable pub multiplied : (m r : ℕ) → List ℕ → List ℕ
multiplied m zero l = l
multiplied m (suc r) l = multiplied m r (product m (alpha m (suc r)) 0 l)
