-- One turn of the second walk, for this crate's own functions: the words of the sixteen lanes, and which words are kept. A reader of specs/Ties.antt
-- need not believe it. Assumes nothing: these are definitions.
use Rattle.std.specs.Prelude.{◌≡◌, cond, not, ◌&&◌, List, [], ◌∷◌, ℕ, zero, suc, ◌+◌, ◌≤◌, ◌<◌, eqb, ltb, get_or}
use Rattle.lanes.specs.Lanes.{lane, lanes}
use Rattle.walk.specs.Walk.{start}
use Rattle.walk.specs.Turns.{Each}
use Rattle.ties.specs.Ties.{number_of, word_at}

-- four numbers as a list
abbrev pub four : (a b c d : ℕ) → List ℕ
four a b c d = a ∷ b ∷ c ∷ d ∷ []

-- THE ROWS at the four places a: the words of lane x
abbrev pub words_at : (w a : List ℕ) → (x : ℕ) → List ℕ
words_at w a x = lanes (λ j. get_or w (lane a j + x) 0)

-- all lanes lie in a list of length len
pub record Inside (len : ℕ) (a : List ℕ) : Type 0 where
  pub in0 : lane a 0 + 16 ≤ len
  pub in1 : lane a 1 + 16 ≤ len
  pub in2 : lane a 2 + 16 ≤ len
  pub in3 : lane a 3 + 16 ≤ len

-- v where it costs r and b does not come before it, else b
unfoldable pub earlier : (r t : ℕ) → (v b : List ℕ) → List ℕ
earlier r t v b = cond (eqb t r && not (ltb (number_of b) (number_of v))) v b

-- what the first x lanes leave of b, where the lanes cost t
unfoldable pub meet : (t w a : List ℕ) → (r : ℕ) → (b : List ℕ) → (x : ℕ) → List ℕ
meet t w a r b zero = b
meet t w a r b (suc x) = earlier r (lane t x) (words_at w a x) (meet t w a r b x)

-- none of the first n lanes costs r; b comes before each of them that does
abbrev pub NoneCosts : (t : List ℕ) → (r n : ℕ) → Type 0
NoneCosts t r n = Each n (λ x. lane t x ≡ r → ⊥)

abbrev pub BeforeAll : (t w a : List ℕ) → (r : ℕ) → (b : List ℕ) → (n : ℕ) → Type 0
BeforeAll t w a r b n = Each n (λ x. lane t x ≡ r → number_of b < number_of (words_at w a x))

-- THE SPAN of the entries of those places from a to e whose number in g is r
abbrev pub Spans : (places g : List ℕ) → (r a e low high : ℕ) → Type 0
Spans places g r a e low high = (p : ℕ) → a ≤ p → p < e → get_or g p 0 ≡ r → (low ≤ get_or places p 0) × (get_or places p 0 ≤ high)

-- those places of slot j have one word
abbrev pub OneWord : (sl t places g : List ℕ) → (r j w : ℕ) → Type 0
OneWord sl t places g r j w = (p : ℕ) → start sl j ≤ p → p < start sl (suc j) → get_or g p 0 ≡ r → word_at t places p ≡ w
