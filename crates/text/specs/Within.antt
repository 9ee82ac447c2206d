-- What the functions that write a text leave in their buffer, for the crates above. Assumes nothing: these are definitions.
use Rattle.std.specs.Prelude.{◌≡◌, List, [], ◌∷◌, ◌++◌, ℕ, ◌+◌, ◌≤◌, length, take, drop, ℤ}
use Rattle.text.specs.Text.{space, verdict_field, shortfall_field}

-- the buffer with a text from a place on, the rest kept
unfoldable pub put : (at : ℕ) → (text buffer : List ℕ) → List ℕ
put at t o = take at o ++ (t ++ drop (at + length t) o)

-- a text was written from a place on; `next` is the place behind it
pub record Written (at : ℕ) (text buffer buffer_now : List ℕ) (next : ℕ) : Type 0 where
  pub room : at + length text ≤ length buffer
  pub now_is : buffer_now ≡ put at text buffer
  pub next_is : next ≡ at + length text

-- a field and the byte that ends it
unfoldable pub ended : (field : List ℕ) → (end : ℕ) → List ℕ
ended f e = f ++ (e ∷ [])

-- the verdict and the shortfall of a question's line
unfoldable pub mark_part : (verdict : ℕ) → (shortfall : ℤ) → List ℕ
mark_part v d = ended (verdict_field v) space ++ ended (shortfall_field v d) space
