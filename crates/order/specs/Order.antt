-- THE ORDER OF WORDS (document 02, CR 2): symbols are compared as numbers, from position 0. Assumes nothing: this is a definition.
use Rattle.std.specs.Prelude.{Bool, true, false, ◌&&◌, ◌||◌, List, [], ◌∷◌, ℕ, eqb, ltb}

-- vs is ws or comes before it
unfoldable pub not_after : (vs ws : List ℕ) → Bool
not_after [] ws = true
not_after (v ∷ vs) [] = false
not_after (v ∷ vs) (w ∷ ws) = ltb v w || (eqb v w && not_after vs ws)
