-- What an accepted practice sheet is. A statement is a type; proofs/Laws.antt has the proofs. Assumes nothing.
use Rattle.std.specs.Prelude.{◌≡◌, ℕ, ◌+◌, List, ◌++◌, map, ℤ}
use Rattle.sheet.specs.Sheet.{sheet_refusal, questions}
use Rattle.practice.specs.Practice.{drawn}
use Rattle.practice.specs.Calls.{PracticeSays}

-- what the call leaves where it refuses nothing, and the state that it hands back
unfoldable pub Practised : (code count state : ℕ) → (state_now : ℕ) → (sheet : List ℕ) → Type 0
Practised c n s t p = (o : List ℕ) × PracticeSays c n s 0 t o p

-- it is accepted, and reads as the questions drawn
unfoldable pub PracticeReads : Type 0
PracticeReads = (code count state state_now : ℕ) (sheet : List ℕ) → Practised code count state state_now sheet →
    (sheet_refusal sheet ≡ 0) × (questions sheet ≡ drawn code count state)

unfoldable pub rows : (sheet : List ℕ) → List (List ℤ)
rows bs = map (λ q. q.row) (questions bs)

-- drawing a questions and then b from the state handed back gives the rows of a draw of a + b, and the state
unfoldable pub DrawsJoin : Type 0
DrawsJoin =
    (code a b state between last last_of_all : ℕ) (first second whole : List ℕ) →
    Practised code a state between first → Practised code b between last second → Practised code (a + b) state last_of_all whole →
    (rows whole ≡ rows first ++ rows second) × (last_of_all ≡ last)
