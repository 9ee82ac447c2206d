-- Practice sheets from a seed (document 02, CR 7): what is drawn from a state, and the state that is left. Assumes nothing: these are definitions.
use Rattle.std.specs.Prelude.{ℕ, zero, suc, ◌+◌, ◌*◌, ◌/◌, ◌%◌, ◌^◌, List, [], ◌∷◌, replicate, ℤ, pos, ◌-ℤ◌, bit_xor}
use Rattle.code.specs.Code.{width, long}
use Rattle.code.specs.Bits.{row_long}
use Rattle.sheet.specs.Sheet.{Question, question}

-- a 32-bit state advances by adding 0x9E3779B9, wrapping at 2^32
unfoldable pub advanced : (state : ℕ) → ℕ
advanced s = (s + 2654435769) % 2 ^ 32

-- the draw is the new state, bitwise exclusive-or with itself shifted right by 16
unfoldable pub draw : (new : ℕ) → ℕ
draw s = bit_xor s (s / 2 ^ 16)

-- its remainder by 255, less 127, is the next reliability
unfoldable pub reliability : (new : ℕ) → ℤ
reliability s = pos (draw s % 255) -ℤ pos 127

-- so many reliabilities, drawn one after another from a state
unfoldable pub row_drawn : (count state : ℕ) → List ℤ
row_drawn zero s = []
row_drawn (suc n) s = reliability (advanced s) ∷ row_drawn n (advanced s)

-- the state after so many draws
unfoldable pub after : (draws state : ℕ) → ℕ
after zero s = s
after (suc n) s = after n (advanced s)

-- a question of a code, its row drawn from a state, the zero word handed in
abbrev pub question_drawn : (number code state : ℕ) → Question
question_drawn i c s = question c i (row_drawn (row_long (width c)) s) (replicate (long (width c)) 0)

-- so many questions, numbered from here on, rows drawn one after another
unfoldable pub drawn_from : (number code count state : ℕ) → List Question
drawn_from i c zero s = []
drawn_from i c (suc n) s = question_drawn i c s ∷ drawn_from (suc i) c n (after (row_long (width c)) s)

-- the questions of a practice sheet, numbered from 1, and the state after the last draw
unfoldable pub drawn : (code count state : ℕ) → List Question
drawn c n s = drawn_from 1 c n s

unfoldable pub state_after : (code count state : ℕ) → ℕ
state_after c n s = after (n * row_long (width c)) s
