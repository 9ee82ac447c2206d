-- What the calls on elements answer, for every input (document 01, 'Codes and fields'). Assumes nothing: these are definitions.
use Rattle.std.specs.Prelude.{◌≡◌, ℕ, ◌^◌, ltb, eqb, Result, Ok}
use Rattle.refusal.specs.declared.Refusal.{Refusal}
use Rattle.refusal.specs.Refusal.{unless, number_of, Outcome}
use Rattle.field.specs.declared.Element.{Element}
use Rattle.field.specs.Field.{width_good, xor, times, inverse}

-- an m other than 3 and 4 meets 1, then a number not below 2^m meets 6
unfoldable pub one_refusal : Element → ℕ
one_refusal a = unless (width_good a.m) 1 (unless (ltb a.value (2 ^ a.m)) 6 0)

-- two elements of different fields meet 1 as well
unfoldable pub two_refusal : Element → Element → ℕ
two_refusal a b =
    unless (width_good a.m) 1
    (unless (eqb a.m b.m) 1
    (unless (ltb a.value (2 ^ a.m)) 6
    (unless (ltb b.value (2 ^ a.m)) 6 0)))

-- the element with a value, or what is refused
unfoldable pub Answers : (refusal : ℕ) → (m value : ℕ) → Result Element Refusal → Type 0
Answers z m v a = Outcome z (number_of a) (a ≡ Ok (record { m = m; value = v })) (Unit {0})

unfoldable pub Made : (m number : ℕ) → Result Element Refusal → Type 0
Made m v = Answers (one_refusal (record { m = m; value = v })) m v

unfoldable pub SumOf : Element → Element → Result Element Refusal → Type 0
SumOf a b = Answers (two_refusal a b) a.m (xor a.value b.value)

unfoldable pub ProductOf : Element → Element → Result Element Refusal → Type 0
ProductOf a b = Answers (two_refusal a b) a.m (times a.m a.value b.value)

unfoldable pub InverseOf : Element → Result Element Refusal → Type 0
InverseOf a = Answers (one_refusal a) a.m (inverse a.m a.value)
