-- The lines of a listing as bytes (document 01, 'Sheets', from 'The listing program'). Assumes nothing: these are definitions.
use Rattle.std.specs.Prelude.{List, [], ◌∷◌, ◌++◌, map, cond, ℕ, zero, suc, ◌+◌, ◌/◌, ◌%◌, min, ltb, ℤ, nat_abs}
use Rattle.std.proofs.Math.Option.{Option, none, some}
use Rattle.metric.specs.Metric.{is_neg, decided}

-- ASCII: line feed, space, dash, question mark, and the digits from `0`
abbrev pub feed : ℕ
feed = 10

abbrev pub space : ℕ
space = 32

abbrev pub dash : ℕ
dash = 45

abbrev pub question_mark : ℕ
question_mark = 63

abbrev pub digit : ℕ → ℕ
digit d = 48 + d

-- a number in decimal digits, with no zero in front; one step a digit is enough
unfoldable pub decimal_from : (steps n : ℕ) → List ℕ
decimal_from zero n = []
decimal_from (suc k) n = cond (ltb n 10) (digit n ∷ []) (decimal_from k (n / 10) ++ (digit (n % 10) ∷ []))

unfoldable pub decimal : ℕ → List ℕ
decimal n = decimal_from (suc n) n

-- a dash before the digits of a negative number
unfoldable pub sign : ℤ → List ℕ
sign z = cond (is_neg z) (dash ∷ []) []

unfoldable pub signed : ℤ → List ℕ
signed z = sign z ++ decimal (nat_abs z)

-- the words, each a list of ASCII codes
unfoldable pub best_word : List ℕ
best_word = 98 ∷ 101 ∷ 115 ∷ 116 ∷ []

unfoldable pub short_word : List ℕ
short_word = 115 ∷ 104 ∷ 111 ∷ 114 ∷ 116 ∷ []

unfoldable pub none_word : List ℕ
none_word = 110 ∷ 111 ∷ 110 ∷ 101 ∷ []

unfoldable pub question_word : List ℕ
question_word = 113 ∷ 117 ∷ 101 ∷ 115 ∷ 116 ∷ 105 ∷ 111 ∷ 110 ∷ []

unfoldable pub code_word : List ℕ
code_word = 99 ∷ 111 ∷ 100 ∷ 101 ∷ []

unfoldable pub verdict_word : List ℕ
verdict_word = 118 ∷ 101 ∷ 114 ∷ 100 ∷ 105 ∷ 99 ∷ 116 ∷ []

unfoldable pub bits_word : List ℕ
bits_word = 98 ∷ 105 ∷ 116 ∷ 115 ∷ []

unfoldable pub least_word : List ℕ
least_word = 108 ∷ 101 ∷ 97 ∷ 115 ∷ 116 ∷ []

unfoldable pub refused_word : List ℕ
refused_word = 114 ∷ 101 ∷ 102 ∷ 117 ∷ 115 ∷ 101 ∷ 100 ∷ []

-- fields with one space between them; every line ends in one line feed
unfoldable pub line : (fields : List (List ℕ)) → List ℕ
line [] = feed ∷ []
line (f ∷ []) = f ++ (feed ∷ [])
line (f ∷ g ∷ fs) = f ++ (space ∷ line (g ∷ fs))

-- the verdict: 0 `none`, 1 `short`, 2 `best`
unfoldable pub verdict_field : (verdict : ℕ) → List ℕ
verdict_field zero = none_word
verdict_field (suc zero) = short_word
verdict_field (suc (suc v)) = best_word

-- the shortfall, or a dash where the word is no codeword
unfoldable pub shortfall_field : (verdict : ℕ) → (shortfall : ℤ) → List ℕ
shortfall_field zero d = dash ∷ []
shortfall_field (suc v) d = signed d

-- the least magnitude of a soft output: the least of a first one and of those that follow it
unfoldable pub least_from : (first : ℕ) → (soft : List ℤ) → ℕ
least_from d [] = d
least_from d (s ∷ so) = least_from (min d (nat_abs s)) so

unfoldable pub least_magnitude : (soft : List ℤ) → ℕ
least_magnitude [] = 0
least_magnitude (s ∷ so) = least_from (nat_abs s) so

-- a bit: its digit, or a question mark where it is undecided
unfoldable pub bit_byte : (decision : Option ℕ) → ℕ
bit_byte none = question_mark
bit_byte (some v) = digit v

-- the bits in bit order
unfoldable pub bits_field : (soft : List ℤ) → List ℕ
bits_field so = map (λ s. bit_byte (decided s)) so

-- the header line
unfoldable pub header : List ℕ
header = line (question_word ∷ code_word ∷ best_word ∷ verdict_word ∷ short_word ∷ bits_word ∷ least_word ∷ [])

-- question number, code, best metric, verdict, shortfall or a dash, bits, least magnitude of a soft output
unfoldable pub question_line : (number code : ℕ) → (best : ℤ) → (verdict : ℕ) → (shortfall : ℤ) → (bits : List ℕ) → (least : ℕ) → List ℕ
question_line n c g v d bs x = line (decimal n ∷ decimal c ∷ signed g ∷ verdict_field v ∷ shortfall_field v d ∷ bs ∷ decimal x ∷ [])

-- the count and the word `questions`, for any count
unfoldable pub count_line : (count : ℕ) → List ℕ
count_line n = line (decimal n ∷ (question_word ++ (115 ∷ [])) ∷ [])

-- a refused sheet prints only this
unfoldable pub refused_line : (refusal : ℕ) → List ℕ
refused_line e = line (refused_word ∷ decimal e ∷ [])
