-- The sheet format (document 01, 'Sheets'): what a question list is written as, what a sheet is refused by, and the questions that it holds.
-- Assumes nothing: these are definitions.
use Rattle.std.specs.Prelude.{Bool, true, ◌&&◌, cond, List, [], ◌∷◌, ◌++◌, map, ℕ, zero, suc, ◌+◌, ◌*◌, ◌-◌, ◌/◌, ◌%◌, ◌^◌, min, ltb, eqb, length, get_or, take, drop, ℤ, pos, negsuc}
use Rattle.refusal.specs.Refusal.{unless, first}
use Rattle.code.specs.Code.{code_good, number_refusal, width, long, symbols_good}
use Rattle.code.specs.Bits.{row_long}
use Rattle.metric.specs.Row.{row_good}
use Rattle.sheet.specs.declared.form.Form.{Form}
use Rattle.sheet.specs.Forms.{three, six}

-- the kinds of the words that begin a question and end a sheet
unfoldable pub head_kind : ℕ
head_kind = 1

unfoldable pub end_kind : ℕ
end_kind = 15

-- a kind of word that holds items: how many, and below what each is. Kind 2: three reliabilities of 8 bits
abbrev pub reliabilities : Form
reliabilities = record { kind = 2; each = 3; base = 2 ^ 8; fine = three }

-- kind 3: six 4-bit symbols
abbrev pub symbols : Form
symbols = record { kind = 3; each = 6; base = 2 ^ 4; fine = six }

-- at most 200 questions; a question number and a count have 24 bits
unfoldable pub most : ℕ
most = 200

abbrev pub numbers : ℕ
numbers = 2 ^ 24

pub record Question : Type 0 where
  pub code : ℕ
  pub number : ℕ
  pub row : List ℤ
  pub word : List ℕ

-- a question of these parts
abbrev pub question : (code number : ℕ) → (row : List ℤ) → (word : List ℕ) → Question
question c n rs ws = record { code = c; number = n; row = rs; word = ws }

-- n digits to a base, the first lowest; and the number that has these digits
unfoldable pub digits : (base n : ℕ) → ℕ → List ℕ
digits b zero v = []
digits b (suc n) v = (v % b) ∷ digits b n (v / b)

unfoldable pub packed : (base : ℕ) → List ℕ → ℕ
packed b [] = 0
packed b (d ∷ ds) = d + b * packed b ds

-- two's complement
unfoldable pub unsigned_of : (base : ℕ) → ℤ → ℕ
unsigned_of b (pos n) = n
unsigned_of b (negsuc n) = b - 1 - n

unfoldable pub signed_of : (base : ℕ) → ℕ → ℤ
signed_of b d = cond (ltb d (b / 2)) (pos d) (negsuc (b - 1 - d))

-- a row as the items of its words, and back
unfoldable pub row_items : Form → (row : List ℤ) → List ℕ
row_items f rs = map (unsigned_of f.base) rs

unfoldable pub row_of : Form → (items : List ℕ) → List ℤ
row_of f ds = map (signed_of f.base) ds

-- the greatest size of a reliability in a form: two's complement reaches one further down, and the least number is none
abbrev pub sheet_bound : Form → ℕ
sheet_bound f = f.base / 2 - 1

-- a word is 32 bits, the top four the kind
unfoldable pub worded : (kind body : ℕ) → ℕ
worded k v = k * 2 ^ 28 + v

abbrev pub kind : (word : ℕ) → ℕ
kind w = w / 2 ^ 28

abbrev pub body : (word : ℕ) → ℕ
body w = w % 2 ^ 28

-- the code of a head, in bits 27..24, and the low 24 bits: its question number, or the count of an end
abbrev pub head_code : (word : ℕ) → ℕ
head_code w = body w / numbers

abbrev pub low : (word : ℕ) → ℕ
low w = body w % numbers

-- how many words so many items take
unfoldable pub count : Form → (items : ℕ) → ℕ
count f n = (n + (f.each - 1)) / f.each

unfoldable pub row_words : Form → (m : ℕ) → ℕ
row_words f m = count f (row_long m)

unfoldable pub symbol_words : (m : ℕ) → ℕ
symbol_words m = count symbols (long m)

-- how many words a question has after its head
unfoldable pub question_long : Form → (m : ℕ) → ℕ
question_long f m = row_words f m + symbol_words m

-- WRITING
unfoldable pub items_words : Form → (words : ℕ) → (items : List ℕ) → List ℕ
items_words f zero ds = []
items_words f (suc k) ds = worded f.kind (packed f.base (take f.each ds)) ∷ items_words f k (drop f.each ds)

-- a question is a head, its n·m reliabilities in a form, then the n symbols handed in
unfoldable pub question_words : Form → Question → List ℕ
question_words f q =
    let m = width q.code in
    worded head_kind (q.code * numbers + q.number)
    ∷ items_words f (row_words f m) (row_items f q.row) ++ items_words symbols (symbol_words m) q.word

unfoldable pub all_words : Form → List Question → List ℕ
all_words f [] = []
all_words f (q ∷ qs) = question_words f q ++ all_words f qs

-- low byte first
unfoldable pub as_bytes : (words : List ℕ) → List ℕ
as_bytes [] = []
as_bytes (w ∷ ws) = digits (2 ^ 8) 4 w ++ as_bytes ws

-- the sheet of a question list, its rows in a form
unfoldable pub written_in : Form → List Question → List ℕ
written_in f qs = as_bytes (all_words f qs ++ worded end_kind (length qs) ∷ [])

abbrev pub written : List Question → List ℕ
written = written_in reliabilities

-- READING
unfoldable pub words_from : (words : ℕ) → (bytes : List ℕ) → List ℕ
words_from zero bs = []
words_from (suc n) bs = packed (2 ^ 8) (take 4 bs) ∷ words_from n (drop 4 bs)

unfoldable pub as_words : (bytes : List ℕ) → List ℕ
as_words bs = words_from (length bs / 4) bs

-- how many of n items stand in the next word, those items, and what stands above them
unfoldable pub used : Form → (left : ℕ) → ℕ
used f n = min f.each n

unfoldable pub items : Form → (left word : ℕ) → List ℕ
items f n w = digits f.base (used f n) (body w)

unfoldable pub unused : Form → (left word : ℕ) → ℕ
unused f n w = body w / f.base ^ used f n

-- a word of which n items are left: wrong kind 10, unused bits not zero 11, then the refusal that a bad item meets
unfoldable pub word_refusal : Form → (bad : ℕ) → (good : List ℕ → Bool) → (left word : ℕ) → ℕ
word_refusal f e good n w =
    unless (eqb (kind w) f.kind) 10
    (unless (eqb (unused f n w) 0) 11
    (unless (good (items f n w)) e 0))

-- n items in so many words; words run out 9
unfoldable pub items_refusal : Form → (bad : ℕ) → (good : List ℕ → Bool) → (words left : ℕ) → List ℕ → ℕ
items_refusal f e good zero n ws = 0
items_refusal f e good (suc k) n [] = 9
items_refusal f e good (suc k) n (w ∷ ws) = first (word_refusal f e good n w) (items_refusal f e good k (n - f.each) ws)

-- the items; a word that is not there counts as 0
unfoldable pub items_in : Form → (words left : ℕ) → List ℕ → List ℕ
items_in f zero n ws = []
items_in f (suc k) n ws = items f n (get_or ws 0 0) ++ items_in f k (n - f.each) (drop 1 ws)

unfoldable pub row_refusal : Form → (m : ℕ) → List ℕ → ℕ
row_refusal f m ws = items_refusal f 5 (λ ds. row_good (sheet_bound f) (row_of f ds)) (row_words f m) (row_long m) ws

unfoldable pub symbol_refusal : (m : ℕ) → List ℕ → ℕ
symbol_refusal m ws = items_refusal symbols 6 (symbols_good m) (symbol_words m) (long m) ws

-- what follows a head of width m: the row, the word, then the rest
unfoldable pub after_row : Form → (m : ℕ) → List ℕ → List ℕ
after_row f m ws = drop (row_words f m) ws

unfoldable pub after : Form → (m : ℕ) → List ℕ → List ℕ
after f m ws = drop (symbol_words m) (after_row f m ws)

unfoldable pub question_refusal : Form → (code : ℕ) → List ℕ → ℕ
question_refusal f c ws = first (number_refusal c) (first (row_refusal f (width c) ws) (symbol_refusal (width c) (after_row f (width c) ws)))

-- a word that is no end, with what follows it, where so many heads are still allowed: wrong kind 10, one head more 12, then the question
unfoldable pub head_refusal : Form → (left word : ℕ) → (follows : List ℕ) → ℕ
head_refusal f k w ws =
    unless (eqb (kind w) head_kind) 10
    (unless (ltb 0 k) 12
    (question_refusal f (head_code w) ws))

-- an end word after so many questions, with so many words after it
unfoldable pub end_refusal : (seen word after : ℕ) → ℕ
end_refusal n w k =
    unless (eqb (head_code w) 0) 11
    (unless (eqb (low w) n) 12
    (unless (eqb k 0) 13 0))

-- the next word is an end, or a head with its question, and `more` judges what follows that; words run out 9
unfoldable pub next_refusal : Form → (left : ℕ) → (more : List ℕ → ℕ) → List ℕ → ℕ
next_refusal f k more [] = 9
next_refusal f k more (w ∷ ws) =
    cond (eqb (kind w) end_kind) (end_refusal (most - k) w (length ws))
    (first (head_refusal f k w ws) (more (after f (width (head_code w)) ws)))

-- the rest of a sheet in which so many heads are still allowed
unfoldable pub rest_refusal : Form → (left : ℕ) → List ℕ → ℕ
rest_refusal f zero ws = next_refusal f 0 (λ vs. 0) ws
rest_refusal f (suc k) ws = next_refusal f (suc k) (rest_refusal f k) ws

-- 0, or the refusal of a sheet: the byte count first, then the first offending word
unfoldable pub sheet_refusal : (sheet : List ℕ) → ℕ
sheet_refusal bs = unless (eqb (length bs % 4) 0) 9 (rest_refusal reliabilities most (as_words bs))

-- the question of a head and of what follows it
unfoldable pub question_in : Form → (head : ℕ) → (follows : List ℕ) → Question
question_in f w ws =
    let m = width (head_code w) in
    question (head_code w) (low w) (row_of f (items_in f (row_words f m) (row_long m) ws)) (items_in symbols (symbol_words m) (long m) (after_row f m ws))

unfoldable pub questions_from : Form → (left : ℕ) → List ℕ → List Question
questions_from f zero ws = []
questions_from f (suc k) [] = []
questions_from f (suc k) (w ∷ ws) =
    cond (eqb (kind w) head_kind) (question_in f w ws ∷ questions_from f k (after f (width (head_code w)) ws)) []

-- the questions of an accepted sheet
unfoldable pub questions : (sheet : List ℕ) → List Question
questions bs = questions_from reliabilities most (as_words bs)

-- a question that a sheet can hold, its row in a form
unfoldable pub question_good : Form → Question → Bool
question_good f q =
    let m = width q.code in
    code_good q.code && (ltb q.number numbers
    && (eqb (length q.row) (row_long m) && (row_good (sheet_bound f) q.row
    && (eqb (length q.word) (long m) && symbols_good m q.word))))

unfoldable pub all_good : Form → List Question → Bool
all_good f [] = true
all_good f (q ∷ qs) = question_good f q && all_good f qs
