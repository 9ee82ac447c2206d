-- What the calls on words answer and leave behind, for every input. A code is chosen by its number or by m and r; z is what that choice is refused by.
-- Refusals in document 01's order: code 1, 16; lengths 3, 4; symbols 6; membership 8. Assumes nothing: these are definitions.
use Rattle.std.specs.Prelude.{◌≡◌, Bool, true, List, ℕ, eqb, length, Result, Ok}
use Rattle.refusal.specs.declared.Refusal.{Refusal}
use Rattle.refusal.specs.Refusal.{unless, first, number_of, Outcome}
use Rattle.code.specs.Code.{long, message_long, symbols_good, is_codeword, message}

-- what follows the code's own refusal, over its m and r; the refusals of the other calls below are meant so too
unfoldable pub encode_refusal : (m r : ℕ) → (message : List ℕ) → (output : ℕ) → ℕ
encode_refusal m r ms o =
    unless (eqb (length ms) (message_long m r)) 3
    (unless (eqb o (long m)) 4
    (unless (symbols_good m ms) 6 0))

-- the output is the codeword that carries the message
unfoldable pub EncodeSays : (z m r : ℕ) → (message : List ℕ) → (answer : ℕ) → (output output_now : List ℕ) → Type 0
EncodeSays z m r ms a o p =
    Outcome (first z (encode_refusal m r ms (length o))) a ((is_codeword m r p ≡ true) × (message r p ≡ ms)) (p ≡ o)

-- a word, and an output that needs so many places
unfoldable pub word_refusal : (m : ℕ) → (word : List ℕ) → (output needed : ℕ) → ℕ
word_refusal m ws o k =
    unless (eqb (length ws) (long m)) 3
    (unless (eqb o k) 4
    (unless (symbols_good m ws) 6 0))

-- a word that is to be read or split is a codeword
unfoldable pub member_refusal : (m r : ℕ) → (word : List ℕ) → (output needed : ℕ) → ℕ
member_refusal m r ws o k = first (word_refusal m ws o k) (unless (is_codeword m r ws) 8 0)

-- the output is the message that the codeword carries
unfoldable pub ReadSays : (z m r : ℕ) → (word : List ℕ) → (answer : ℕ) → (output output_now : List ℕ) → Type 0
ReadSays z m r ws a o p =
    Outcome (first z (member_refusal m r ws (length o) (message_long m r))) a (p ≡ message r ws) (p ≡ o)

unfoldable pub check_refusal : (m : ℕ) → (word : List ℕ) → ℕ
check_refusal m ws = unless (eqb (length ws) (long m)) 3 (unless (symbols_good m ws) 6 0)

-- whether the word is a codeword, where nothing is refused
unfoldable pub CheckSays : (z m r : ℕ) → (word : List ℕ) → Result Bool Refusal → Type 0
CheckSays z m r ws a = Outcome (first z (check_refusal m ws)) (number_of a) (a ≡ Ok (is_codeword m r ws)) (Unit {0})

-- document 01's number of an answer; a word that is no codeword has 8, as where it is to be read
unfoldable pub checked : (z m r : ℕ) → (word : List ℕ) → ℕ
checked z m r ws = first z (first (check_refusal m ws) (unless (is_codeword m r ws) 8 0))
