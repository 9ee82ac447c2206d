-- The table of the values that document 01, 'Values on record', marks with (p), in its order; each comment quotes a line of it. They are stated by the
-- definitions that the contracts of `encode`, `split`, `check_word`, `decode` and `quantise` cite. proofs/Table.antt proves the table as a whole.
-- Assumes nothing: these are definitions.
use Rattle.std.specs.Prelude.{◌≡◌, Bool, true, false, List, [], ◌∷◌, ℕ, ℤ, pos, negsuc, length, replicate, Float}
use Rattle.std.specs.Float.{fin, binary32}
use Rattle.std.specs.Float.Ieee.{of_bits}
use Rattle.code.specs.Code.{number_refusal, width, roots, long, is_codeword}
use Rattle.code.specs.Calls.{EncodeSays}
use Rattle.split.specs.Split.{syndromes}
use Rattle.metric.specs.Metric.{metric}
use Rattle.quantiser.specs.Quantise.{quantised}

-- with n places for the output, the promise of `encode` holds of the answer 0 and this word, and of no other answer and word
pub record EncodesTo (code : ℕ) (message word : List ℕ) : Type 0 where
  pub met : (o : List ℕ) → length o ≡ long (width code) → EncodeSays (number_refusal code) (width code) (roots code) message 0 o word
  pub only :
      (answer : ℕ) (o p : List ℕ) → length o ≡ long (width code) → EncodeSays (number_refusal code) (width code) (roots code) message answer o p →
      (answer ≡ 0) × (p ≡ word)

abbrev pub codeword : (code : ℕ) → (word : List ℕ) → Bool
codeword c ws = is_codeword (width c) (roots c) ws

abbrev pub configuration : (code : ℕ) → (word : List ℕ) → List ℕ
configuration c ws = syndromes (width c) (roots c) ws

-- a sample by its bits: they stand for a number, m · 2^e, negative where the sign is true, and are quantised to a reliability
pub record Sample (bits : ℕ) (number : Float) (reliability : ℤ) : Type 0 where
  pub is : of_bits binary32 bits ≡ number
  pub gives : quantised (of_bits binary32 bits) ≡ reliability

pub record OnRecord : Type 0 where
  -- 'Code 1, message 1 0 0 0 0: word 3 6 1 0 0 0 0 (p). Its configuration is 5, 3, 2 (p).'
  pub first_word : EncodesTo 1 (1 ∷ 0 ∷ 0 ∷ 0 ∷ 0 ∷ []) (3 ∷ 6 ∷ 1 ∷ 0 ∷ 0 ∷ 0 ∷ 0 ∷ [])
  pub its_configuration : configuration 1 (3 ∷ 6 ∷ 1 ∷ 0 ∷ 0 ∷ 0 ∷ 0 ∷ []) ≡ 5 ∷ 3 ∷ 2 ∷ []
  -- 'Code 2, message 1 0 0: word 3 2 1 3 1 0 0 (p). Code 3, message 1 then zeros: 8 6 1 then zeros (p).'
  pub word_of_code_2 : EncodesTo 2 (1 ∷ 0 ∷ 0 ∷ []) (3 ∷ 2 ∷ 1 ∷ 3 ∷ 1 ∷ 0 ∷ 0 ∷ [])
  pub word_of_code_3 : EncodesTo 3 (1 ∷ replicate 12 0) (8 ∷ 6 ∷ 1 ∷ replicate 12 0)
  -- 'Code 1, word 1 1 5 4 6 2 2 is a codeword with configuration 7, 4, 1 (p). Word 1 0 0 0 0 0 0 is not (p).'
  pub second_word : codeword 1 (1 ∷ 1 ∷ 5 ∷ 4 ∷ 6 ∷ 2 ∷ 2 ∷ []) ≡ true
  pub with_configuration : configuration 1 (1 ∷ 1 ∷ 5 ∷ 4 ∷ 6 ∷ 2 ∷ 2 ∷ []) ≡ 7 ∷ 4 ∷ 1 ∷ []
  pub no_codeword : codeword 1 (1 ∷ 0 ∷ 0 ∷ 0 ∷ 0 ∷ 0 ∷ 0 ∷ []) ≡ false
  -- 'Code 1, all reliabilities 10: metric 210 for the zero word (p)'
  pub all_10 : metric (width 1) (replicate 21 (pos 10)) (replicate 7 0) ≡ pos 210
  -- 'All zero row, code 1: the word 7 seven times has metric 0 (p)'
  pub all_zero : metric (width 1) (replicate 21 (pos 0)) (replicate 7 7) ≡ pos 0
  -- 'Samples 1.0, 1/64, -1/64, 3.984375: 32, 1, -1, 127 (p).'
  pub of_1 : Sample 0x3f80_0000 (fin false 1 (pos 0)) (pos 32)  -- 1 · 2^0
  pub of_64th : Sample 0x3c80_0000 (fin false 1 (negsuc 5)) (pos 1)  -- 1 · 2^-6
  pub of_minus_64th : Sample 0xbc80_0000 (fin true 1 (negsuc 5)) (negsuc 0)  -- -1 · 2^-6
  pub of_3_984375 : Sample 0x407f_0000 (fin false 255 (negsuc 5)) (pos 127)  -- 255 · 2^-6
