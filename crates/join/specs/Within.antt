-- What the parts of `join` ask and promise. Assumes nothing: these are definitions.
use Rattle.std.specs.Prelude.{◌≡◌, true, List, [], ◌∷◌, ℕ, ◌*◌, ◌%◌, ◌^◌, eqb, length, take}
use Rattle.refusal.specs.Refusal.{unless}
use Rattle.field.specs.Field.{xor}
use Rattle.code.specs.Code.{long, symbols_good, is_codeword}
use Rattle.code.specs.Bits.{row_long}
use Rattle.split.specs.Split.{valid, all_below}
use Rattle.join.specs.Calls.{all_bch, in_range, JoinRight}

-- what is refused before anything is joined
unfoldable pub parts_refusal : (m r : ℕ) → (configuration words : List ℕ) → (output : ℕ) → ℕ
parts_refusal m r ss bs o =
    unless (eqb (length bs) (row_long m)) 3
    (unless (eqb o (long m)) 4
    (unless (all_bch m 0 m r bs) 18
    (unless (in_range m r ss) 19 0)))

-- bits are put in as layer j
unfoldable pub with_layer : (j : ℕ) → (word bits : List ℕ) → List ℕ
with_layer j [] bs = []
with_layer j (c ∷ cs) [] = []
with_layer j (c ∷ cs) (b ∷ bs) = xor c (b * 2 ^ j % 256) ∷ with_layer j cs bs

-- BCH words, a configuration in range, and zeros to be written over
pub record Joinable (m r : ℕ) (configuration words zeros : List ℕ) : Type 0 where
  pub count : length words ≡ row_long m
  pub are_bch : all_bch m 0 m r words ≡ true
  pub inside : in_range m r configuration ≡ true
  pub room : length zeros ≡ long m
  pub are_zero : all_below 1 zeros ≡ true

-- the word of these: it is a codeword exactly when the configuration is valid, and then the right one
pub record Joined (m r : ℕ) (configuration words word : List ℕ) : Type 0 where
  pub count : length word ≡ long m
  pub symbols : symbols_good m word ≡ true
  pub codeword_is : is_codeword m r word ≡ valid m r (take m configuration)
  pub right : is_codeword m r word ≡ true → JoinRight m r configuration words word
