-- What `join` answers and leaves behind, for every input (document 02, CR 5); z is what the choice of the code is refused by. Refusals in the stated order:
-- code 1, 16; lengths 3, 4; the layers' BCH words 18; the configuration 19. Assumes nothing: these are definitions.
use Rattle.std.specs.Prelude.{◌≡◌, Bool, true, ◌&&◌, List, ℕ, zero, suc, ◌*◌, ◌<◌, eqb, length, get_or, take, drop}
use Rattle.refusal.specs.Refusal.{unless, first, Outcome}
use Rattle.code.specs.Code.{long, is_codeword}
use Rattle.code.specs.Bits.{row_long}
use Rattle.split.specs.Split.{layer, syndrome, cosets, valid, all_below, Leader, sum}

-- of words of n values end to end, that of layer j
unfoldable pub part : (m j : ℕ) → (words : List ℕ) → List ℕ
part m j bs = take (long m) (drop (j * long m) bs)

-- a BCH word: values 0 and 1, with syndrome 0
unfoldable pub is_bch : (m r : ℕ) → (values : List ℕ) → Bool
is_bch m r bs = all_below 2 bs && eqb (syndrome m r bs) 0

-- so many layers from j on are BCH words
unfoldable pub all_bch : (left j : ℕ) → (m r : ℕ) → (words : List ℕ) → Bool
all_bch zero j m r bs = true
all_bch (suc k) j m r bs = is_bch m r (part m j bs) && all_bch k (suc j) m r bs

-- the first m places are syndromes, and any other is 0
unfoldable pub in_range : (m r : ℕ) → (places : List ℕ) → Bool
in_range m r ss = all_below (cosets m r) (take m ss) && all_below 1 (drop m ss)

-- they are a valid configuration
unfoldable pub is_configuration : (m r : ℕ) → (places : List ℕ) → Bool
is_configuration m r ss = in_range m r ss && valid m r (take m ss)

unfoldable pub join_refusal : (m r : ℕ) → (configuration words : List ℕ) → (output : ℕ) → ℕ
join_refusal m r ss bs o =
    unless (eqb (length bs) (row_long m)) 3
    (unless (eqb o (long m)) 4
    (unless (all_bch m 0 m r bs) 18
    (unless (is_configuration m r ss) 19 0)))

-- the codeword whose layer j is BCH word j plus the leader of s_j
pub record JoinRight (m r : ℕ) (configuration words output : List ℕ) : Type 0 where
  pub codeword : is_codeword m r output ≡ true
  pub leaders : ℕ → List ℕ
  pub lead : (j : ℕ) → j < m → Leader m r (get_or configuration j 0) (leaders j)
  pub layers : (j : ℕ) → j < m → layer j output ≡ sum (part m j words) (leaders j)

unfoldable pub JoinSays : (z m r : ℕ) → (configuration words : List ℕ) → (answer : ℕ) → (output output_now : List ℕ) → Type 0
JoinSays z m r ss bs a o p = Outcome (first z (join_refusal m r ss bs (length o))) a (JoinRight m r ss bs p) (p ≡ o)
