-- The configurations on record (document 01, 'Values on record'), from the definitions.
-- Assumes nothing.
use Rattle.basics.proofs.Kit.{◌≡◌, refl, true, [], ◌∷◌}
use Rattle.field.specs.Field.{xor, times, times_from, doubled, alpha}
use Rattle.code.specs.Code.{width, roots, long, value_from, value_at, vanishes, symbols_good, is_codeword}
use Rattle.split.specs.Split.{layer, number, syndrome, syndromes, syndromes_from}

-- code 1, word 3 6 1 0 0 0 0: configuration 5, 3, 2
pub first_word : syndromes (width 1) (roots 1) (3 ∷ 6 ∷ 1 ∷ 0 ∷ 0 ∷ 0 ∷ 0 ∷ []) ≡ 5 ∷ 3 ∷ 2 ∷ []
unfolding width roots xor times times_from doubled alpha value_from value_at layer number syndrome syndromes syndromes_from
first_word = refl

-- code 1, word 1 1 5 4 6 2 2 is a codeword with configuration 7, 4, 1
pub second_word :
    (is_codeword (width 1) (roots 1) (1 ∷ 1 ∷ 5 ∷ 4 ∷ 6 ∷ 2 ∷ 2 ∷ []) ≡ true) × (syndromes (width 1) (roots 1) (1 ∷ 1 ∷ 5 ∷ 4 ∷ 6 ∷ 2 ∷ 2 ∷ []) ≡ 7 ∷ 4 ∷ 1 ∷ [])
unfolding width roots long xor times times_from doubled alpha value_from value_at vanishes symbols_good is_codeword layer number syndrome syndromes syndromes_from
second_word = (refl, refl)
