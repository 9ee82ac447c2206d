-- The cosets of a layer by their tails, and the tuples of cosets that codewords have, for every code that may be chosen.
-- The tail of a word is its last q positions, q the bits of a syndrome. Each coset has one word that is 0 before its tail (`TailCosets`): the bits of
-- that tail number the coset, bit k that of position n - 1 - k. What differs between the codes is data here, and specs/Promise.antt says what it is worth.
-- Assumes nothing: these are definitions.
use Rattle.std.specs.Prelude.{◌||◌, cond, List, [], ◌∷◌, ◌++◌, ℕ, zero, suc, ◌+◌, ◌-◌, ◌*◌, ◌/◌, ◌%◌, ◌^◌, eqb, get_or, take}
use Rattle.std.specs.Int.Bits.{bit_xor}
use Rattle.std.specs.Int.Count.{count_trailing_zeros}
use Rattle.field.specs.Field.{xor}
use Rattle.code.specs.Code.{long, syndrome_long, configuration_long}
use Rattle.split.specs.Split.{column}
use Rattle.split.specs.Members.{picked}

-- a for a 0, b for a 1 (for any number but 0)
abbrev pub pick : ℕ → ℕ → ℕ → ℕ
pick zero a b = a
pick (suc n) a b = b

-- the sum of the columns where the bit is a 1
unfoldable pub added : (columns bits : List ℕ) → ℕ
added [] bs = 0
added (h ∷ hs) [] = 0
added (h ∷ hs) (b ∷ bs) = xor (pick b 0 h) (added hs bs)

-- the columns of the last q positions
unfoldable pub tail_columns : (q : ℕ) → List ℕ
tail_columns zero = []
tail_columns (suc q) = 2 ^ q ∷ tail_columns q

-- the columns of the positions before them
unfoldable pub heads : (m q : ℕ) → List ℕ
heads m q =
    cond (eqb m 3)
    (cond (eqb q 3) (6 ∷ 3 ∷ 7 ∷ 5 ∷ [])
    (63 ∷ []))
    (cond (eqb q 4) (12 ∷ 6 ∷ 3 ∷ 13 ∷ 10 ∷ 5 ∷ 14 ∷ 7 ∷ 15 ∷ 11 ∷ 9 ∷ [])
    (cond (eqb q 8) (139 ∷ 206 ∷ 103 ∷ 184 ∷ 92 ∷ 46 ∷ 23 ∷ [])
    (946 ∷ 473 ∷ 862 ∷ 431 ∷ 869 ∷ [])))

-- the coset of each word with a single 1, by the position of the 1: the sum of these where a layer has a 1 is the coset of the layer
unfoldable pub columns : (m r : ℕ) → List ℕ
columns m r = heads m (syndrome_long m r) ++ tail_columns (syndrome_long m r)

-- THE WALK. A place of a layer stands for a coset of it: the cosets of the place's bits, four for the lanes and then those of the rows
abbrev pub slot : ℕ → (a b c d : List ℕ) → List ℕ
slot j a b c d = cond (eqb j 0) a (cond (eqb j 1) b (cond (eqb j 2) c d))

unfoldable pub place_columns : (m r j : ℕ) → List ℕ
place_columns m r j =
    cond (eqb m 3)
    (cond (eqb r 1) (slot j (0 ∷ 0 ∷ 0 ∷ 2 ∷ 1 ∷ 4 ∷ []) (2 ∷ 1 ∷ 6 ∷ 4 ∷ 2 ∷ 5 ∷ []) (4 ∷ 2 ∷ 1 ∷ 0 ∷ []) (0 ∷ 0 ∷ 0 ∷ 0 ∷ []))
    (cond (eqb r 2) (slot j (5 ∷ 2 ∷ 6 ∷ 0 ∷ []) (6 ∷ 7 ∷ 4 ∷ 0 ∷ []) (2 ∷ 6 ∷ 7 ∷ 0 ∷ []) (0 ∷ 0 ∷ 0 ∷ 0 ∷ []))
    (cond (eqb r 3) (slot j (39 ∷ 22 ∷ 58 ∷ 0 ∷ 46 ∷ 23 ∷ 26 ∷ []) (58 ∷ 49 ∷ 44 ∷ 26 ∷ 52 ∷ 26 ∷ 57 ∷ []) (22 ∷ 58 ∷ 49 ∷ 57 ∷ 52 ∷ 46 ∷ []) (0 ∷ 0 ∷ 0 ∷ 0 ∷ []))
    (cond (eqb r 4) (slot j (0 ∷ 0 ∷ 0 ∷ 46 ∷ 23 ∷ 52 ∷ []) (46 ∷ 23 ∷ 26 ∷ 52 ∷ 26 ∷ 13 ∷ []) (52 ∷ 26 ∷ 57 ∷ 0 ∷ []) (0 ∷ 0 ∷ 0 ∷ 0 ∷ []))
    (cond (eqb r 5) (slot j (13 ∷ 26 ∷ 52 ∷ 0 ∷ []) (52 ∷ 23 ∷ 46 ∷ 0 ∷ []) (26 ∷ 52 ∷ 23 ∷ 0 ∷ []) (0 ∷ 0 ∷ 0 ∷ 0 ∷ []))
    (slot j (0 ∷ 0 ∷ 0 ∷ 0 ∷ []) (0 ∷ 0 ∷ 0 ∷ 0 ∷ []) (0 ∷ 0 ∷ 0 ∷ 0 ∷ []) (0 ∷ 0 ∷ 0 ∷ 0 ∷ [])))))))
    (cond (eqb r 1) (slot j (0 ∷ 0 ∷ 0 ∷ 0 ∷ 4 ∷ 2 ∷ 1 ∷ 8 ∷ []) (0 ∷ 0 ∷ 0 ∷ 0 ∷ 8 ∷ 4 ∷ 2 ∷ 9 ∷ []) (4 ∷ 2 ∷ 1 ∷ 12 ∷ 8 ∷ 4 ∷ 2 ∷ 1 ∷ []) (8 ∷ 4 ∷ 2 ∷ 1 ∷ []))
    (cond (eqb r 2) (slot j (0 ∷ 0 ∷ 0 ∷ 8 ∷ 1 ∷ 2 ∷ 5 ∷ []) (1 ∷ 2 ∷ 4 ∷ 0 ∷ 12 ∷ 1 ∷ []) (12 ∷ 1 ∷ 2 ∷ 1 ∷ 5 ∷ 10 ∷ []) (5 ∷ 10 ∷ 13 ∷ 13 ∷ 11 ∷ 4 ∷ []))
    (cond (eqb r 4) (slot j (217 ∷ 248 ∷ 62 ∷ 132 ∷ 200 ∷ 172 ∷ 181 ∷ 158 ∷ []) (132 ∷ 33 ∷ 198 ∷ 186 ∷ 172 ∷ 250 ∷ 100 ∷ 209 ∷ []) (62 ∷ 132 ∷ 33 ∷ 198 ∷ 200 ∷ 172 ∷ 181 ∷ 158 ∷ []) (248 ∷ 62 ∷ 132 ∷ 33 ∷ 172 ∷ 250 ∷ 100 ∷ 209 ∷ []))
    (slot j (527 ∷ 744 ∷ 186 ∷ 924 ∷ 800 ∷ 688 ∷ 642 ∷ 567 ∷ 632 ∷ 886 ∷ []) (924 ∷ 231 ∷ 594 ∷ 806 ∷ 500 ∷ 270 ∷ 200 ∷ 986 ∷ 371 ∷ 958 ∷ []) (186 ∷ 924 ∷ 231 ∷ 594 ∷ 200 ∷ 172 ∷ 786 ∷ 742 ∷ 158 ∷ 879 ∷ []) (744 ∷ 186 ∷ 924 ∷ 231 ∷ 200 ∷ 172 ∷ 786 ∷ 742 ∷ 158 ∷ 879 ∷ [])))))

-- the coset at a place
unfoldable pub marked : (m r j p : ℕ) → ℕ
marked m r j p = picked (place_columns m r j) p

-- what the places of the four layers are xored with, four numbers to a step
unfoldable pub steps : (m r : ℕ) → List ℕ
steps m r =
    cond (eqb m 3)
    (cond (eqb r 3) (16 ∷ 16 ∷ 0 ∷ 0 ∷ 32 ∷ 32 ∷ 0 ∷ 0 ∷ 64 ∷ 64 ∷ 0 ∷ 0 ∷ 0 ∷ 48 ∷ 16 ∷ 0 ∷ 0 ∷ 64 ∷ 32 ∷ 0 ∷ [])
    (cond (eqb r 1 || eqb r 4) (16 ∷ 16 ∷ 0 ∷ 0 ∷ 32 ∷ 32 ∷ 0 ∷ 0 ∷ [])
    []))
    (cond (eqb r 1) (16 ∷ 16 ∷ 0 ∷ 0 ∷ 32 ∷ 32 ∷ 0 ∷ 0 ∷ 64 ∷ 64 ∷ 0 ∷ 0 ∷ 128 ∷ 128 ∷ 0 ∷ 0 ∷ 0 ∷ 32 ∷ 16 ∷ 0 ∷ 0 ∷ 64 ∷ 32 ∷ 0 ∷ 0 ∷ 144 ∷ 64 ∷ 0 ∷ 0 ∷ 48 ∷ 128 ∷ 0 ∷ [])
    (cond (eqb r 2) (16 ∷ 16 ∷ 16 ∷ 0 ∷ 32 ∷ 32 ∷ 32 ∷ 0 ∷ 48 ∷ 0 ∷ 16 ∷ 16 ∷ 64 ∷ 0 ∷ 48 ∷ 32 ∷ [])
    (cond (eqb r 4) (16 ∷ 16 ∷ 0 ∷ 0 ∷ 32 ∷ 32 ∷ 0 ∷ 0 ∷ 64 ∷ 64 ∷ 0 ∷ 0 ∷ 128 ∷ 128 ∷ 0 ∷ 0 ∷ 0 ∷ 0 ∷ 16 ∷ 16 ∷ 0 ∷ 0 ∷ 32 ∷ 32 ∷ 0 ∷ 0 ∷ 64 ∷ 64 ∷ 0 ∷ 0 ∷ 128 ∷ 128 ∷ 0 ∷ 80 ∷ 32 ∷ 0 ∷ 0 ∷ 16 ∷ 176 ∷ 0 ∷ 0 ∷ 192 ∷ 48 ∷ 0 ∷ 0 ∷ 96 ∷ 112 ∷ 0 ∷ [])
    (16 ∷ 16 ∷ 16 ∷ 0 ∷ 32 ∷ 32 ∷ 32 ∷ 0 ∷ 64 ∷ 64 ∷ 64 ∷ 0 ∷ 128 ∷ 128 ∷ 128 ∷ 0 ∷ 256 ∷ 256 ∷ 256 ∷ 0 ∷ 512 ∷ 512 ∷ 512 ∷ 0 ∷ 0 ∷ 176 ∷ 192 ∷ 16 ∷ 0 ∷ 544 ∷ 496 ∷ 32 ∷ 0 ∷ 592 ∷ 16 ∷ 64 ∷ 0 ∷ 816 ∷ 80 ∷ 128 ∷ 0 ∷ 608 ∷ 944 ∷ 256 ∷ 0 ∷ 576 ∷ 96 ∷ 512 ∷ []))))

-- how many steps there are, and how many turns of sixteen lanes
unfoldable pub step_count : (m r : ℕ) → ℕ
step_count m r = configuration_long m r - 4

unfoldable pub turns : (m r : ℕ) → ℕ
turns m r = 2 ^ step_count m r

-- step b in layer j; the bit that changes at turn k; the place of lane 0 at turn k, in the order of the Gray code
abbrev pub step : List ℕ → (b j : ℕ) → ℕ
step st b j = get_or st (b * 4 + j) 0

abbrev pub changed_bit : ℕ → ℕ
changed_bit k = count_trailing_zeros 64 k

unfoldable pub off : List ℕ → (k j : ℕ) → ℕ
off st zero j = 0
off st (suc k) j = bit_xor (off st k j) (step st (changed_bit (suc k)) j)

-- the coset of layer j in tuple number i: lane i % 16 of turn i / 16
unfoldable pub visited : (m r i j : ℕ) → ℕ
visited m r i j = marked m r j (xor (off (steps m r) (i / 16) j) (i % 16))

-- THE BASIS of the tuples that codewords have, layer j of each vector: those of the four lanes' bits, and those of the steps
unfoldable pub moves : (left b : ℕ) → (m r j : ℕ) → List ℕ
moves zero b m r j = []
moves (suc k) b m r j = marked m r j (step (steps m r) b j) ∷ moves k (suc b) m r j

unfoldable pub basis : (m r j : ℕ) → List ℕ
basis m r j = take 4 (place_columns m r j) ++ moves (step_count m r) 0 m r j

-- how many vectors it has: the product, or four, some of them 0
unfoldable pub basis_long : (m r : ℕ) → ℕ
basis_long m r = 4 + step_count m r

-- layer j of the sum of those that the bits of b pick
unfoldable pub combined : (m r b j : ℕ) → ℕ
combined m r b j = picked (basis m r j) b

-- IN DOCUMENT 01'S NUMBERS. The syndromes of the words with a single 1, so many of them, from position i back
unfoldable pub columns_back : (left i : ℕ) → (m r : ℕ) → List ℕ
columns_back zero i m r = []
columns_back (suc k) i m r = column m r i ∷ columns_back k (i - 1) m r

-- the syndrome of a coset
unfoldable pub syndrome_of : (m r s : ℕ) → ℕ
syndrome_of m r s = picked (columns_back (syndrome_long m r) (long m - 1) m r) s

-- configuration k: the syndromes of the cosets of all layers from j on
unfoldable pub configuration_from : (left j : ℕ) → (m r k : ℕ) → List ℕ
configuration_from zero j m r k = []
configuration_from (suc l) j m r k = syndrome_of m r (combined m r k j) ∷ configuration_from l (suc j) m r k

unfoldable pub configuration : (m r k : ℕ) → List ℕ
configuration m r k = configuration_from m 0 m r k
