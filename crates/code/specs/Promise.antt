-- What is promised of the codes, over (m, r). A statement is a type; proofs/Promise.antt names the proof of each. Assumes nothing.
use Rattle.std.specs.Prelude.{◌≡◌, true, ◌&&◌, ◌||◌, cond, List, [], ◌∷◌, ℕ, ◌+◌, ◌≤◌, ◌<◌, eqb, leb, length}
use Rattle.field.specs.Field.{width_good}
use Rattle.code.specs.Code.{code_good, width, roots, long, message_long, symbols_good, is_codeword, message, accepted, parameter_refusal}
use Rattle.code.specs.Bits.{bit_at, row_long}
use Rattle.code.specs.Calls.{EncodeSays, ReadSays}

-- ten codes may be chosen
unfoldable pub AcceptedTen : Type 0
AcceptedTen =
    (m r : ℕ) →
    accepted m r ≡ ((eqb m 3 && (leb 1 r && leb r 6)) || (eqb m 4 && (eqb r 1 || (eqb r 2 || (eqb r 4 || eqb r 6)))))

-- each code number, and m and r that are not refused, are one of them
unfoldable pub CodesAccepted : Type 0
CodesAccepted = (c : ℕ) → code_good c ≡ true → accepted (width c) (roots c) ≡ true

unfoldable pub ParametersAccepted : Type 0
ParametersAccepted = (m r : ℕ) → parameter_refusal m r ≡ 0 → accepted m r ≡ true

-- they are among the (m, r) of which the statements below speak
unfoldable pub AcceptedInside : Type 0
AcceptedInside = (m r : ℕ) → accepted m r ≡ true → (width_good m ≡ true) × (1 ≤ r) × (r ≤ 6) × (r < long m)

-- a message of k symbols has one codeword
unfoldable pub EncodesOnce : Type 0
EncodesOnce =
    (m r : ℕ) (ms : List ℕ) → width_good m ≡ true → r ≤ long m → length ms ≡ message_long m r → symbols_good m ms ≡ true →
    ((ws : List ℕ) × (is_codeword m r ws ≡ true) × (message r ws ≡ ms))
    × ((vs ws : List ℕ) → is_codeword m r vs ≡ true → is_codeword m r ws ≡ true → message r vs ≡ ms → message r ws ≡ ms → vs ≡ ws)

-- the message of a codeword is one: k symbols below 2^m
unfoldable pub MessageGood : Type 0
MessageGood =
    (m r : ℕ) (ws : List ℕ) → r ≤ long m → is_codeword m r ws ≡ true →
    (length (message r ws) ≡ message_long m r) × (symbols_good m (message r ws) ≡ true)

-- reading an encoding gives the message, by the same choice of a code
unfoldable pub EncodedRead : Type 0
EncodedRead =
    (z m r answer : ℕ) (ms o ws q u : List ℕ) → (z ≡ 0 → accepted m r ≡ true) → EncodeSays z m r ms 0 o ws → length q ≡ length ms →
    ReadSays z m r ws answer q u → (answer ≡ 0) × (u ≡ ms)

-- encoding a read message gives the word
unfoldable pub ReadEncoded : Type 0
ReadEncoded =
    (z m r answer : ℕ) (ws o ms q u : List ℕ) → (z ≡ 0 → accepted m r ≡ true) → ReadSays z m r ws 0 o ms → length q ≡ length ws →
    EncodeSays z m r ms answer q u → (answer ≡ 0) × (u ≡ ws)

-- at every bit some codewords have 0 and some have 1
unfoldable pub BothThere : Type 0
BothThere =
    (m r b : ℕ) → width_good m ≡ true → r < long m → b < row_long m →
    ((ws : List ℕ) × (is_codeword m r ws ≡ true) × (bit_at m b ws ≡ 0)) × ((ws : List ℕ) × (is_codeword m r ws ≡ true) × (bit_at m b ws ≡ 1))

-- in how many places two words of the same length, or their bits, differ
unfoldable pub differ : (vs ws : List ℕ) → ℕ
differ [] ws = 0
differ (c ∷ cs) [] = 0
differ (c ∷ cs) (d ∷ ds) = cond (eqb c d) 0 1 + differ cs ds

-- two codewords differ in more symbols than there are roots
unfoldable pub Distance : Type 0
Distance =
    (m r : ℕ) (vs ws : List ℕ) → width_good m ≡ true → is_codeword m r vs ≡ true → is_codeword m r ws ≡ true → differ vs ws ≤ r → vs ≡ ws
