-- WORDS ARE ORDERED BY THEIR BITS: the positions at which one's symbol is less, as a number, against those at which it is greater.
-- Assumes nothing.
use Rattle.basics.proofs.Kit.{◌≡◌, refl, sym, ◌∙◌, Bool, true, false, ◌&&◌, cond, List, ℕ, zero, suc, ◌+◌, ◌*◌, ◌/◌, ◌%◌, ◌^◌, ◌≤◌, ◌<◌, arith, eqb, ltb}
use mathlib.Core.Bool.{false≢true}
use native.Mathlib.Nat.{pow-suc}
use borrow.Author.Tests.{ltb-true, ltb-false, eqb-true, lt-ltb, le-ltb}
use lib.Bits.{bit_and, bit_or, bit_xor, and_shr, or_shr, xor_shr, and_mod, or_mod, xor_mod}
use Rattle.lanes.specs.Lanes.{lane}
use Rattle.walk.specs.Walk.{sum4}
use Rattle.ties.specs.Ties.{spaced, number_of}
use Rattle.ties.specs.Turn.{four}

-- one layer more, which weighs more than those before it
abbrev over : (l w v : ℕ) → ℕ
over l w v = bit_xor l (bit_and (bit_xor w v) (bit_xor l v))

-- the positions at which w's symbol is less than v's, and those at which it is greater
unfoldable pub less : (w v : ℕ → ℕ) → ℕ
less w v = over (over (over (bit_and (bit_xor (w 0) (v 0)) (v 0)) (w 1) (v 1)) (w 2) (v 2)) (w 3) (v 3)

unfoldable pub more : (w v : ℕ → ℕ) → ℕ
more w v = bit_xor (bit_or (bit_or (bit_or (bit_xor (w 0) (v 0)) (bit_xor (w 1) (v 1))) (bit_xor (w 2) (v 2))) (bit_xor (w 3) (v 3))) (less w v)

-- a and b are ordered as c and d
data SameOrder (a b c d : ℕ) : Type 0 where
  below : a < b → c < d → SameOrder a b c d
  same : a ≡ b → c ≡ d → SameOrder a b c d
  above : b < a → d < c → SameOrder a b c d

-- ONE POSITION, by all 256 pairs of symbols
abbrev symbol : (ℕ → ℕ) → ℕ
symbol w = sum4 (λ j. 2 ^ j * w j)

abbrev test : (a b c d : ℕ) → Bool
test a b c d = cond (ltb a b) (ltb c d) (cond (ltb b a) (ltb d c) (eqb c d))

tested : (a b c d : ℕ) → test a b c d ≡ true → SameOrder a b c d
tested a b c d h = go (ltb a b) refl (ltb b a) refl h
  where
    go : (p : Bool) → ltb a b ≡ p → (q : Bool) → ltb b a ≡ q → cond p (ltb c d) (cond q (ltb d c) (eqb c d)) ≡ true → SameOrder a b c d
    go true ep q eq e = below (ltb-true a b ep) (ltb-true c d e)
    go false ep true eq e = above (ltb-true b a eq) (ltb-true d c e)
    go false ep false eq e = same (omega (arith, ltb-false a b ep, ltb-false b a eq)) (eqb-true c d e)

both : (ℕ → Bool) → Bool
both f = f 0 && f 1

both_at : (f : ℕ → Bool) → both f ≡ true → (b : ℕ) → b < 2 → f b ≡ true
unfolding both
both_at f h zero l = go (f 0) (f 1) h
  where
    go : (p q : Bool) → (p && q) ≡ true → p ≡ true
    go true q e = refl
    go false q e = e
both_at f h (suc zero) l = go (f 0) (f 1) h
  where
    go : (p q : Bool) → (p && q) ≡ true → q ≡ true
    go true q e = e
    go false q e = absurd (false≢true e)
both_at f h (suc (suc b)) l = absurd (omega arith)

-- the test of one pair, and of all pairs
pair : (a b c d e f g h : ℕ) → Bool
unfolding less more
pair a b c d e f g h = test (symbol (lane (four a b c d))) (symbol (lane (four e f g h))) (more (lane (four a b c d)) (lane (four e f g h))) (less (lane (four a b c d)) (lane (four e f g h)))

pairs : both (λ a. both (λ b. both (λ c. both (λ d. both (λ e. both (λ f. both (λ g. both (λ h. pair a b c d e f g h)))))))) ≡ true
unfolding both pair less more
pairs = refl

one_position : (w v : ℕ → ℕ) → ((j : ℕ) → w j < 2) → ((j : ℕ) → v j < 2) → SameOrder (symbol w) (symbol v) (more w v) (less w v)
unfolding pair less more
one_position w v hw hv = tested (symbol w) (symbol v) (more w v) (less w v) (both_at _ (both_at _ (both_at _ (both_at _ (both_at _ (both_at _ (both_at _ (both_at _ pairs (w 0) (hw 0)) (w 1) (hw 1)) (w 2) (hw 2)) (w 3) (hw 3)) (v 0) (hv 0)) (v 1) (hv 1)) (v 2) (hv 2)) (v 3) (hv 3))

-- ALL POSITIONS, the last of them first
abbrev halves : (ℕ → ℕ) → ℕ → ℕ
halves w j = w j / 2

abbrev bits : (ℕ → ℕ) → ℕ → ℕ
bits w j = w j % 2

and_half : (a b : ℕ) → bit_and a b / 2 ≡ bit_and (a / 2) (b / 2)
and_half a b = and_shr a b 1

or_half : (a b : ℕ) → bit_or a b / 2 ≡ bit_or (a / 2) (b / 2)
or_half a b = or_shr a b 1

xor_half : (a b : ℕ) → bit_xor a b / 2 ≡ bit_xor (a / 2) (b / 2)
xor_half a b = xor_shr a b 1

and_bit : (a b : ℕ) → bit_and a b % 2 ≡ bit_and (a % 2) (b % 2)
and_bit a b = and_mod a b 1

or_bit : (a b : ℕ) → bit_or a b % 2 ≡ bit_or (a % 2) (b % 2)
or_bit a b = or_mod a b 1

xor_bit : (a b : ℕ) → bit_xor a b % 2 ≡ bit_xor (a % 2) (b % 2)
xor_bit a b = xor_mod a b 1

module _ (w v : ℕ → ℕ) where
  less_half : less w v / 2 ≡ less (halves w) (halves v)
  unfolding less
  less_half = simp (and_half, xor_half)

  less_bit : less w v % 2 ≡ less (bits w) (bits v)
  unfolding less
  less_bit = simp (and_bit, xor_bit)

  more_half : more w v / 2 ≡ more (halves w) (halves v)
  unfolding more
  more_half = simp (xor_half, or_half, less_half)

  more_bit : more w v % 2 ≡ more (bits w) (bits v)
  unfolding more
  more_bit = simp (xor_bit, or_bit, less_bit)

abbrev numbered : (n : ℕ) → (ℕ → ℕ) → ℕ
numbered n w = sum4 (λ j. 2 ^ j * spaced n (w j))

-- a position behind others: it decides where they do not
behind : (a b s t c d g l : ℕ) → s < 16 → t < 16 → g < 2 → l < 2 → SameOrder a b c d → SameOrder s t g l → (a' b' c' d' : ℕ) → a' ≡ s + 16 * a → b' ≡ t + 16 * b → c' ≡ c * 2 + g → d' ≡ d * 2 + l → SameOrder a' b' c' d'
behind a b s t c d g l hs ht hg hl (below p q) y a' b' c' d' ea eb ec ed = below (omega arith) (omega arith)
behind a b s t c d g l hs ht hg hl (above p q) y a' b' c' d' ea eb ec ed = above (omega arith) (omega arith)
behind a b s t c d g l hs ht hg hl (same p q) (below x y) a' b' c' d' ea eb ec ed = below (omega arith) (omega arith)
behind a b s t c d g l hs ht hg hl (same p q) (same x y) a' b' c' d' ea eb ec ed = same (omega arith) (omega arith)
behind a b s t c d g l hs ht hg hl (same p q) (above x y) a' b' c' d' ea eb ec ed = above (omega arith) (omega arith)

no_bits : (w v : ℕ → ℕ) → ((j : ℕ) → j < 4 → w j < 1) → ((j : ℕ) → j < 4 → v j < 1) → more w v ≡ less w v
unfolding more less
no_bits w v hw hv =
    let w0 : w 0 ≡ 0 = omega (arith, hw 0 (omega arith)) in
    let w1 : w 1 ≡ 0 = omega (arith, hw 1 (omega arith)) in
    let w2 : w 2 ≡ 0 = omega (arith, hw 2 (omega arith)) in
    let w3 : w 3 ≡ 0 = omega (arith, hw 3 (omega arith)) in
    let v0 : v 0 ≡ 0 = omega (arith, hv 0 (omega arith)) in
    let v1 : v 1 ≡ 0 = omega (arith, hv 1 (omega arith)) in
    let v2 : v 2 ≡ 0 = omega (arith, hv 2 (omega arith)) in
    let v3 : v 3 ≡ 0 = omega (arith, hv 3 (omega arith)) in
    rw (w0, w1, w2, w3, v0, v1, v2, v3) refl

ordered : (n : ℕ) (w v : ℕ → ℕ) → ((j : ℕ) → j < 4 → w j < 2 ^ n) → ((j : ℕ) → j < 4 → v j < 2 ^ n) → SameOrder (numbered n w) (numbered n v) (more w v) (less w v)
unfolding spaced
ordered zero w v hw hv = same refl (no_bits w v hw hv)
ordered (suc n) w v hw hv =
    let bit : (x : ℕ) → x % 2 < 2 = λ x. omega arith in
    let half : (x : ℕ) → x < 2 ^ suc n → x / 2 < 2 ^ n = λ x l. omega (arith, pow-suc 2 n) in
    behind (numbered n (halves w)) (numbered n (halves v)) (symbol (bits w)) (symbol (bits v)) (more (halves w) (halves v)) (less (halves w) (halves v)) (more (bits w) (bits v)) (less (bits w) (bits v)) (omega arith) (omega arith) (omega (arith, more_bit w v)) (omega (arith, less_bit w v)) (ordered n (halves w) (halves v) (λ j l. half (w j) (hw j l)) (λ j l. half (v j) (hv j l))) (one_position (bits w) (bits v) (λ j. bit (w j)) (λ j. bit (v j))) (numbered (suc n) w) (numbered (suc n) v) (more w v) (less w v) (omega arith) (omega arith) (omega (arith, more_half w v, more_bit w v)) (omega (arith, less_half w v, less_bit w v))

-- words of sixteen bits
pub by_bits : (ws vs : List ℕ) → ((j : ℕ) → j < 4 → lane ws j < 2 ^ 16) → ((j : ℕ) → j < 4 → lane vs j < 2 ^ 16) → ltb (more (lane ws) (lane vs)) (less (lane ws) (lane vs)) ≡ ltb (number_of ws) (number_of vs)
unfolding number_of
by_bits ws vs hw hv = go (ordered 16 (lane ws) (lane vs) hw hv)
  where
    go : {a b c d : ℕ} → SameOrder a b c d → ltb c d ≡ ltb a b
    go {a} {b} {c} {d} (below p q) = lt-ltb c d q ∙ sym (lt-ltb a b p)
    go {a} {b} {c} {d} (same p q) = le-ltb c d (omega arith) ∙ sym (le-ltb a b (omega arith))
    go {a} {b} {c} {d} (above p q) = le-ltb c d (omega arith) ∙ sym (le-ltb a b (omega arith))

-- no words come after those of all ones
unfoldable pub last : List ℕ
last = four 65535 65535 65535 65535

most : (n w : ℕ) → 15 * spaced n w + 1 ≤ 16 ^ n
unfolding spaced
most zero w = omega arith
most (suc n) w = omega (arith, most n (w / 2), pow-suc 16 n)

pub last_greatest : (ws : List ℕ) → number_of ws ≤ number_of last
unfolding number_of last
last_greatest ws =
    let e : spaced 16 65535 ≡ 1229782938247303441 = unfold spaced in refl in
    omega (arith, most 16 (lane ws 0), most 16 (lane ws 1), most 16 (lane ws 2), most 16 (lane ws 3), e)
