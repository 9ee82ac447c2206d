-- The bits of a word: how many they are, that words differ in no fewer bits than symbols, and that the bits say the word.
-- Assumes nothing.
use Rattle.basics.proofs.Kit.{◌≡◌, refl, sym, ap, ap₂, ◌∙◌, Bool, true, false, cond, List, [], ◌∷◌, ◌++◌, ℕ, zero, suc, ◌+◌, ◌*◌, ◌/◌, ◌%◌, ◌^◌, ◌≤◌, ◌<◌, arith, length, eqb}
use native.Mathlib.Nat.{suc_inj}
use lib.Dec.{eqb→eq}
use lib.ListN.{length-append}
use Rattle.field.proofs.Tests.{to_T}
use Rattle.code.specs.Bits.{bits_of, all_bits}
use Rattle.code.specs.Promise.{differ}
use Rattle.code.proofs.Words.{Below, eqb_true}

length_bits : (m c : ℕ) → length (bits_of m c) ≡ m
unfolding bits_of
length_bits zero c = refl
length_bits (suc m) c = ap suc (length_bits m _)

pub length_all_bits : (m : ℕ) (ws : List ℕ) → length (all_bits m ws) ≡ length ws * m
unfolding all_bits
length_all_bits m [] = omega arith
length_all_bits m (c ∷ cs) = omega (arith, length-append (bits_of m c) (all_bits m cs), length_bits m c, length_all_bits m cs)

-- WORDS DIFFER IN NO MORE SYMBOLS THAN BITS
pub at_most_one : (x : Bool) → cond x 0 1 ≤ 1
at_most_one true = omega arith
at_most_one false = omega arith

differ_append : (us vs xs ys : List ℕ) → length us ≡ length vs → differ (us ++ xs) (vs ++ ys) ≡ differ us vs + differ xs ys
unfolding differ
differ_append [] [] xs ys l = omega arith
differ_append [] (v ∷ vs) xs ys l = absurd (omega arith)
differ_append (u ∷ us) [] xs ys l = absurd (omega arith)
differ_append (u ∷ us) (v ∷ vs) xs ys l = omega (arith, differ_append us vs xs ys (suc_inj l))

symbol_differ : (m c d : ℕ) → c < 2 ^ m → d < 2 ^ m → cond (eqb c d) 0 1 ≤ differ (bits_of m c) (bits_of m d)
unfolding bits_of differ
symbol_differ zero c d h k = let e : c ≡ d = omega arith in rw (e, eqb_true d d refl) (omega arith)
symbol_differ (suc m) c d h k = go (eqb (c % 2) (d % 2)) refl (eqb (c / 2) (d / 2)) refl (symbol_differ m (c / 2) (d / 2) (omega arith) (omega arith))
  where
    go :
        (x : Bool) → eqb (c % 2) (d % 2) ≡ x → (y : Bool) → eqb (c / 2) (d / 2) ≡ y → cond y 0 1 ≤ differ (bits_of m (c / 2)) (bits_of m (d / 2)) →
        cond (eqb c d) 0 1 ≤ cond x 0 1 + differ (bits_of m (c / 2)) (bits_of m (d / 2))
    go true e true f o = let g : c ≡ d = omega (arith, eqb→eq (c % 2) (d % 2) (to_T e), eqb→eq (c / 2) (d / 2) (to_T f)) in rw (g, eqb_true d d refl) (omega arith)
    go true e false f o = omega (arith, at_most_one (eqb c d))
    go false e y f o = omega (arith, at_most_one (eqb c d))

pub bits_differ : (m : ℕ) (vs ws : List ℕ) → length vs ≡ length ws → Below (2 ^ m) vs → Below (2 ^ m) ws → differ vs ws ≤ differ (all_bits m vs) (all_bits m ws)
unfolding all_bits differ
bits_differ m [] [] l f g = omega arith
bits_differ m [] (d ∷ ds) l f g = absurd (omega arith)
bits_differ m (c ∷ cs) [] l f g = absurd (omega arith)
bits_differ m (c ∷ cs) (d ∷ ds) l f g =
    omega (
      arith,
      symbol_differ m c d f.0 g.0,
      bits_differ m cs ds (suc_inj l) f.1 g.1,
      differ_append (bits_of m c) (bits_of m d) (all_bits m cs) (all_bits m ds) (length_bits m c ∙ sym (length_bits m d)),
    )

-- so the bits say the word
differ_self : (vs : List ℕ) → differ vs vs ≡ 0
unfolding differ
differ_self [] = refl
differ_self (c ∷ cs) = rw (eqb_true c c refl) (omega (arith, differ_self cs))

differ_none : (vs ws : List ℕ) → length vs ≡ length ws → differ vs ws ≡ 0 → vs ≡ ws
unfolding differ
differ_none [] [] l e = refl
differ_none [] (d ∷ ds) l e = absurd (omega arith)
differ_none (c ∷ cs) [] l e = absurd (omega arith)
differ_none (c ∷ cs) (d ∷ ds) l e = ap₂ ◌∷◌ (go (eqb c d) refl e) (differ_none cs ds (suc_inj l) (omega arith))
  where
    go : (x : Bool) → eqb c d ≡ x → cond x 0 1 + differ cs ds ≡ 0 → c ≡ d
    go true f z = eqb→eq c d (to_T f)
    go false f z = absurd (omega arith)

pub word_one : (m : ℕ) (vs ws : List ℕ) → length vs ≡ length ws → Below (2 ^ m) vs → Below (2 ^ m) ws → all_bits m vs ≡ all_bits m ws → vs ≡ ws
word_one m vs ws l f g e = differ_none vs ws l (omega (arith, bits_differ m vs ws l f g, ap (differ (all_bits m vs)) (sym e) ∙ differ_self (all_bits m vs)))
