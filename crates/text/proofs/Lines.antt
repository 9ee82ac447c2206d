-- A question's line is the parts in which it is written, and every line has a bounded length.
-- Assumes nothing.
use Rattle.basics.proofs.Kit.{◌≡◌, List, [], ◌∷◌, ◌++◌, ℕ, zero, suc, ◌+◌, ◌^◌, ◌≤◌, ◌<◌, min, arith, length, get_or, ℤ, pos, negsuc, nat_abs}
use mathlib.Core.List.{append_assoc}
use lib.Dec.{lit≤}
use lib.ListN.{length-append}
use Rattle.metric.specs.Cost.{cost_zero, cost_one}
use Rattle.metric.specs.Metric.{is_neg}
use Rattle.text.specs.Text.{feed, space, decimal, sign, signed, line, none_word, short_word, best_word, question_word, refused_word, verdict_field, shortfall_field, least_from, least_magnitude, question_line, count_line, refused_line}
use Rattle.text.specs.Within.{ended, mark_part}
use Rattle.text.proofs.Decimal.{digits_at_most}

-- a question's line in the parts in which it is written
abbrev pub parts : (number code : ℕ) → (best : ℤ) → (verdict : ℕ) → (shortfall : ℤ) → (bits : List ℕ) → (least : ℕ) → List ℕ
parts n c g v d bs x =
    ended (decimal n) space ++ (ended (decimal c) space ++ (ended (signed g) space ++ (mark_part v d ++ (bs ++ ((space ∷ []) ++ ended (decimal x) feed)))))

pub question_parts : (n c : ℕ) (g : ℤ) (v : ℕ) (d : ℤ) (bs : List ℕ) (x : ℕ) → question_line n c g v d bs x ≡ parts n c g v d bs x
unfolding ended mark_part question_line line
question_parts n c g v d bs x = simp append_assoc

-- ---- lengths
pub question_length :
    (n c : ℕ) (g : ℤ) (v : ℕ) (d : ℤ) (bs : List ℕ) (x : ℕ) →
    length (question_line n c g v d bs x)
    ≡ length (decimal n) + suc (length (decimal c) + suc (length (signed g) + suc (length (verdict_field v)
    + suc (length (shortfall_field v d) + suc (length bs + suc (length (decimal x) + 1))))))
unfolding question_line line
question_length n c g v d bs x = simp length-append

pub count_length : (n : ℕ) → length (count_line n) ≡ length (decimal n) + 11
unfolding count_line line question_word
count_length n = simp length-append

pub refused_length : (e : ℕ) → length (refused_line e) ≡ 8 + (length (decimal e) + 1)
unfolding refused_line line refused_word
refused_length e = omega (arith, length-append (decimal e) (feed ∷ []))

-- a number below a power of ten that is not negative
pub signed_at_most : (k : ℕ) (z : ℤ) → cost_zero z ≡ 0 → cost_one z < 10 ^ suc k → length (signed z) ≤ suc k
unfolding signed sign is_neg
signed_at_most k (pos n) e h = digits_at_most k n h
signed_at_most k (negsuc n) e h = absurd (omega arith)

pub verdict_at_most : (v : ℕ) → length (verdict_field v) ≤ 5
unfolding verdict_field none_word short_word best_word
verdict_at_most zero = lit≤ tt
verdict_at_most (suc zero) = lit≤ tt
verdict_at_most (suc (suc v)) = lit≤ tt

-- the least magnitude is at most the first
least_le : (d : ℕ) (so : List ℤ) → least_from d so ≤ d
unfolding least_from
least_le d [] = omega arith
least_le d (s ∷ so) = omega (arith, least_le (min d (nat_abs s)) so)

pub least_at_most : (so : List ℤ) (k : ℕ) → nat_abs (get_or so 0 (pos 0)) ≤ k → least_magnitude so ≤ k
unfolding least_magnitude
least_at_most [] k h = omega arith
least_at_most (s ∷ so) k h = omega (arith, least_le (nat_abs s) so)
