-- How long a line is at most: a best metric is not below 0, since it is at least that of the zero word and that of the word of ones, of which one is not.
-- Assumes nothing.
use Rattle.basics.proofs.Kit.{◌≡◌, refl, Bool, true, List, [], ◌∷◌, ℕ, zero, suc, ◌+◌, ◌-◌, ◌*◌, ◌^◌, ◌≤◌, ◌<◌, arith, length, get_or, ℤ, pos, negsuc, nat_abs}
use lib.Dec.{lit<, lit≤}
use lib.ListN.{replicate}
use Rattle.field.specs.Field.{xor, doubled, times_from, times, alpha, width_good}
use Rattle.field.proofs.Tests.{widths}
use Rattle.code.specs.Code.{code_good, width, roots, long, value_from, value_at, vanishes, symbols_good, is_codeword}
use Rattle.code.specs.Bits.{bits_of, all_bits, row_long}
use Rattle.code.proofs.Accepted.{width_fine}
use Rattle.code.proofs.Promise.{codes, few_codes}
use Rattle.metric.specs.Metric.{metric, at_most, Soft, Marked}
use Rattle.metric.specs.Cost.{cost_zero, cost_one, discrepancy, weight_of, cost}
use Rattle.metric.proofs.Integers.{at_most_true, at_most_false, minus, minus_size}
use Rattle.metric.proofs.Bounds.{word_size}
use Rattle.metric.proofs.Costs.{codeword_bits, top_own, top_parts}
use Rattle.sheet.specs.Sheet.{Question, reliabilities}
use Rattle.sheet.proofs.Forms.{row_long_le}
use Rattle.sheet.proofs.Trips.{Good}
use Rattle.text.specs.Text.{signed, shortfall_field, bits_field, least_magnitude}
use Rattle.text.proofs.Decimal.{digits_at_most}
use Rattle.text.proofs.Fields.{bits_length}
use Rattle.text.proofs.Lines.{question_length, signed_at_most, verdict_at_most, least_at_most}
use Rattle.report.specs.Listing.{Line}
use Rattle.report.specs.Calls.{line_most}

-- ---- the zero word and the word of ones are codewords, whose bits are all 0 and all 1
flat : (c b : ℕ) → List ℕ
flat c b = replicate (long (width c)) (b * (2 ^ width c - 1))

record Flat (c b : ℕ) : Type 0 where
  in_code : is_codeword (width c) (roots c) (flat c b) ≡ true
  bits : all_bits (width c) (flat c b) ≡ replicate (row_long (width c)) b

flats : (c : ℕ) → code_good c ≡ true → Flat c 0 × Flat c 1
unfolding flat width roots xor times times_from doubled alpha long row_long bits_of all_bits value_from value_at vanishes symbols_good is_codeword
flats =
    codes (λ c. Flat c 0 × Flat c 1)
    (record { in_code = refl; bits = refl }, record { in_code = refl; bits = refl })
    (record { in_code = refl; bits = refl }, record { in_code = refl; bits = refl })
    (record { in_code = refl; bits = refl }, record { in_code = refl; bits = refl })
    (record { in_code = refl; bits = refl }, record { in_code = refl; bits = refl })
    (record { in_code = refl; bits = refl }, record { in_code = refl; bits = refl })

both_sides : (rs : List ℤ) (k : ℕ) → length rs ≤ k → discrepancy rs (replicate k 0) + discrepancy rs (replicate k 1) ≡ weight_of rs
unfolding discrepancy weight_of
both_sides [] k h = refl
both_sides (r ∷ rs) zero h = absurd (omega arith)
both_sides (r ∷ rs) (suc k) h = let e = both_sides rs k (omega arith) in omega arith

row_some : (m : ℕ) → width_good m ≡ true → 0 < row_long m
unfolding row_long long
row_some = widths (λ m. 0 < row_long m) (lit< tt) (lit< tt)

code_digit : (c : ℕ) → code_good c ≡ true → c < 10
code_digit c g = omega (arith, few_codes c g)

signed_short : (k : ℕ) (z : ℤ) → cost_zero z ≤ cost_one z → nat_abs z < 10 ^ suc k → length (signed z) ≤ suc k
signed_short k (pos n) h l = signed_at_most k (pos n) refl l
signed_short k (negsuc n) h l = absurd (omega arith)

-- ---- a question that a sheet can hold
abbrev among : Question → List ℕ → Bool
among q = is_codeword (width q.code) (roots q.code)

abbrev value : Question → List ℕ → ℤ
value q = metric (width q.code) q.row

module _ {q : Question} (f : Good reliabilities q) where
  row_few : length q.row ≤ 60
  row_few = omega (arith, f.row_length, row_long_le (width q.code) (width_fine q.code))

  sized : (ws : List ℕ) → nat_abs (value q ws) ≤ 7620
  sized ws = word_size (width q.code) q.row ws row_few f.row_fine

  -- a codeword's metric lies at its cost
  parts : (ws : List ℕ) → among q ws ≡ true → cost_one (value q ws) + 2 * cost (width q.code) q.row ws ≡ cost_zero (value q ws) + weight_of q.row
  parts ws h =
      let m = width q.code in
      rw (top_own m q.row ws (codeword_bits m (roots q.code) q.row f.row_length ws h)) (top_parts q.row (cost m q.row ws))

  -- no negative metric is the greatest
  not_negative : (g : ℤ) → ((ws : List ℕ) → among q ws ≡ true → at_most (value q ws) g ≡ true) → cost_zero g ≤ cost_one g
  unfolding cost
  not_negative g all =
      let b = flats q.code f.known in let z = b.0.in_code in let o = b.1.in_code in
      let s : discrepancy q.row (all_bits (width q.code) (flat q.code 0)) + discrepancy q.row (all_bits (width q.code) (flat q.code 1)) ≡ weight_of q.row =
      rw (b.0.bits, b.1.bits) (both_sides q.row (row_long (width q.code)) (omega (arith, f.row_length))) in
      omega (arith, parts _ z, parts _ o, at_most_true _ g (all _ z), at_most_true _ g (all _ o))

  mark_length : (v : ℕ) (d : ℤ) (ws : List ℕ) → Marked v d (width q.code) (among q) q.row ws → length (shortfall_field v d) ≤ 5
  unfolding shortfall_field Marked
  mark_length zero d ws k = lit≤ tt
  mark_length (suc zero) d ws k =
      let j = k.1 in let g = j.0 in let x = value q ws in
      let a : nat_abs g ≤ 7620 = rw (← j.1.met.2) (sized j.1.met.0) in
      signed_short 4 d (rw j.3 (omega (arith, minus g x, at_most_false g x j.2))) (rw j.3 (omega (arith, minus_size g x, sized ws)))
  mark_length (suc (suc zero)) d ws k = rw k.2 (signed_at_most 4 (pos 0) refl (lit< tt))
  mark_length (suc (suc (suc v))) d ws k = absurd k

  soft_size : (s : ℤ) (b : ℕ) → Soft (width q.code) (among q) q.row b s → nat_abs s ≤ 15240
  soft_size s b o =
      let x : nat_abs o.of_zero ≤ 7620 = rw o.greatest_zero.met.3 at (sized o.greatest_zero.met.0) in
      let y : nat_abs o.of_one ≤ 7620 = rw o.greatest_one.met.3 at (sized o.greatest_one.met.0) in
      rw o.difference (omega (arith, minus_size o.of_zero o.of_one))

  -- the length of its line
  pub line_fits : {t : List ℕ} → Line q t → length t ≤ line_most
  unfolding line_most
  line_fits l =
      let g = l.best in let so = l.soft in let p = l.decoded in
      let a : nat_abs g ≤ 7620 = rw p.own (sized l.word) in
      let o = p.softly 0 (omega (arith, row_some (width q.code) (width_fine q.code), f.row_length)) in
      let m : least_magnitude so < 10 ^ 5 = omega (arith, least_at_most so 15240 (soft_size (get_or so 0 (pos 0)) 0 o)) in
      rw l.text_is
      (omega (
        arith,
        question_length q.number q.code g l.verdict l.shortfall (bits_field so) (least_magnitude so),
        digits_at_most 7 q.number (omega (arith, f.small)),
        digits_at_most 0 q.code (code_digit q.code f.known),
        signed_short 3 g (not_negative g p.most) (omega arith),
        verdict_at_most l.verdict,
        mark_length l.verdict l.shortfall q.word l.marked,
        bits_length so,
        p.count,
        row_few,
        digits_at_most 4 (least_magnitude so) m,
      ))
