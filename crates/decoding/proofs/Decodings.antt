-- A decoding is right: from the least costs that the search found to metrics.
-- Assumes nothing.
use Rattle.basics.proofs.Kit.{◌≡◌, sym, ap, ◌∙◌, List, ℕ, ◌+◌, ◌*◌, ◌/◌, ◌%◌, ◌≤◌, ◌<◌, arith, length, get_or, ℤ, pos, ◌-ℤ◌}
use mathlib.Core.Path.{subst}
use native.Mathlib.Nat.{div-add-mod', mod-lt, div-lt_iff_lt-mul}
use Rattle.field.proofs.Tests.{widths}
use Rattle.code.specs.declared.shape.Shape.{Shape}
use Rattle.code.specs.Code.{is_codeword}
use Rattle.code.specs.Bits.{row_long}
use Rattle.code.proofs.Promise.{row_small}
use Rattle.metric.specs.Row.{row_bound}
use Rattle.metric.specs.Metric.{Decoded}
use Rattle.metric.specs.Cost.{weight_of, top, LeastWith}
use Rattle.metric.proofs.Costs.{codeword_bits, decoded}
use Rattle.metric.proofs.Bounds.{weight_le, cost_le}
use Rattle.lanes.specs.Lanes.{entry}
use Rattle.softs.specs.Softs.{SoftsWithin, Softened}
use Rattle.search.specs.Within.{Input}
use Rattle.decoding.specs.Within.{BestWord, Softs}

module _ {s : Shape} {row : List ℤ} (z : Input s row) where
  pub row_60 : length row ≤ 60
  row_60 = omega (arith, z.length_row, row_small s.m s.numbers.width_is)

  pub weight_small : weight_of row ≤ 7620
  weight_small = omega (arith, weight_le row_bound row z.good_row, row_60)

  pub least_small : {word : List ℕ} {least : ℕ} → BestWord s row word least → least ≤ 7620
  least_small {word} b = omega (arith, b.costs, cost_le s.m row word, weight_small)

  pub rows_ok : {za oa : List ℕ} {soft : List ℤ} → length za ≡ s.n * 4 → length oa ≡ s.n * 4 → length soft ≡ s.n * s.m → Softs s row za oa → SoftsWithin s.m s.n za oa soft
  rows_ok lz lo ls f = record {
    width = s.numbers.width_is;
    length_zero = lz;
    length_one = lo;
    length_soft = ls;
    small = λ i j li lj. let p = f i j li lj in (omega (arith, p.2), omega (arith, p.3));
  }

  pub decoding : {word : List ℕ} {least : ℕ} → BestWord s row word least → {za oa : List ℕ} → Softs s row za oa →
      {before soft : List ℤ} → length before ≡ s.n * s.m → Softened s.m za oa s.n before soft → {x y : ℤ} {v : ℕ} → x ≡ y → y ≡ pos v -ℤ pos (2 * least) → v ≡ weight_of row →
      Decoded s.m (is_codeword s.m s.r) row word x soft
  unfolding row_long top
  decoding {word} {least} b {za} {oa} f {before} {soft} lb w {x} {y} {v} ex ey ev =
      subst (λ (u : ℤ). Decoded s.m (is_codeword s.m s.r) row word u soft) (sym (ex ∙ ey ∙ ap (λ (u : ℕ). pos u -ℤ pos (2 * least)) ev))
      (decoded s.m (is_codeword s.m s.r) row (codeword_bits s.m s.r row z.length_row) word least soft (λ k. entry za (k / s.m) (k % s.m)) (λ k. entry oa (k / s.m) (k % s.m)) b.codeword b.costs b.is_least b.first
      (w.long ∙ lb ∙ sym row_is) each)
    where
      row_is : length row ≡ s.n * s.m
      row_is = z.length_row ∙ ap (λ (a : ℕ). a * s.m) (sym s.numbers.n_is)

      three : 3 ≤ s.m
      three = widths (λ (m : ℕ). 3 ≤ m) (omega arith) (omega arith) s.m s.numbers.width_is

      each : (k : ℕ) → k < length row →
          LeastWith s.m (is_codeword s.m s.r) row k 0 (entry za (k / s.m) (k % s.m)) × LeastWith s.m (is_codeword s.m s.r) row k 1 (entry oa (k / s.m) (k % s.m))
          × (get_or soft k (pos 0) ≡ pos (2 * entry oa (k / s.m) (k % s.m)) -ℤ pos (2 * entry za (k / s.m) (k % s.m)))
      each k h =
          let hk : k < s.n * s.m = omega (arith, row_is) in
          let li : k / s.m < s.n = (div-lt_iff_lt-mul {k = s.m} (omega (arith, three))).1 hk in
          let lj : k % s.m < s.m = mod-lt k (omega (arith, three)) in
          let p = f (k / s.m) (k % s.m) li lj in
          let d : k / s.m * s.m + k % s.m ≡ k = div-add-mod' k s.m in
          (rw d at p.0, rw d at p.1, rw d at (w.done (k / s.m) (k % s.m) li lj))

-- what was decoded, by the code's number
pub decoded_as : {a b m r : ℕ} {rs : List ℤ} {word : List ℕ} {x y : ℤ} {soft : List ℤ} → a ≡ m → b ≡ r → y ≡ x →
    Decoded a (is_codeword a b) rs word x soft → Decoded m (is_codeword m r) rs word y soft
decoded_as e f g d = rw (← e, ← f, g) d
