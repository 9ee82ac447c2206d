-- A mark is right: what a codeword costs more than the least is what it lacks.
-- Assumes nothing.
use Rattle.basics.proofs.Kit.{◌≡◌, sym, ap, ◌∙◌, true, List, ℕ, ◌-◌, ◌*◌, ◌^◌, ◌≤◌, ◌<◌, arith, length, get_or, ℤ, pos, nat_abs, ◌-ℤ◌}
use mir.Syntax.{w32}
use mir.Val.{SFits}
use Rattle.code.specs.declared.shape.Shape.{Shape}
use Rattle.code.specs.Code.{is_codeword}
use Rattle.code.specs.Bits.{row_long}
use Rattle.code.proofs.Promise.{row_small}
use Rattle.code.specs.Within.{WordWithin}
use Rattle.code.proofs.Words.{CodewordParts, codeword_parts}
use Rattle.metric.specs.Metric.{metric, Greatest, Marked}
use Rattle.metric.specs.Row.{row_bound}
use Rattle.metric.specs.Cost.{cost, top, Least}
use Rattle.metric.specs.Within.{WordWith}
use Rattle.metric.proofs.Integers.{minus, same, minus_size}
use Rattle.metric.proofs.Marks.{marked_none_lacking, marked_lacking}
use Rattle.metric.proofs.Costs.{codeword_bits, top_parts, top_own, greatest}
use Rattle.metric.proofs.Bounds.{weight_le, cost_le, word_size}
use Rattle.metric.proofs.Counting.{small_fits}
use Rattle.coset.specs.Coset.{Costs}
use Rattle.search.specs.Within.{word_cost, Own, Layered, Costing, Cheap, LeastLaid}
use Rattle.search.proofs.Sums.{own_cost}
use Rattle.search.proofs.Searching.{n_is, few, cheap, least_is}
use Rattle.marker.specs.Within.{Short, Judged, Lacking}
use Rattle.marker.proofs.Refusals.{MarkTaken}

-- ---- what a codeword costs more than the least
module _ {s : Shape} {row : List ℤ} {word hs zs os : List ℕ} (j : Judged s row word) (b : Layered s row hs zs os) where
  p : CodewordParts s.m s.r word
  p = codeword_parts s.m s.r word j.codeword

  long_is : length word ≡ length hs
  long_is = p.count ∙ sym (n_is j.input b)

  pub own_ok : Own row_bound zs os word
  own_ok = record {
    length_zs = b.layers.length_zs ∙ ap (λ (x : ℕ). x * 4) (sym long_is);
    length_os = b.layers.length_os ∙ ap (λ (x : ℕ). x * 4) (sym long_is);
    cost_zs = λ i k li lk. rw b.top_is at (b.layers.cost_zs i k (omega (arith, long_is)) lk);
    cost_os = λ i k li lk. rw b.top_is at (b.layers.cost_os i k (omega (arith, long_is)) lk);
    room = omega (arith, long_is, few j.input b);
  }

  module _ {t : List ℕ} (c : Costs s.size hs zs os 0 t) where
    costing : Costing s hs zs os (λ x. get_or t x 0)
    costing = record { entries = c.costs }

    pub cheap_ok : Cheap (λ x. get_or t x 0) (length t)
    cheap_ok = cheap j.input b costing c.long

    module _ {places f : List ℕ} {least own : ℕ} (e : LeastLaid s (λ x. get_or t x 0) places f least) (h : own ≡ word_cost zs os 0 word) where
      is_least : Least s.m (is_codeword s.m s.r) row least
      is_least = rw e.least (least_is j.input b costing e.laid)

      own_is : own ≡ cost s.m row word
      own_is = h ∙ own_cost s.m s.numbers.width_is row hs zs os b.costs j.input.length_row word p.count

      pub excess_fits : least ≤ own
      excess_fits = omega (arith, own_is, is_least.all word j.codeword)

      pub excess_ok : Short s.m s.r row word (own - least)
      excess_ok = record { least = least; is_least = is_least; own = omega (arith, own_is, excess_fits) }

module _ {s : Shape} {row : List ℤ} {word : List ℕ} (j : Judged s row word) {x : ℕ} (h : Short s.m s.r row word x) where
  -- small enough to be doubled
  pub excess_small : x < 2 ^ 30
  excess_small = omega (arith, h.own, cost_le s.m row word, weight_le row_bound row j.input.good_row, j.input.length_row, row_small s.m s.numbers.width_is)

  -- twice what it costs more than the least is what its metric lacks of the greatest
  pub excess_lacks : {d : ℤ} → d ≡ pos (2 * x) → Lacking s.m s.r row word d
  excess_lacks e =
      let full = codeword_bits s.m s.r row j.input.length_row in
      let own = cost s.m row word in
      record {
        codeword = j.codeword;
        best = top row h.least;
        greatest = greatest s.m (is_codeword s.m s.r) row full h.least h.is_least;
        lacks =
            rw (e, top_own s.m row word (full word j.codeword))
            (same _ _ (omega (arith, h.own, top_parts row h.least, top_parts row own, minus (top row h.least) (top row own))));
      }

-- the two verdicts on a codeword
module _ {m r : ℕ} {row : List ℤ} {word : List ℕ} {d : ℤ} (l : Lacking m r row word d) where
  pub verdict_best : d ≡ pos 0 → Marked 2 (pos 0) m (is_codeword m r) row word
  verdict_best e = marked_none_lacking m (is_codeword m r) row word l.best l.codeword l.greatest (sym l.lacks ∙ e)

  pub verdict_short : {y : ℤ} → y ≡ d → (d ≡ pos 0 → ⊥) → Marked 1 y m (is_codeword m r) row word
  verdict_short e n = rw (e ∙ l.lacks) (marked_lacking m (is_codeword m r) row word l.best l.codeword l.greatest (λ f. n (l.lacks ∙ f)))

-- ---- an accepted call
module _ (s : Shape) {rs : List ℤ} {ws : List ℕ} {x : ℕ} (t : MarkTaken s.m rs ws x) where
  pub word_in : WordWithin s.m s.r ws
  word_in = record { width = s.numbers.width_is; count = t.long_word; symbols = t.symbols; few = s.numbers.few }

  pub judged : is_codeword s.m s.r ws ≡ true → Judged s rs ws
  judged cw = record { input = record { length_row = t.long_row; good_row = t.good_row }; codeword = cw }

  few_entries : length rs ≤ 60
  few_entries = omega (arith, t.long_row, row_small s.m s.numbers.width_is)

  pub word_with : WordWith s.m rs (length ws)
  unfolding row_long
  word_with = record {
    width = s.numbers.width_is;
    count = t.long_row ∙ ap (λ (n : ℕ). n * s.m) (sym t.long_word);
    few = few_entries;
    good = t.good_row;
  }

  pub lacks_fits : {g : ℤ} → Greatest s.m (is_codeword s.m s.r) rs g → SFits w32 (g -ℤ metric s.m rs ws)
  lacks_fits {g} y =
      let h : nat_abs g ≤ 7620 = rw y.met.2 at (word_size s.m rs y.met.0 few_entries t.good_row) in
      small_fits (g -ℤ metric s.m rs ws) (omega (arith, minus_size g (metric s.m rs ws), word_size s.m rs ws few_entries t.good_row))
