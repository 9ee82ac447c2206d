-- The tables of an accepted row: what is asked of the buffers, and that columns and costs are those of the row.
-- Assumes nothing.
use Rattle.basics.proofs.Kit.{◌≡◌, refl, sym, ap, ◌∙◌, Bool, true, false, cond, List, ℕ, suc, ◌+◌, ◌-◌, ◌*◌, ◌^◌, ◌≤◌, arith, length, get_or, ltb, ℤ, pos}
use Rattle.code.specs.declared.shape.Shape.{Shape}
use Rattle.code.specs.Code.{long, syndrome_long}
use Rattle.code.specs.Bits.{row_long}
use Rattle.tails.specs.Tails.{columns}
use Rattle.metric.specs.Row.{row_bound}
use Rattle.metric.specs.Cost.{cost_zero, cost_one}
use Rattle.metric.proofs.Bounds.{row_at, costs_le}
use Rattle.metric.specs.Scratch.{scratch_long}
use Rattle.coset.specs.Coset.{Layers, Room}
use Rattle.bridge.specs.Bridge.{reliability, Costed}
use Rattle.search.specs.Within.{CostsWithin, Input, Layered}
use Rattle.tails.proofs.Codewords.{columns_long}
use Rattle.search.proofs.Heads as H
use Rattle.search.proofs.Prepared.{long_le}

module _ {s : Shape} {row : List ℤ} (z : Input s row) where
  short : s.n ≤ 15
  short = rw s.numbers.n_is (long_le s.m s.numbers.width_is)

  row_is : length row ≡ s.n * s.m
  unfolding row_long
  row_is = z.length_row ∙ ap (λ (k : ℕ). k * s.m) (sym s.numbers.n_is)

  -- what the entries cost
  small : (i j : ℕ) → cost_zero (reliability s.m row i j) + cost_one (reliability s.m row i j) ≤ row_bound
  small i j = go (ltb j s.m)
    where
      go : (b : Bool) → cost_zero (cond b (get_or row (i * s.m + j) (pos 0)) (pos 0)) + cost_one (cond b (get_or row (i * s.m + j) (pos 0)) (pos 0)) ≤ row_bound
      go true = costs_le row_bound _ (row_at row_bound row (i * s.m + j) z.good_row)
      go false = omega arith

  size_is : s.size ≡ 2 ^ syndrome_long s.m s.r
  size_is = s.numbers.size_is ∙ ap (λ (q : ℕ). 2 ^ q) s.numbers.q_is

  module _ {zs os : List ℕ} (lz : length zs ≡ s.n * 4) (lo : length os ≡ s.n * 4) where
    pub costs_ok : CostsWithin s.m s.n row zs os
    costs_ok = record { width = s.numbers.width_is; few = short; length_row = row_is; length_zs = lz; length_os = lo }

    -- after the costs are written
    module _ {hs : List ℕ} (h : hs ≡ columns s.m s.r) (k : Costed s.m s.n row zs os) where
      many : length hs ≡ long s.m
      many = ap length h ∙ columns_long s.m s.r s.numbers.accepted_is

      same_n : length hs ≡ s.n
      same_n = many ∙ sym s.numbers.n_is

      at : (i : ℕ) → get_or hs i 0 ≡ get_or (columns s.m s.r) i 0
      at i = ap (λ (x : List ℕ). get_or x i 0) h

      pub layers_ok : Layers s.q s.size hs zs os
      layers_ok = record {
        top = row_bound;
        some = rw s.numbers.q_is (H.some_bits s.m s.r s.numbers.accepted_is);
        fits = omega (arith, s.numbers.q_is, many, H.head_there s.m s.r s.numbers.accepted_is);
        few = omega (arith, same_n, short);
        size_is = s.numbers.size_is;
        length_zs = lz ∙ ap (λ (x : ℕ). x * 4) (sym same_n);
        length_os = lo ∙ ap (λ (x : ℕ). x * 4) (sym same_n);
        inside = λ i l. rw (at i, size_is) (H.column_in s.m s.r s.numbers.accepted_is i (omega (arith, many)));
        heads = λ i l. rw (at i) (H.column_some s.m s.r s.numbers.accepted_is i (omega (arith, many)));
        tails = λ i l. at (length hs - suc i) ∙ ap (λ (x : ℕ). get_or (columns s.m s.r) (x - suc i) 0) many ∙ H.column_unit s.m s.r s.numbers.accepted_is i (omega (arith, s.numbers.q_is));
        cost_zs = λ i j l lj. omega (arith, k.zeros i j (omega (arith, same_n)) lj, small i j);
        cost_os = λ i j l lj. omega (arith, k.ones i j (omega (arith, same_n)) lj, small i j);
        room = omega (arith, same_n, short);
      }

      pub layered : Layered s row hs zs os
      unfolding layers_ok
      layered = record { headed = h; costs = rw s.numbers.n_is at k; layers = layers_ok; top_is = refl }

      pub room_ok : {t g : List ℕ} {kept : List ℤ} → length t ≡ s.size * 4 → length g ≡ s.size * 4 → length kept ≡ scratch_long → Room s.q s.size hs t g kept
      room_ok lt lg lk = record {
        length_t = lt;
        length_g = lg;
        length_kept = rw (many, s.numbers.q_is, size_is, lk) (H.kept_in s.m s.r s.numbers.accepted_is);
      }
