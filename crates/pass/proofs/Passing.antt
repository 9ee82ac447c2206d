-- The soft pass: from the front the table is carried past the heads, each met with the table behind it; with the costs of the tails added, the halves of
-- the table are what the next column has with a 0 and with a 1, and the less of them is the table behind it.
-- Assumes nothing.
use Rattle.basics.proofs.Kit.{◌≡◌, refl, sym, ap, ap₂, ◌∙◌, List, ℕ, zero, suc, ◌+◌, ◌-◌, ◌*◌, ◌/◌, ◌^◌, ◌≤◌, ◌<◌, arith, length, get_or, ℤ}
use mathlib.Core.Path.{subst}
use native.Mathlib.Nat.{two-pow-succ, suc-mul, add-mul, mul-le-mul_right}
use native.Mathlib.Numerals.{add-one}
use Rattle.field.specs.Field.{xor}
use Rattle.field.proofs.Xor as X
use Rattle.lanes.specs.Lanes.{entry, lanes, row, put}
use Rattle.lanes.proofs.Rows.{lanes_at, row_at}
use Rattle.rows.specs.Rows.{Small}
use Rattle.trellis.specs.Trellis.{Columns, step, only, back, fore, final, least_of, holding, meet}
use Rattle.trellis.specs.Rows.{column, front, layer}
use Rattle.trellis.proofs.Least.{least_same}
use Rattle.coset.specs.Coset.{none, least, Fit, Layers, Costs, Freed}
use Rattle.coset.proofs.Pairs.{powers, over}
use Rattle.coset.proofs.Columns.{high_bit}
use Rattle.coset.proofs.Fitting.{topped}
use Rattle.coset.proofs.Least.{Tail, tail_at, tail_zero, tail_one, least_le}
use Rattle.pass.specs.Pass.{Advance, lowest, met, Pass}
use Rattle.pass.specs.Steps.{Fold, Add, Made, laid}
use Rattle.pass.proofs.Adjoint.{held}
use Rattle.pass.proofs.Lowest.{least_cut}
use Rattle.pass.proofs.Rows.{made_none, made_more}

-- the table before column i in layer j, and the number of column i for the bit v
abbrev before : (a hs zs os : List ℕ) → (i j s : ℕ) → ℕ
before a hs zs os i j s = fore (layer hs zs os j) (front a j) i s

abbrev number : (size cap : ℕ) → (a hs zs os : List ℕ) → (v i j : ℕ) → ℕ
number size cap a hs zs os v i j = meet cap size (front a j) (back (holding i v) (layer hs zs os j) (final none) 0 (length hs))

-- the number of a column written
write_more : {rule : ℕ → ℕ → ℕ} {i n : ℕ} {out₀ out out' : List ℕ} → Made rule i out₀ out → i < n → length out₀ ≡ n * 4 → (f : ℕ → ℕ) → out' ≡ put out i (lanes f) → ((j : ℕ) → j < 4 → f j ≡ rule i j) →
    Made rule (i + 1) out₀ out'
write_more m l e f p h = rw p (made_more m (lanes f) refl (omega arith) (λ j lj. lanes_at f j lj ∙ h j lj))

-- THE HEADS: a is the table before column i, and where a head is passed g is the table behind it
pub record Heads (q size cap : ℕ) (a₀ hs zs os zero₀ one₀ : List ℕ) (i : ℕ) (a g zero one : List ℕ) : Type 0 where
  pub inside : i ≤ length hs - q
  pub long_a : length a ≡ size * 4
  pub here : (s j : ℕ) → s < size → j < 4 → entry a s j ≡ before a₀ hs zs os i j s
  pub long_g : length g ≡ size * 4
  pub behind : 0 < i → Costs size hs zs os i g
  pub done_0 : Made (number size cap a₀ hs zs os 0) i zero₀ zero
  pub done_1 : Made (number size cap a₀ hs zs os 1) i one₀ one

-- THE TAIL: the rows below half are the table before column i with the costs from there on
pub record Tails (q size cap : ℕ) (a₀ hs zs os zero₀ one₀ : List ℕ) (i half : ℕ) (a zero one : List ℕ) : Type 0 where
  pub from : length hs - q ≤ i
  pub inside : i ≤ length hs
  pub half_is : half ≡ 2 ^ (length hs - i)
  pub long_a : length a ≡ size * 4
  pub here : (s j : ℕ) → s < half → j < 4 → entry a s j ≡ before a₀ hs zs os i j s + least hs zs os i j s
  pub done_0 : Made (number size cap a₀ hs zs os 0) i zero₀ zero
  pub done_1 : Made (number size cap a₀ hs zs os 1) i one₀ one

-- from the front, no table exceeds the first by more than the costs of its columns
fore_le : (col : Columns) (g : ℕ → ℕ) (cap top size : ℕ) → ((s : ℕ) → s < size → g s ≤ cap) → (i s : ℕ) → s < size → ((p : ℕ) → p < i → (col p).c0 ≤ top) → fore col g i s ≤ cap + i * top
unfolding fore step
fore_le col g cap top size b zero s l h = omega (arith, b s l)
fore_le col g cap top size b (suc i) s l h = omega (arith, fore_le col g cap top size b i s l (λ p u. h p (omega arith)), h i (omega arith), suc-mul i top)

module _ {q size cap : ℕ} {a₀ g₀ hs zs os : List ℕ} {kept : List ℤ} {zero₀ one₀ : List ℕ} (fit : Fit q size hs zs os)
    (w : Pass q size cap a₀ g₀ hs zs os kept zero₀ one₀) where
  abbrev n : ℕ
  n = length hs

  abbrev y : Layers q size hs zs os
  y = topped fit w.top w.cost_zs w.cost_os (omega (arith, w.cap_small))

  -- the cap and the costs of all columns are small
  tops : (i d : ℕ) → i + d ≤ n → cap + (i * w.top + d * w.top) < 2 ^ 15
  tops i d l = omega (arith, add-mul i d w.top, mul-le-mul_right w.top l, w.cap_small)

  before_le : (i s j : ℕ) → i ≤ n → s < size → j < 4 → before a₀ hs zs os i j s ≤ cap + i * w.top
  before_le i s j l ls lj = fore_le (layer hs zs os j) (front a₀ j) cap w.top size (λ s ls. w.start s j ls lj) i s ls (λ p u. y.cost_zs p j (omega arith) lj)

  -- what the calls ask of a column's costs and of the outputs
  pub narrow_asks : {i : ℕ} (t : List ℕ) → length t ≡ n * 4 → ((i j : ℕ) → i < n → j < 4 → entry t i j ≤ w.top) → i < n → (i * 4 + 4 ≤ length t) × Small (2 ^ 16) (row t i)
  narrow_asks {i} t e h l = (omega arith, λ j lj. omega (arith, row_at t i j lj, h i j l lj, tops 0 1 (omega arith)))

  -- column i with the bit v, from the front and from the back
  held_at : (v i j : ℕ) → i < n →
      least_of (λ s. step (only v) (layer hs zs os j i) (before a₀ hs zs os i j) s + least hs zs os (suc i) j s) cap size ≡ number size cap a₀ hs zs os v i j
  held_at v i j l =
      subst
      (λ (m : ℕ).
      least_of (λ s. step (only v) (layer hs zs os j i) (before a₀ hs zs os i j) s + least hs zs os (suc i) j s) cap m
      ≡ number m cap a₀ hs zs os v i j) (sym y.size_is)
      (held q cap n (layer hs zs os j) (λ k lk. omega (arith, y.inside k lk, y.size_is)) (front a₀ j) i (n - suc i) v (final none) (omega arith))

  pub heads_start : Heads q size cap a₀ hs zs os zero₀ one₀ 0 a₀ g₀ zero₀ one₀
  unfolding fore
  heads_start = record {
    inside = omega arith;
    long_a = w.length_a;
    here = λ s j ls lj. refl;
    long_g = w.length_g;
    behind = λ p. absurd (omega arith);
    done_0 = made_none;
    done_1 = made_none;
  }

  -- A HEAD
  module _ {i : ℕ} {a g zeros ones : List ℕ} (f : Heads q size cap a₀ hs zs os zero₀ one₀ i a g zeros ones) (l : i < n - q) where
    pub head_in : i < n
    head_in = omega arith

    abbrev h : ℕ
    h = get_or hs i 0

    wide : (v : ℕ) → v < size → xor v h < size
    wide = over q size h y.size_is (y.inside i head_in)

    module _ {g' : List ℕ} (b : Costs size hs zs os (suc i) g') where
      behind_le : (s j : ℕ) → s < size → j < 4 → entry g' s j ≤ (n - suc i) * w.top
      behind_le s j ls lj =
          let d : ℕ = n - suc i in
          let e : n - d ≡ suc i = omega arith in
          omega (arith, b.costs s j ls lj, least_le y lj d s (omega arith) (omega arith) ls, ap (λ (x : ℕ). least hs zs os x j s) e)

      -- a table before, a cost and a table behind
      room : (c s u j : ℕ) → c ≤ w.top → s < size → u < size → j < 4 → entry a s j + c + entry g' u j < 2 ^ 15
      room c s u j lc ls lu lj =
          let k : ℕ = n - suc i in
          omega (arith, f.here s j ls lj, before_le i s j (omega arith) ls lj, behind_le u j lu lj, tops i (suc k) (omega arith), suc-mul k w.top)

      pub head_asks : Advance q size h a g' (row zs i) (row os i)
      head_asks = record {
        size_is = y.size_is;
        inside = y.inside i head_in;
        some = y.heads i head_in;
        length_a = f.long_a;
        length_t = b.long;
        room_z = λ s u j ls lu lj. rw (row_at zs i j lj) (room (entry zs i j) s u j (y.cost_zs i j head_in lj) ls lu lj);
        room_o = λ s u j ls lu lj. rw (row_at os i j lj) (room (entry os i j) s u j (y.cost_os i j head_in lj) ls lu lj);
      }

      met_is : (v j : ℕ) → v < 2 → j < 4 → met size h cap a g' (row zs i) (row os i) v j ≡ number size cap a₀ hs zs os v i j
      unfolding step
      met_is v j lv lj =
          least_same (λ s. step (only v) (column h (row zs i) (row os i) j) (front a j) s + entry g' s j)
          (λ s. step (only v) (layer hs zs os j i) (before a₀ hs zs os i j) s + least hs zs os (suc i) j s) cap size
          (λ s ls. ap₂ (λ (x y : ℕ). x + y) (same v lv s ls) (b.costs s j ls lj))
          ∙ held_at v i j head_in
        where
          same : (v : ℕ) → v < 2 → (s : ℕ) → s < size → step (only v) (column h (row zs i) (row os i) j) (front a j) s ≡ step (only v) (layer hs zs os j i) (before a₀ hs zs os i j) s
          same zero lv s ls =
              let x : xor s 0 < size = rw (X.zero_r s) ls in
              ap₂ (λ (x y : ℕ). x + y) (f.here (xor s 0) j x lj) (row_at zs i j lj)
          same (suc zero) lv s ls = ap₂ (λ (x y : ℕ). x + y) (f.here (xor s h) j (wide s ls) lj) (row_at os i j lj)
          same (suc (suc v)) lv s ls = absurd (omega arith)

      pub heads_more : {a' zeros' ones' : List ℕ} → Freed size h a (row zs i) (row os i) a' → zeros' ≡ put zeros i (lanes (met size h cap a g' (row zs i) (row os i) 0)) →
          ones' ≡ put ones i (lanes (met size h cap a g' (row zs i) (row os i) 1)) → Heads q size cap a₀ hs zs os zero₀ one₀ (i + 1) a' g' zeros' ones'
      unfolding fore step
      heads_more r ez eo = record {
        inside = omega arith;
        long_a = r.long ∙ f.long_a;
        here = λ s j ls lj.
            rw (add-one i) (r.made s j ls lj ∙ omega (arith, row_at zs i j lj, row_at os i j lj, f.here s j ls lj, f.here (xor s h) j (wide s ls) lj));
        long_g = b.long;
        behind = λ p. rw (add-one i) b;
        done_0 = write_more f.done_0 head_in w.length_zero (met size h cap a g' (row zs i) (row os i) 0) ez (λ j lj. met_is 0 j (omega arith) lj);
        done_1 = write_more f.done_1 head_in w.length_one (met size h cap a g' (row zs i) (row os i) 1) eo (λ j lj. met_is 1 j (omega arith) lj);
      }

  -- THE COSTS OF THE TAILS ADDED
  module _ {i : ℕ} {a g zeros ones : List ℕ} (f : Heads q size cap a₀ hs zs os zero₀ one₀ i a g zeros ones) (l : n - q ≤ i) where
    costs : Costs size hs zs os i g
    costs = f.behind (omega (arith, w.head))

    pub add_asks : Add size a g
    add_asks = record {
      even =
          let e : q ≡ suc (q - 1) = omega (arith, y.some) in
          omega (arith, y.size_is, ap (λ (x : ℕ). 2 ^ x) e, two-pow-succ (q - 1));
      length_a = omega (arith, f.long_a);
      length_g = omega (arith, f.long_g);
      room = λ s j ls lj.
          let e : n - (n - i) ≡ i = omega (arith, f.inside) in
          omega (
            arith,
            f.here s j ls lj,
            before_le i s j (omega (arith, f.inside)) ls lj,
            costs.costs s j ls lj,
            least_le y lj (n - i) s (omega (arith, f.inside, y.fits)) (omega arith) ls,
            ap (λ (x : ℕ). least hs zs os x j s) e,
            tops i (n - i) (omega (arith, f.inside)),
          );
    }

  -- A COLUMN OF THE TAIL
  module _ {i half : ℕ} {a zeros ones : List ℕ} (f : Tails q size cap a₀ hs zs os zero₀ one₀ i half a zeros ones) (l : i < n) where
    abbrev k : ℕ
    k = n - suc i

    here_is : i ≡ n - suc k
    here_is = omega arith

    next_is : suc i ≡ n - k
    next_is = omega arith

    lk : k < q
    lk = omega (arith, f.from, y.fits)

    pub halves : half / 2 ≡ 2 ^ k
    halves = let e : n - i ≡ suc k = omega arith in omega (arith, f.half_is, ap (λ (x : ℕ). 2 ^ x) e, two-pow-succ k)

    twice : half ≡ 2 ^ k + 2 ^ k
    twice = let e : n - i ≡ suc k = omega arith in omega (arith, f.half_is, ap (λ (x : ℕ). 2 ^ x) e, two-pow-succ k)

    half_in : 2 ^ k + 2 ^ k ≤ size
    half_in = omega (arith, two-pow-succ k, powers (suc k) q lk, y.size_is)

    module _ {j : ℕ} (lj : j < 4) where
      tail : Tail hs zs os w.top j k
      tail = tail_at y lj k (omega (arith, lk))

      with_0 : (s : ℕ) → s < 2 ^ k → entry a s j ≡ before a₀ hs zs os i j s + entry zs i j + least hs zs os (suc i) j s
      with_0 s ls =
          omega (
            arith,
            f.here s j (omega (arith, twice)) lj,
            tail_zero y lj lk tail s ls,
            ap (λ (x : ℕ). least hs zs os x j s) here_is,
            ap (λ (x : ℕ). least hs zs os x j s) next_is,
            ap (λ (x : ℕ). entry zs x j) here_is,
          )

      with_1 : (s : ℕ) → s < 2 ^ k → entry a (2 ^ k + s) j ≡ before a₀ hs zs os i j (xor s (get_or hs i 0)) + entry os i j + least hs zs os (suc i) j s
      with_1 s ls =
          omega (
            arith,
            f.here (2 ^ k + s) j (omega (arith, twice)) lj,
            tail_one y lj lk tail s ls,
            ap (λ (x : ℕ). least hs zs os x j (2 ^ k + s)) here_is,
            ap (λ (x : ℕ). least hs zs os x j s) next_is,
            ap (λ (x : ℕ). entry os x j) here_is,
            ap (before a₀ hs zs os i j) (ap (xor s) (ap (λ (x : ℕ). get_or hs x 0) here_is ∙ y.tails k lk) ∙ high_bit k s ls),
          )

      -- behind the column there is no way from 2^k on
      cut : (v : ℕ) → least_of (λ s. step (only v) (layer hs zs os j i) (before a₀ hs zs os i j) s + least hs zs os (suc i) j s) cap (2 ^ k) ≡ number size cap a₀ hs zs os v i j
      cut v =
          let e : 2 ^ k + (size - 2 ^ k) ≡ size = omega (arith, half_in) in
          let F : ℕ → ℕ = λ s. step (only v) (layer hs zs os j i) (before a₀ hs zs os i j) s + least hs zs os (suc i) j s in
          sym (least_cut F cap (2 ^ k) (size - 2 ^ k) (λ s ls. omega (arith, tail.far s ls, ap (λ (x : ℕ). least hs zs os x j s) next_is, w.cap_small)))
          ∙ ap (least_of F cap) e
          ∙ held_at v i j l

      number_0 : least_of (λ s. entry a s j) cap (2 ^ k) ≡ number size cap a₀ hs zs os 0 i j
      unfolding step
      number_0 =
          least_same (λ s. entry a s j) (λ s. step (only 0) (layer hs zs os j i) (before a₀ hs zs os i j) s + least hs zs os (suc i) j s) cap (2 ^ k)
          (λ s ls. with_0 s ls ∙ ap (λ (x : ℕ). before a₀ hs zs os i j x + entry zs i j + least hs zs os (suc i) j s) (sym (X.zero_r s)))
          ∙ cut 0

      number_1 : least_of (λ s. entry a (2 ^ k + s) j) cap (2 ^ k) ≡ number size cap a₀ hs zs os 1 i j
      unfolding step
      number_1 =
          least_same (λ s. entry a (2 ^ k + s) j) (λ s. step (only 1) (layer hs zs os j i) (before a₀ hs zs os i j) s + least hs zs os (suc i) j s) cap (2 ^ k)
          with_1
          ∙ cut 1

    pub fold_asks : Fold (half / 2) a
    fold_asks = rw halves record {
      inside = omega (arith, f.long_a, half_in);
    }

    pub tails_more : {a' zeros' ones' : List ℕ} → Made (laid (half / 2) a) (half / 2) a a' → zeros' ≡ put zeros i (lanes (lowest cap (half / 2) (entry a))) →
        ones' ≡ put ones i (lanes (lowest cap (half / 2) (λ s. entry a (half / 2 + s)))) → Tails q size cap a₀ hs zs os zero₀ one₀ (i + 1) (half / 2) a' zeros' ones'
    unfolding fore step
    tails_more {a'} r' ez eo =
        let r : Made (laid (2 ^ k) a) (2 ^ k) a a' = rw halves at r' in
        let e : n - (i + 1) ≡ k = omega arith in
        record {
          from = omega (arith, f.from);
          inside = omega arith;
          half_is = rw e halves;
          long_a = r.long ∙ f.long_a;
          here = λ s j ls lj.
              let ls' : s < 2 ^ k = omega (arith, halves) in
              rw (add-one i) (r.made s j ls' lj ∙ omega (arith, with_0 lj s ls', with_1 lj s ls'));
          done_0 = write_more f.done_0 l w.length_zero (lowest cap (2 ^ k) (entry a)) (rw halves at ez) (λ j lj. number_0 lj);
          done_1 = write_more f.done_1 l w.length_one (lowest cap (2 ^ k) (λ s. entry a (2 ^ k + s))) (rw halves at eo) (λ j lj. number_1 lj);
        }
