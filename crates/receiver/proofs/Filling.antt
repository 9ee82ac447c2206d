-- A row filled symbol by symbol: what stands before place b, with the row of the symbols that are left, is the whole row.
-- Assumes nothing.
use Rattle.basics.proofs.Kit.{◌≡◌, refl, sym, ap, ◌∙◌, false, ◌||◌, List, [], ◌++◌, ℕ, ◌+◌, ◌-◌, ◌≤◌, ◌<◌, arith, length, get_or, take, drop, ℤ}
use mathlib.Core.List.{append-nil, append_assoc}
use native.Mathlib.Nat.{zero-add}
use native.Mathlib.Numerals.{add-one}
use lib.ListN.{length-append, length-drop, drop_of_length-le}
use lib.Seq.{drop-cons, drop-drop, take_at, take_all, length-take-le}
use lib.Ieee.{Float, is_nan}
use Rattle.quantiser.specs.Calls.{has_nan}
use Rattle.quantiser.proofs.Samples.{neither}
use Rattle.code.proofs.Parts.{tail_is, put_tail}
use Rattle.receiver.specs.declared.Pair.{Pair}
use Rattle.receiver.specs.declared.Received.{Received}
use Rattle.receiver.specs.declared.Received.TheVariants.{Single, Paired}
use Rattle.receiver.specs.Receive.{symbol, taken, total, received, reliabilities_of, received_row}
use Rattle.receiver.specs.Within.{held, SymbolWithin, PutSays, RowWithin}
use Rattle.receiver.proofs.Symbols.{total_next, symbol_numbers}

-- the samples of a symbol that is known
pub single_number : (s : Received) (x : Float) → s ≡ Single x → has_nan (held s) ≡ false → is_nan x ≡ false
unfolding held has_nan
single_number s x e n = (neither (is_nan x) false (rw e at n)).0

pub in_phase_number : (s : Received) (p : Pair) → s ≡ Paired p → has_nan (held s) ≡ false → is_nan p.in_phase ≡ false
unfolding held has_nan
in_phase_number s p e n = (neither (is_nan p.in_phase) (is_nan p.quadrature || false) (rw e at n)).0

pub quadrature_number : (s : Received) (p : Pair) → s ≡ Paired p → has_nan (held s) ≡ false → is_nan p.quadrature ≡ false
unfolding held has_nan
quadrature_number s p e n = (neither (is_nan p.quadrature) false (neither (is_nan p.in_phase) (is_nan p.quadrature || false) (rw e at n)).1).0

module _ (ks : List ℕ) (xs : List Float) where
  -- the row of the symbols from kind i and from sample at on
  abbrev pub rest : (i at : ℕ) → List ℤ
  rest i at = received_row (received (drop i ks) (drop at xs))

  pub record Filled (row : List ℤ) (i at b : ℕ) : Type 0 where
    pub within : i ≤ length ks
    pub spent : at + total taken (drop i ks) ≡ length xs
    pub numbers : has_nan (drop at xs) ≡ false
    pub long : b + length (rest i at) ≡ length row
    pub holds : take b row ++ rest i at ≡ received_row (received ks xs)

  pub begin : (row : List ℤ) → RowWithin ks xs (length row) → Filled row 0 0 0
  begin row z = record { within = omega arith; spent = zero-add _ ∙ z.spent; numbers = z.numbers; long = zero-add _ ∙ z.filled; holds = refl }

  module _ {row : List ℤ} {i at b : ℕ} (f : Filled row i at b) where
    -- nothing is left
    pub ended : length ks ≤ i → row ≡ received_row (received ks xs)
    unfolding received received_row
    ended h =
        let none : rest i at ≡ [] = ap (λ (l : List ℕ). received_row (received l (drop at xs))) (drop_of_length-le ks h) in
        let full : length row ≤ b = omega (arith, f.long, ap length none) in
        sym (take_all b row full) ∙ sym (append-nil (take b row)) ∙ ap (◌++◌ (take b row)) (sym none) ∙ f.holds

    module _ (h : i < length ks) where
      abbrev kind : ℕ
      kind = get_or ks i 0

      abbrev now_received : Received
      now_received = symbol kind (drop at xs)

      pub enough : taken kind ≤ length (drop at xs)
      enough = omega (arith, f.spent, total_next taken ks i h, length-drop at xs)

      rest_next : rest i at ≡ reliabilities_of now_received ++ rest (i + 1) (at + taken kind)
      unfolding received received_row
      rest_next = rw (drop-cons ks i 0 h, drop-drop, add-one)

      abbrev part_now : List ℤ
      part_now = reliabilities_of now_received

      both : length (rest i at) ≡ length part_now + length (rest (i + 1) (at + taken kind))
      both = ap length rest_next ∙ length-append part_now (rest (i + 1) (at + taken kind))

      -- neither the samples nor the row run out
      pub samples_inside : at + taken kind ≤ length xs
      samples_inside = omega (arith, f.spent, total_next taken ks i h)

      row_inside : b + length part_now ≤ length row
      row_inside = omega (arith, f.long, both)

      pub fits : SymbolWithin now_received (length (drop b row))
      fits = record { numbers = (symbol_numbers kind (drop at xs) enough f.numbers).0; room = omega (arith, row_inside, length-drop b row) }

      filled : Filled (take b row ++ (part_now ++ drop (length part_now) (drop b row))) (i + 1) (at + taken kind) (b + length part_now)
      filled =
          let on = rest (i + 1) (at + taken kind) in
          let front : length (take b row ++ part_now) ≡ b + length part_now =
          length-append (take b row) part_now ∙ ap (λ (n : ℕ). n + length part_now) (length-take-le b row (omega (arith, f.long))) in
          rw (← append_assoc (take b row) part_now (drop (length part_now) (drop b row)))
          (record {
            within = omega arith;
            spent = omega (arith, f.spent, total_next taken ks i h);
            numbers = rw drop-drop at (symbol_numbers kind (drop at xs) enough f.numbers).1;
            long = sym (length-append (take b row ++ part_now) _ ∙ simp (front, length-drop) (omega (arith, f.long, both)));
            holds = rw (take_at (take b row ++ part_now) _ (b + length part_now) front)
                (append_assoc (take b row) part_now on ∙ ap (◌++◌ (take b row)) (sym rest_next) ∙ f.holds);
          })

      -- a turn: the symbol of the samples from sample at on is put to the row from place b on
      module _ {s : Received} (e : s ≡ symbol kind (take (length xs - at) (drop at xs))) where
        symbol_is : s ≡ now_received
        symbol_is = rw tail_is at e

        pub put_fits : SymbolWithin s (length (take (length row - b) (drop b row)))
        put_fits = rw (symbol_is, tail_is row b) fits

        pub turned : {part : List ℤ} {count took : ℕ} → took ≡ taken kind → PutSays (reliabilities_of s) count (take (length row - b) (drop b row)) part →
            Filled (take b row ++ (part ++ drop (length row - b) (drop b row))) (i + 1) (at + took) (b + count)
        turned t p = rw (put_tail row b _, t, p.many, p.row_is, symbol_is, tail_is row b) filled
