-- THE FIRST BEST WORD: of the tuples that cost the least, the one whose first word has the least number gives the first of all
-- codewords of least cost. A word's number is its layers' numbers together, and no layer of such a codeword comes before the first of its coset.
-- Assumes nothing.
use Rattle.basics.proofs.Kit.{◌≡◌, refl, sym, ap, ◌∙◌, true, List, [], ◌∷◌, ℕ, ◌+◌, ◌*◌, ◌/◌, ◌%◌, ◌^◌, ◌≤◌, ◌<◌, arith, length, ℤ}
use native.Mathlib.Nat.{add-mul, mul_assoc, div-one, div-div-eq-div-mul}
use Rattle.order.specs.Order.{not_after}
use Rattle.order.specs.Number.{number}
use Rattle.order.proofs.Numbers.{number_le, le_number}
use Rattle.field.proofs.Tests.{widths}
use Rattle.code.specs.Code.{is_codeword}
use Rattle.code.proofs.Words.{Below, widen, CodewordParts, codeword_parts}
use Rattle.split.specs.Split.{layer}
use Rattle.split.proofs.Layers.{layer_below, layer_length}
use Rattle.metric.specs.Cost.{cost}
use Rattle.metric.proofs.Finite.{digits}
use Rattle.trellis.specs.Trellis.{Columns, free, final, first_word, Adds}
use Rattle.trellis.specs.Trellis as T
use Rattle.trellis.specs.Rows as R
use Rattle.trellis.specs.Rows.{first_words, Firsts, weighed}
use Rattle.trellis.proofs.Firsts.{adds_le}
use Rattle.trellis.proofs.Trellis as TT
use Rattle.lanes.specs.Lanes.{lane}
use Rattle.lanes.proofs.Rows.{four}
use Rattle.walk.specs.Walk.{sum4}
use Rattle.bridge.specs.Bridge.{Setting}
use Rattle.bridge.proofs.Engine.{over}
use Rattle.bridge.proofs.Weave.{weave_layer}
use Rattle.bridge.proofs.Bridge.{table, Layered, layered, free_two, two_free}

-- a symbol is its bits
parts : (a b c d p : ℕ) → (a + 2 * b + 4 * c + 8 * d) * p ≡ a * p + 2 * (b * p) + 4 * (c * p) + 8 * (d * p)
parts a b c d p =
    omega (arith, add-mul (a + 2 * b + 4 * c) (8 * d) p, add-mul (a + 2 * b) (4 * c) p, add-mul a (2 * b) p, mul_assoc 2 b p, mul_assoc 4 c p, mul_assoc 8 d p)

-- four bits of it
bits : (c : ℕ) → c < 16 → c ≡ c / 1 % 2 + 2 * (c / 2 % 2) + 4 * (c / 4 % 2) + 8 * (c / 8 % 2)
bits c h =
    let e : c / 4 ≡ c / 2 / 2 = sym (div-div-eq-div-mul c 2 2) in
    let f : c / 8 ≡ c / 2 / 2 / 2 = sym (div-div-eq-div-mul c 4 2) ∙ ap (λ (x : ℕ). x / 2) e in
    let o : c / 1 ≡ c = div-one c in
    rw (o, e, f) (omega arith)

-- THE NUMBER OF A WORD is its layers' numbers together
number_layers : (ws : List ℕ) → Below 16 ws → number 16 ws ≡ sum4 (λ j. weighed j (layer j ws))
unfolding number weighed layer
number_layers [] b = refl
number_layers (c ∷ cs) b =
    let p : ℕ = 16 ^ length cs in
    omega (
      arith,
      number_layers cs b.1,
      ap (λ (x : ℕ). x * p) (bits c b.0),
      parts (c / 1 % 2) (c / 2 % 2) (c / 4 % 2) (c / 8 % 2) p,
      ap (λ (n : ℕ). c / 1 % 2 * 16 ^ n) (layer_length 0 cs),
      ap (λ (n : ℕ). c / 2 % 2 * 16 ^ n) (layer_length 1 cs),
      ap (λ (n : ℕ). c / 4 % 2 * 16 ^ n) (layer_length 2 cs),
      ap (λ (n : ℕ). c / 8 % 2 * 16 ^ n) (layer_length 3 cs),
    )

module _ {m r : ℕ} {hs : List ℕ} {N : ℕ} {conf : (k j : ℕ) → ℕ} {rs : List ℤ} {zs os : List ℕ} (y : Setting m r hs N conf rs zs os) (big : ℕ)
    (named : Firsts big hs zs os) where
  abbrev L : ℕ → Columns
  L = R.layer hs zs os

  abbrev F : ℕ → ℕ → ℕ
  F = table y big (λ j. free)

  -- the first word of a coset, and the number of those of a tuple
  abbrev first : (j s : ℕ) → List ℕ
  first j s = first_word (L j) big (length hs) s

  abbrev pub numbers : (s : ℕ → ℕ) → ℕ
  numbers s = sum4 (λ j. weighed j (first j (s j)))

  small_symbols : (ws : List ℕ) → is_codeword m r ws ≡ true → Below 16 ws
  small_symbols ws cw = widths (λ (m : ℕ). Below (2 ^ m) ws → Below 16 ws) (widen (omega arith) ws) (λ b. b) m y.glue.width (codeword_parts m r ws cw).symbols

  -- the number of the word of first words
  words_number : (s : List ℕ) → is_codeword m r (first_words big hs zs os s) ≡ true → number 16 (first_words big hs zs os s) ≡ numbers (lane s)
  unfolding weighed
  words_number s cw =
      number_layers (first_words big hs zs os s) (small_symbols (first_words big hs zs os s) cw)
      ∙ omega (arith, part 0 (omega arith), part 1 (omega arith), part 2 (omega arith), part 3 (omega arith))
    where
      part : (j : ℕ) → j < 4 → number 16 (layer j (first_words big hs zs os s)) ≡ number 16 (first j (lane s j))
      part j lj =
          ap (number 16) (weave_layer (length hs) (λ j. first j (lane s j)) (λ j lj. (TT.traced (L j) (final big) 0 (length hs) (lane s j)).count)
          (λ j lj. free_two 0 (first j (lane s j)) (TT.traced (L j) (final big) 0 (length hs) (lane s j)).held) j lj)

  -- no codeword that costs as little as its tuple has a lesser number than the tuple's first word
  module _ (vs : List ℕ) (cw : is_codeword m r vs ≡ true) (x : ℕ) (cost_is : cost m rs vs ≡ x) (small : x < big)
      (least : (k : ℕ) → k < N → x ≤ over F (conf k)) where
    v : Layered y big (λ j. free) (λ j. free_two) (λ j h. refl) vs
    v = layered y big (λ j. free) (λ j. free_two) (λ j h. refl) vs cw (λ j lj. two_free 0 (layer j vs) (layer_below j vs))

    abbrev s : ℕ → ℕ
    s = conf v.place

    sum_is : over F s ≡ x
    sum_is =
        omega (arith, v.no_less 0 (omega arith), v.no_less 1 (omega arith), v.no_less 2 (omega arith), v.no_less 3 (omega arith), v.costs, cost_is, least v.place v.inside)

    exact : (j : ℕ) → j < 4 → T.cost (L j) 0 (layer j vs) ≡ F j (s j)
    exact =
        let n0 = v.no_less 0 (omega arith) in
        let n1 = v.no_less 1 (omega arith) in
        let n2 = v.no_less 2 (omega arith) in
        let n3 = v.no_less 3 (omega arith) in
        let e = v.costs in
        let f = sum_is in
        four (λ j. T.cost (L j) 0 (layer j vs) ≡ F j (s j)) (omega (arith, cost_is)) (omega (arith, cost_is)) (omega (arith, cost_is)) (omega (arith, cost_is))

    layer_first : (j : ℕ) → j < 4 → number 16 (first j (s j)) ≤ number 16 (layer j vs)
    layer_first j lj =
        let p : CodewordParts m r vs = codeword_parts m r vs cw in
        let small_j : F j (s j) < big = four (λ j. F j (s j) < big) (omega (arith, sum_is)) (omega (arith, sum_is)) (omega (arith, sum_is)) (omega (arith, sum_is)) j lj in
        let n = named (s j) j small_j in
        let b = layer_below j vs in
        let own : Adds (L j) (length hs) (s j) (layer j vs) = record { count = layer_length j vs ∙ p.count ∙ sym y.glue.count; held = two_free 0 (layer j vs) b; sum = sym (v.sums j lj) } in
        let f = n.adds in
        number_le 16 (first j (s j)) (layer j vs) (f.count ∙ sym own.count) (digits 16 (first j (s j)) (widen (omega arith) (first j (s j)) (free_two 0 (first j (s j)) f.held)))
        (n.first (layer j vs) own (exact j lj ∙ omega (arith, n.least (layer j vs) own, exact j lj, adds_le (L j) big (length hs) (s j) (first j (s j)) f)))

    pub number_least : (k : ℕ) × (k < N) × (over F (conf k) ≡ x) × (numbers (conf k) ≤ number 16 vs)
    unfolding weighed
    number_least = (
      v.place,
      v.inside,
      sum_is,
      omega (
        arith,
        number_layers vs (small_symbols vs cw),
        layer_first 0 (omega arith),
        layer_first 1 (omega arith),
        layer_first 2 (omega arith),
        layer_first 3 (omega arith),
      ),
    )

  -- THE FIRST BEST WORD, of a tuple of least cost with the least number
  pub first_best : (at : List ℕ) (x : ℕ) → is_codeword m r (first_words big hs zs os at) ≡ true → x < big →
      ((k : ℕ) → k < N → x ≤ over F (conf k)) → ((k : ℕ) → k < N → over F (conf k) ≡ x → numbers (lane at) ≤ numbers (conf k)) →
      (vs : List ℕ) → is_codeword m r vs ≡ true → cost m rs vs ≡ x → not_after (first_words big hs zs os at) vs ≡ true
  first_best at x cw small least lowest vs cv e =
      let ws : List ℕ = first_words big hs zs os at in
      let n = number_least vs cv x e small least in
      let p : CodewordParts m r ws = codeword_parts m r ws cw in
      let q : CodewordParts m r vs = codeword_parts m r vs cv in
      le_number 16 ws vs (p.count ∙ sym q.count) (digits 16 vs (small_symbols vs cv)) (omega (arith, words_number at cw, lowest n.0 n.1 n.2, n.3))
