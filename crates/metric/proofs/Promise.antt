-- The statements of specs/Promise.antt.
-- Assumes nothing.
use Rattle.basics.proofs.Kit.{◌≡◌, refl, sym, ap, ap₂, ◌∙◌, Bool, true, false, cond, List, [], ◌∷◌, ◌++◌, ℕ, zero, suc, ◌+◌, ◌-◌, ◌*◌, ◌/◌, ◌≤◌, ◌<◌, arith, length, get_or, ℤ, pos, negsuc, nat_abs, ◌-ℤ◌}
use mathlib.Core.Logic.{◌⊎◌, inl, inr}
use mathlib.Core.Bool.{false≢true}
use mathlib.Core.List.{map}
use mathlib.Core.Option
use mathlib.Core.Option.{Option, none, some, none-ne-some}
use native.Mathlib.Nat.{eq-or-lt_of_le}
use lib.Dec.{lit<}
use lib.Seq.{ext_get_or}
use Rattle.order.specs.Promise.{OrderAntisymmetric}
use Rattle.order.proofs.Promise.{order_antisymmetric}
use Rattle.field.proofs.Tests.{to_T, widths}
use Rattle.code.specs.Code.{long, is_codeword}
use Rattle.code.specs.Bits.{bits_of, all_bits, bit_at, row_long}
use Rattle.code.specs.Promise.{BothThere}
use Rattle.code.proofs.Words.{below, good, codeword_parts}
use Rattle.code.proofs.Bits.{length_all_bits, word_one}
use Rattle.code.proofs.Both.{both_there}
use Rattle.metric.specs.Metric.{metric, at_most, Greatest, GreatestWith, Soft, Decoded, Marked, decided}
use Rattle.metric.specs.Cost.{cost_zero, cost_one, cost, top, Least}
use Rattle.metric.specs.Right.{SoftRight, MarkedRight}
use Rattle.metric.specs.Promise.{WordsFor, CodewordsFor, GreatestThere, GreatestWithThere, DecodedThere, MarkedThere, GreatestOne, GreatestWithOne, SoftWidth, BestOfTwo, DecidedRight, OneBest, UndecidedNone, UndecidedBoth, DecodedOne, MarkedOne, SoftEnough, DecodedEnough, MarkedEnough}
use Rattle.metric.proofs.Integers.{minus, same, size, minus_size, le_at_most, at_most_true, at_most_false, at_most_refl, at_most_antisym}
use Rattle.metric.proofs.Bounds.{word_size}
use Rattle.metric.proofs.Costs.{greatest, greatest_with, decoded_with}
use Rattle.metric.proofs.Marks.{marked_none, marked_short, marked_best}
use Rattle.metric.proofs.Finite.{least_there, least_with_there, first_there}

clash {ℓ} : {X : Type ℓ} {b : Bool} → b ≡ true → b ≡ false → X
clash p q = absurd (false≢true (sym q ∙ p))

-- THE CODEWORDS: the zero word, and at each bit one of each value
pub codewords_for : CodewordsFor
unfolding CodewordsFor BothThere row_long long
codewords_for m r rs w few l = record {
  count = long m;
  row = l;
  words = λ ws c. let p = codeword_parts m r ws c in (p.count, good m ws p.symbols);
  some = let y = (both_there m r 0 w few (widths (λ (m : ℕ). 0 < row_long m) (lit< tt) (lit< tt) m w)).0 in (y.0, y.1);
  both = λ b v h. held b v (rw l at h);
}
  where
    held : (b v : ℕ) → b < row_long m → v < 2 → (ws : List ℕ) × (is_codeword m r ws ≡ true) × (bit_at m b ws ≡ v)
    held b zero h k = (both_there m r b w few h).0
    held b (suc zero) h k = (both_there m r b w few h).1
    held b (suc (suc v)) h k = absurd (omega arith)

-- THERE IS A GREATEST, at the least cost
filled : (m : ℕ) (among : List ℕ → Bool) (rs : List ℤ) → WordsFor m among rs → (ws : List ℕ) → among ws ≡ true → length (all_bits m ws) ≡ length rs
filled m among rs x ws c = length_all_bits m ws ∙ ap (λ (n : ℕ). n * m) (x.words ws c).0 ∙ sym x.row

pub greatest_there : GreatestThere
unfolding GreatestThere
greatest_there m among rs x = let s = least_there m among rs x in (top rs s.0, greatest m among rs (filled m among rs x) s.0 s.1)

pub greatest_with_there : GreatestWithThere
unfolding GreatestWithThere
greatest_with_there m among rs b v x hb hv =
    let s = least_with_there m among rs x b v hb hv in (top rs s.0, greatest_with m among rs (filled m among rs x) b v s.0 s.1)

-- ONE GREATEST: each bounds the word that meets the other
pub greatest_one : GreatestOne
unfolding GreatestOne
greatest_one m among rs g h p q =
    at_most_antisym g h (rw p.met.2 at (q.all p.met.0 p.met.1)) (rw q.met.2 at (p.all q.met.0 q.met.1))

pub greatest_with_one : GreatestWithOne
unfolding GreatestWithOne
greatest_with_one m among rs b v g h p q =
    at_most_antisym g h (rw p.met.3 at (q.all p.met.0 p.met.1 p.met.2)) (rw q.met.3 at (p.all q.met.0 q.met.1 q.met.2))

-- THE WIDTH: a metric is at most 127 an entry, and there are at most 60
pub soft_width : SoftWidth
unfolding SoftWidth
soft_width m among rs b g h n f p q =
    let x : nat_abs g ≤ 7620 = rw p.met.3 at (word_size m rs p.met.0 n f) in
    let y : nat_abs h ≤ 7620 = rw q.met.3 at (word_size m rs q.met.0 n f) in
    let z : cost_zero (g -ℤ h) + cost_one (g -ℤ h) ≤ 15240 = omega (arith, size (g -ℤ h), minus_size g h) in
    (le_at_most (g -ℤ h) (pos 15240) (omega arith), le_at_most (negsuc 15239) (g -ℤ h) (omega arith))

-- THE BEST OF TWO: the best word has a 0 or a 1 at the bit
front : (k c : ℕ) (bs : List ℕ) (i : ℕ) → ((i : ℕ) → get_or bs i 0 < 2) → get_or (bits_of k c ++ bs) i 0 < 2
unfolding bits_of
front zero c bs i h = h i
front (suc k) c bs zero h = omega arith
front (suc k) c bs (suc i) h = front k (c / 2) bs i h

pub bit_small : (m b : ℕ) (ws : List ℕ) → bit_at m b ws < 2
unfolding bit_at all_bits
bit_small m b [] = omega arith
bit_small m b (c ∷ cs) = front m c (all_bits m cs) b (λ i. bit_small m i cs)

-- the greatest with a value at a bit: no more than the greatest, and no less where a best word has that value
with_most : (m : ℕ) (among : List ℕ → Bool) (rs : List ℤ) (b v : ℕ) (g h : ℤ) → Greatest m among rs g → GreatestWith m among rs b v h → cost_one h + cost_zero g ≤ cost_one g + cost_zero h
with_most m among rs b v g h t p = at_most_true h g (rw p.met.3 at (t.all p.met.0 p.met.1))

with_least :
    (m : ℕ) (among : List ℕ → Bool) (rs : List ℤ) (b v : ℕ) (g h : ℤ) → GreatestWith m among rs b v h →
    (ws : List ℕ) → among ws ≡ true → metric m rs ws ≡ g → bit_at m b ws ≡ v → cost_one g + cost_zero h ≤ cost_one h + cost_zero g
with_least m among rs b v g h p ws c e k = at_most_true g h (rw e at (p.all ws c k))

pub best_of_two : BestOfTwo
unfolding BestOfTwo
best_of_two m among rs b e g h t p q = go (at_most h g) refl (bit_at m b t.met.0) refl (bit_small m b t.met.0)
  where
    zero_most : cost_one g + cost_zero e ≤ cost_one e + cost_zero g
    zero_most = with_most m among rs b 0 e g t p

    one_most : cost_one h + cost_zero e ≤ cost_one e + cost_zero h
    one_most = with_most m among rs b 1 e h t q

    zero_least : bit_at m b t.met.0 ≡ 0 → cost_one e + cost_zero g ≤ cost_one g + cost_zero e
    zero_least = with_least m among rs b 0 e g p t.met.0 t.met.1 t.met.2

    one_least : bit_at m b t.met.0 ≡ 1 → cost_one e + cost_zero h ≤ cost_one h + cost_zero e
    one_least = with_least m among rs b 1 e h q t.met.0 t.met.1 t.met.2

    go : (x : Bool) → at_most h g ≡ x → (v : ℕ) → bit_at m b t.met.0 ≡ v → v < 2 → e ≡ cond x g h
    go true k zero y z = same e g (omega (arith, zero_most, zero_least y))
    go true k (suc zero) y z = same e g (omega (arith, zero_most, at_most_true h g k, one_least y))
    go false k zero y z = same e h (omega (arith, one_most, at_most_false h g k, zero_least y))
    go false k (suc zero) y z = same e h (omega (arith, one_most, one_least y))
    go x k (suc (suc v)) y z = absurd (omega arith)

-- A DECIDED BIT: a best word with 0 there has no less than the greatest with 1, and one with 1 no less than the greatest with 0
module _ (m : ℕ) (among : List ℕ → Bool) (rs : List ℤ) (b : ℕ) (g s : ℤ) (t : Greatest m among rs g) (z : Soft m among rs b s) where
  BestHave : (v : ℕ) → Type 0
  BestHave v = (ws : List ℕ) → among ws ≡ true → metric m rs ws ≡ g → bit_at m b ws ≡ v

  balance : (x : ℤ) → s ≡ x → cost_one x + (cost_zero z.of_zero + cost_one z.of_one) ≡ cost_zero x + (cost_one z.of_zero + cost_zero z.of_one)
  balance x e = rw (sym e ∙ z.difference) (minus z.of_zero z.of_one)

  every : (v : ℕ) → decided s ≡ some v → BestHave v
  unfolding BestHave decided
  every v d ws c k = go (bit_at m b ws) refl (bit_small m b ws) s refl d
    where
      go : (w : ℕ) → bit_at m b ws ≡ w → w < 2 → (x : ℤ) → s ≡ x → decided x ≡ some v → w ≡ v
      go zero y h (negsuc n) e f =
          absurd (omega (arith, balance (negsuc n) e, with_most m among rs b 1 g z.of_one t z.greatest_one, with_least m among rs b 0 g z.of_zero z.greatest_zero ws c k y))
      go zero y h (pos zero) e f = ap (λ o. Option.get_or o 0) f
      go zero y h (pos (suc n)) e f = ap (λ o. Option.get_or o 0) f
      go (suc zero) y h (negsuc n) e f = ap (λ o. Option.get_or o 1) f
      go (suc zero) y h (pos zero) e f = ap (λ o. Option.get_or o 1) f
      go (suc zero) y h (pos (suc n)) e f =
          absurd (omega (arith, balance (pos (suc n)) e, with_most m among rs b 0 g z.of_zero t z.greatest_zero, with_least m among rs b 1 g z.of_one z.greatest_one ws c k y))
      go (suc (suc w)) y h x e f = absurd (omega arith)

  -- where the two are the same, both are the best metric
  both_best : s ≡ pos 0 → (z.of_zero ≡ g) × (z.of_one ≡ g)
  unfolding BestOfTwo
  both_best e =
      let p : z.of_zero ≡ z.of_one = same z.of_zero z.of_one (omega (arith, balance (pos 0) e)) in
      let q : g ≡ z.of_one = best_of_two m among rs b g z.of_zero z.of_one t z.greatest_zero z.greatest_one ∙ either (at_most z.of_one z.of_zero) p in
      (p ∙ sym q, sym q)
    where
      either : (x : Bool) → z.of_zero ≡ z.of_one → cond x z.of_zero z.of_one ≡ z.of_one
      either true p = p
      either false p = refl

  undecided : (x : ℤ) → decided x ≡ none → x ≡ pos 0
  unfolding decided
  undecided (pos zero) e = refl
  undecided (pos (suc n)) e = absurd (none-ne-some 0 (sym e))
  undecided (negsuc n) e = absurd (none-ne-some 1 (sym e))

  both : decided s ≡ none → (v : ℕ) → v < 2 → (ws : List ℕ) × (among ws ≡ true) × (metric m rs ws ≡ g) × (bit_at m b ws ≡ v)
  both n zero h = let y = z.greatest_zero.met in (y.0, y.1, y.3 ∙ (both_best (undecided s n)).0, y.2)
  both n (suc zero) h = let y = z.greatest_one.met in (y.0, y.1, y.3 ∙ (both_best (undecided s n)).1, y.2)
  both n (suc (suc v)) h = absurd (omega arith)

  some_decided : (v : ℕ) → BestHave v → decided s ≡ some v
  unfolding BestHave
  some_decided v f = go (decided s) refl
    where
      go : (o : Option ℕ) → decided s ≡ o → decided s ≡ some v
      go none e =
          let y = both e 0 (omega arith) in
          let w = both e 1 (omega arith) in
          absurd (omega (arith, sym y.3 ∙ f y.0 y.1 y.2, sym w.3 ∙ f w.0 w.1 w.2))
      go (some u) e = e ∙ ap some (sym (every u e t.met.0 t.met.1 t.met.2) ∙ f t.met.0 t.met.1 t.met.2)

pub decided_right : DecidedRight
unfolding DecidedRight BestHave
decided_right m among rs b v g s t z = (every m among rs b g s t z v, some_decided m among rs b g s t z v)

pub undecided_both : UndecidedBoth
unfolding UndecidedBoth
undecided_both m among rs b g s t z = both m among rs b g s t z

-- WHAT DOCUMENT 03 ASKS: a greatest metric that is given is the one that is named
pub soft_enough : SoftEnough
unfolding SoftEnough SoftRight GreatestWithOne
soft_enough m among rs so n f = (
  n,
  λ b g h l p q. (f b l).difference
      ∙ ap₂ ◌-ℤ◌ (greatest_with_one m among rs b 0 (f b l).of_zero g (f b l).greatest_zero p) (greatest_with_one m among rs b 1 (f b l).of_one h (f b l).greatest_one q),
)

pub decoded_enough : DecodedEnough
unfolding DecodedEnough SoftEnough
decoded_enough m among rs ws best so d = record {
  word = d.word;
  own = d.own;
  most = d.most;
  softly = soft_enough m among rs so d.count d.softly;
}

pub marked_enough : MarkedEnough
unfolding MarkedEnough Marked GreatestOne
marked_enough m among rs ws zero d p = record {
  none = (λ e. p.0, λ e. (refl, p.1));
  best = (λ e. absurd (omega arith), λ c f. clash c p.0);
  short = λ g c k f. clash c p.0;
}
marked_enough m among rs ws (suc zero) d p =
    let g : ℤ = p.1.0 in
    let most : Greatest m among rs g = p.1.1 in
    record {
      none = (λ e. absurd (omega arith), λ c. clash p.0 c);
      best = (λ e. absurd (omega arith), λ c f. clash (rw most.met.2 at (f most.met.0 most.met.1)) p.1.2);
      short = λ h c k f. (refl, p.1.3 ∙ ap (λ (x : ℤ). x -ℤ metric m rs ws) (greatest_one m among rs g h most k));
    }
marked_enough m among rs ws (suc (suc zero)) d p = record {
  none = (λ e. absurd (omega arith), λ c. clash p.0 c);
  best = (λ e. (p.0, p.1.all), λ c f. (refl, p.2));
  short = λ h c k f. clash (rw (greatest_one m among rs h (metric m rs ws) k p.1) (at_most_refl (metric m rs ws))) f;
}
marked_enough m among rs ws (suc (suc (suc v))) d p = absurd p

-- A VERDICT: by membership, and by the cost against the least
pub marked_there : MarkedThere
unfolding MarkedThere
marked_there m among rs ws x = go (among ws) refl
  where
    by_cost : among ws ≡ true → (d : ℕ) → Least m among rs d → (d ≡ cost m rs ws) ⊎ (d < cost m rs ws) → (v : ℕ) × (e : ℤ) × Marked v e m among rs ws
    by_cost c d s (inl e) = (2, pos 0, marked_best m among rs (filled m among rs x) ws d c s (sym e))
    by_cost c d s (inr h) = (1, pos (2 * (cost m rs ws - d)), marked_short m among rs (filled m among rs x) ws d c s h)

    go : (t : Bool) → among ws ≡ t → (v : ℕ) × (d : ℤ) × Marked v d m among rs ws
    go true c = let s = least_there m among rs x in by_cost c s.0 s.1 (eq-or-lt_of_le (s.1.all ws c))
    go false c = (0, pos 0, marked_none m among rs ws c)

-- ONE VERDICT: what document 03 asks of the first, at what the second says
pub marked_one : MarkedOne
unfolding MarkedOne MarkedEnough Marked
marked_one m among rs ws v w d e p = go w (marked_enough m among rs ws v d p)
  where
    go : (w : ℕ) → MarkedRight m among rs ws v d → Marked w e m among rs ws → (v ≡ w) × (d ≡ e)
    go zero k q = let a : (v ≡ 0) × (d ≡ pos 0) = k.none.1 q.0 in (a.0, a.1 ∙ sym q.1)
    go (suc zero) k q =
        let a : (v ≡ 1) × (d ≡ q.1.0 -ℤ metric m rs ws) = k.short q.1.0 q.0 q.1.1 q.1.2 in
        (a.0, a.1 ∙ sym q.1.3)
    go (suc (suc zero)) k q = let a : (v ≡ 2) × (d ≡ pos 0) = k.best.1 q.0 q.1.all in (a.0, a.1 ∙ sym q.2)
    go (suc (suc (suc w))) k q = absurd q

-- A DECODING: the first word of least cost, and the soft outputs one after another
collected :
    (n : ℕ) (P : ℕ → ℤ → Type 0) → ((b : ℕ) → b < n → (s : ℤ) × P b s) →
    (so : List ℤ) × (length so ≡ n) × ((b : ℕ) → b < n → P b (get_or so b (pos 0)))
collected zero P f = ([], refl, λ b h. absurd (omega arith))
collected (suc n) P f =
    let s = f 0 (omega arith) in
    let t = collected n (λ b. P (suc b)) (λ b h. f (suc b) (omega arith)) in
    (s.0 ∷ t.0, ap suc t.1, at s.0 t.0 s.1 t.2)
  where
    at :
        (s : ℤ) (so : List ℤ) → P 0 s → ((b : ℕ) → b < n → P (suc b) (get_or so b (pos 0))) → (b : ℕ) → b < suc n →
        P b (get_or (s ∷ so) b (pos 0))
    at s so p q zero h = p
    at s so p q (suc b) h = q b (omega arith)

pub decoded_there : DecodedThere
unfolding DecodedThere GreatestWithThere
decoded_there m among rs x =
    let s = least_there m among rs x in
    let w = first_there m among rs x s.0 s.1 in
    let so = collected (length rs) (Soft m among rs) soft_at in
    (w.0, top rs s.0, so.0, decoded_with m among rs (filled m among rs x) w.0 s.0 so.0 w.1 w.2 s.1 w.3 so.1 so.2)
  where
    soft_at : (b : ℕ) → b < length rs → (s : ℤ) × Soft m among rs b s
    soft_at b h =
        let z = greatest_with_there m among rs b 0 x h (omega arith) in
        let o = greatest_with_there m among rs b 1 x h (omega arith) in
        (z.0 -ℤ o.0, record { of_zero = z.0; of_one = o.0; greatest_zero = z.1; greatest_one = o.1; difference = refl })

-- ONE DECODING: of two best words neither comes after the other
pub decoded_one : DecodedOne
unfolding DecodedOne OrderAntisymmetric SoftEnough SoftRight
decoded_one m among rs vs ws e g so to p q =
    let s : SoftRight m among rs so = soft_enough m among rs so p.count p.softly in
    let k : e ≡ g = at_most_antisym e g (rw (sym p.own) at (q.most vs p.word)) (rw (sym q.own) at (p.most ws q.word)) in (
      order_antisymmetric vs ws (p.first ws q.word (sym q.own ∙ sym k)) (q.first vs p.word (sym p.own ∙ k)),
      k,
      ext_get_or (pos 0) so to (p.count ∙ sym q.count) (λ b h. each s b (rw p.count at h)),
    )
  where
    each : SoftRight m among rs so → (b : ℕ) → b < length rs → get_or so b (pos 0) ≡ get_or to b (pos 0)
    each s b h =
        let t : Soft m among rs b (get_or to b (pos 0)) = q.softly b h in
        s.1 b t.of_zero t.of_one h t.greatest_zero t.greatest_one ∙ sym t.difference

-- the metric of a decoding is the greatest
pub decoded_greatest : (m : ℕ) (among : List ℕ → Bool) (rs : List ℤ) (ws : List ℕ) (g : ℤ) (so : List ℤ) → Decoded m among rs ws g so → Greatest m among rs g
decoded_greatest m among rs ws g so d = record { met = (ws, d.word, sym d.own); all = d.most }

-- NO UNDECIDED BIT: best words have what is decided, so all their bits; and of one best word every bit is decided
decided_as : (so : List ℤ) (bs : List ℕ) → length so ≡ length bs → ((b : ℕ) → b < length so → decided (get_or so b (pos 0)) ≡ some (get_or bs b 0)) → map decided so ≡ map some bs
decided_as [] [] l f = refl
decided_as [] (b ∷ bs) l f = absurd (omega arith)
decided_as (s ∷ so) [] l f = absurd (omega arith)
decided_as (s ∷ so) (b ∷ bs) l f = ap₂ ◌∷◌ (f 0 (omega arith)) (decided_as so bs (omega arith) (λ i h. f (suc i) (omega arith)))

module _ (m : ℕ) (among : List ℕ → Bool) (rs : List ℤ) (ws : List ℕ) (best : ℤ) (so : List ℤ) (d : Decoded m among rs ws best so) where
  abbrev pub Best : (vs : List ℕ) → Type 0
  Best vs = (among vs ≡ true) × (metric m rs vs ≡ best)

  -- two best words have the same bit where one is decided
  pub agreed : (b : ℕ) → b < length rs → (decided (get_or so b (pos 0)) ≡ none → ⊥) → (us vs : List ℕ) → Best us → Best vs → bit_at m b us ≡ bit_at m b vs
  unfolding DecidedRight
  agreed b h f us vs p q = go (decided (get_or so b (pos 0))) refl
    where
      go : (o : Option ℕ) → decided (get_or so b (pos 0)) ≡ o → bit_at m b us ≡ bit_at m b vs
      go none y = absurd (f y)
      go (some v) y =
          let r = (decided_right m among rs b v best (get_or so b (pos 0)) (decoded_greatest m among rs ws best so d) (d.softly b h)).0 y in
          r us p.0 p.1 ∙ sym (r vs q.0 q.1)

pub undecided_none : UndecidedNone
unfolding UndecidedNone DecidedRight GreatestOne bit_at
undecided_none m among rs ws best so x d = ((λ f. (ws, only f), λ p b h e. absurd (none-ne-some _ (sym e ∙ spelt p.0 p.1 b h))), spelling)
  where
    t : Greatest m among rs best
    t = decoded_greatest m among rs ws best so d

    only : ((b : ℕ) → b < length rs → decided (get_or so b (pos 0)) ≡ none → ⊥) → OneBest m among rs ws
    only f = record {
      best = rw (← d.own) t;
      only = λ vs c e. word_one m vs ws ((x.words vs c).0 ∙ sym (x.words ws d.word).0) (below m vs (to_T (x.words vs c).1)) (below m ws (to_T (x.words ws d.word).1))
          (ext_get_or 0 (all_bits m vs) (all_bits m ws) (filled m among rs x vs c ∙ sym (filled m among rs x ws d.word))
          (λ b h. let k : b < length rs = rw (filled m among rs x vs c) at h in
          agreed m among rs ws best so d b k (f b k) vs ws (c, e ∙ sym d.own) (d.word, sym d.own)));
    }

    spelt : (vs : List ℕ) → OneBest m among rs vs → (b : ℕ) → b < length rs → decided (get_or so b (pos 0)) ≡ some (bit_at m b vs)
    spelt vs p b h =
        (decided_right m among rs b (bit_at m b vs) best (get_or so b (pos 0)) t (d.softly b h)).1
        (λ us c e. ap (bit_at m b) (p.only us c (e ∙ greatest_one m among rs best (metric m rs vs) t p.best)))

    spelling : (vs : List ℕ) → OneBest m among rs vs → map decided so ≡ map some (all_bits m vs)
    spelling vs p =
        let w = p.best.met in
        let l : length (all_bits m vs) ≡ length rs = filled m among rs x vs (rw (p.only w.0 w.1 w.2) at w.1) in
        decided_as so (all_bits m vs) (d.count ∙ sym l) (λ b h. spelt vs p b (rw d.count at h))
